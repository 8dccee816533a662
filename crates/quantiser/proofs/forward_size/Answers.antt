-- `quantiser::forward_size` meets its contract.
use mathlib.Core.Path.{◌≡◌, sym, ap, ◌∙◌}
use Prim.Native.Nat.{ℕ, ◌*◌, ◌/◌}
use native.Mathlib.Omega.{arith}
use lib.IntN.{nat_abs}
use Rattle.quantiser.specs.Quant.{forward_by}
use Rattle.quantiser.specs.Laws.Step.{abs_read, over_four, over_none, over_more, forward_abs}
use Rattle.quantiser.proofs.forward_size.Goals as goal
use Rattle.quantiser.proofs.forward_size.Goals.{After-unsigned_abs-m}

is-abs : (c : After-unsigned_abs-m) → c.unsigned_abs-m.result ≡ nat_abs c.args.c
is-abs c = abs_read c.args.c _ c.ranges.c c.unsigned_abs-m.ensures.0

size_is : (c : After-unsigned_abs-m) → 4 * c.unsigned_abs-m.result / c.args.f ≡ nat_abs (forward_by c.args.f c.args.c)
size_is c =
    ap (λ (m : ℕ). 4 * m / c.args.f) (is-abs c) ∙ sym (forward_abs c.args.f c.args.c c.requires.1)

pub returns-then-f-eq4 : goal.returns-then-f-eq4
returns-then-f-eq4 c = (over_four _ _ c.if-f-eq4.true ∙ size_is (goal.at.returns-then-f-eq4 c).After-unsigned_abs-m, omega (arith, is-abs (goal.at.returns-then-f-eq4 c).After-unsigned_abs-m))

pub overflow_mul-m : goal.overflow_mul-m
overflow_mul-m c = omega (arith, is-abs (goal.at.overflow_mul-m c).After-unsigned_abs-m)

pub overflow_mul-result : goal.overflow_mul-result
overflow_mul-result c = omega (arith, is-abs (goal.at.overflow_mul-result c).After-unsigned_abs-m)

pub returns-then-m-f : goal.returns-then-m-f
returns-then-m-f c = (over_none c.unsigned_abs-m.result _ c.if-m-f.true ∙ size_is (goal.at.returns-then-m-f c).After-unsigned_abs-m, omega arith)

pub returns-else-m-f : goal.returns-else-m-f
returns-else-m-f c =
    (size_is (goal.at.returns-else-m-f c).After-unsigned_abs-m, omega (arith, is-abs (goal.at.returns-else-m-f c).After-unsigned_abs-m, over_more c.unsigned_abs-m.result c.args.f c.requires.0.0))
