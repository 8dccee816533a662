-- `quantiser::forward_len_by` meets its contract.
use mathlib.Core.Path.{◌≡◌}
use native.Mathlib.Omega.{arith}
use lib.IntN.{nat_abs}
use Rattle.quantiser.specs.Laws.Step.{abs_read}
use Rattle.quantiser.specs.Laws.Length.{Length, length_law}
use Rattle.quantiser.proofs.forward_len_by.Goals as goal
use Rattle.quantiser.proofs.forward_len_by.Goals.{After-quotient_log2-e, After-unsigned_abs}

is-abs : (c : After-unsigned_abs) → c.unsigned_abs.result ≡ nat_abs c.args.c
is-abs c = abs_read c.args.c _ c.ranges.c c.unsigned_abs.ensures.0

pub overflow_mul-n : goal.overflow_mul-n
overflow_mul-n c = omega (arith, is-abs c)

pub overflow_add-n : goal.overflow_add-n
overflow_add-n c = omega (arith, is-abs c)

known : (c : After-quotient_log2-e) → Length c.args.f c.quotient_log2-e.result c.args.c
known c =
    length_law c.args.f c.unsigned_abs.result c.quotient_log2-e.result c.args.c (omega arith) (abs_read c.args.c _ c.ranges.c c.unsigned_abs.ensures.0) c.requires.1 c.quotient_log2-e.ensures

pub overflow_mul-result : goal.overflow_mul-result
overflow_mul-result c = omega (arith, (known (goal.at.overflow_mul-result c).After-quotient_log2-e).short)

pub overflow_add-result : goal.overflow_add-result
overflow_add-result c = omega (arith, (known (goal.at.overflow_add-result c).After-quotient_log2-e).short)

pub returns-then-e-eq0 : goal.returns-then-e-eq0
returns-then-e-eq0 c = (known (goal.at.returns-then-e-eq0 c).After-quotient_log2-e).none c.if-e-eq0.true

pub returns-else-e-eq0 : goal.returns-else-e-eq0
returns-else-e-eq0 c = (known (goal.at.returns-else-e-eq0 c).After-quotient_log2-e).some (omega arith)
