-- `quantiser::inverse_by` meets its contract.
use mathlib.Core.Path.{◌≡◌, sym, ◌∙◌}
use native.Mathlib.Omega.{arith}
use lib.IntN.{nat_abs}
use mir.Syntax.{w64}
use mir.Facts.{to_z-of_z}
use Rattle.quantiser.specs.Laws.Step.{back, abs_read, inverse-zero, inverse-more}
use Rattle.quantiser.proofs.inverse_by.Goals as goal
use Rattle.quantiser.proofs.inverse_by.Goals.{After-unsigned_abs-m}

is-abs : (c : After-unsigned_abs-m) → c.unsigned_abs-m.result ≡ nat_abs c.args.q
is-abs c = abs_read c.args.q _ c.ranges.q c.unsigned_abs-m.ensures.0

pub returns-then-m-eq0 : goal.returns-then-m-eq0
returns-then-m-eq0 c =
    inverse-zero c.args.f c.args.off c.args.q (sym (is-abs (goal.at.returns-then-m-eq0 c).After-unsigned_abs-m) ∙ c.if-m-eq0.true)

pub returns : goal.returns
returns c =
    let a = c.args in
    back _ c.signed.type_inv ∙ c.signed.ensures
    ∙ rw (to_z-of_z {w = w64} c.ranges.q)
    (inverse-more a.f a.off _ c.capped_mul-product.result _ _ a.q (is-abs (goal.at.returns c).After-unsigned_abs-m) (omega arith) (rw (← c.cap.ensures.0) c.capped_mul-product.ensures.0) c.cap-2.ensures.0 c.cap-sum.ensures.0)
