-- `quantiser::forward_by` meets its contract.
use mathlib.Core.Path.{◌∙◌}
use mir.Syntax.{w64}
use mir.Facts.{to_z-of_z}
use Rattle.quantiser.specs.Laws.Step.{back, abs_read, forward_is}
use Rattle.quantiser.proofs.forward_by.Goals as goal

pub returns : goal.returns
returns c =
    let f = c.args.f in
    let z = c.args.c in
    let m = c.unsigned_abs-m.result in
    back _ c.signed.type_inv ∙ c.signed.ensures
    ∙ rw (to_z-of_z {w = w64} c.ranges.c) (forward_is f m _ _ z (abs_read z m c.ranges.c c.unsigned_abs-m.ensures.0) c.four_over.ensures c.cap.ensures.0)
