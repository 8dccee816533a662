-- `picture::front::header::numerator` meets its contract.
use mathlib.Core.Path.{sym, ap, ◌∙◌}
use Rattle.picture.specs.Code.Matrix.{lent_in}
use Rattle.picture.specs.Code.Head.{numerator_after}
use Rattle.picture.specs.Laws.Head.{numerator_twice}
use Rattle.picture.proofs.front.header.numerator.Goals as goal

pub returns : goal.returns
returns c =
    let a = c.args in
    let s = a.call.settings in
    let m = lent_in a.call.matrix in
    c.numerator_after.ensures
    ∙ ap (numerator_after s m) (c.numerator_after-first.ensures ∙ ap (numerator_after s m) c.target_of.ensures)
    ∙ sym (numerator_twice s m)
