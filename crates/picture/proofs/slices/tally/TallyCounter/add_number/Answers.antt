-- `slices::tally::Tally::add_number` meets its contract.
use mathlib.Core.Path.{◌≡◌}
use native.Mathlib.Omega.{arith}
use lib.ListN.{length}
use mir.Facts.{to_z-of_z}
use Rattle.codewords.specs.CodeWord.{code_s}
use Rattle.quantiser.specs.Quant.{forward_by}
use Rattle.picture.specs.Code.Strip.{plane_from}
use Rattle.picture.specs.Laws.Cost.{one_bit}
use Rattle.picture.specs.Laws.Tally.{plain_number}
use Rattle.picture.proofs.slices.tally.TallyCounter.add_number.Goals as goal

pub returns : goal.returns
returns c =
    let a = c.args in
    let p = plain_number a.work.now a.s a.coefs a._base a.y a.x c.requires.1.0 in
    let n : c.forward_len_by.result ≡ length (code_s (forward_by a.s.factor (plane_from a.work.now a.coefs a.s.width a.y a.x))) = grind (arith, to_z-of_z) in
    let i = one_bit _ _ n in
    rw (← p) cc
