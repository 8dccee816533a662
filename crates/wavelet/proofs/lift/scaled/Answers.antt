-- `lift::scaled` meets its contract.
use Rattle.std.proofs.Common.{◌/◌, ◌^◌, pos, ◌+ℤ◌, to_z-of_z, w64, SFits}
use lib.Signed.{mag_shr}
use mir.ValLaws.{sfits_le}
use borrow.Author.Rules.{sfits_of}
use Rattle.laws.specs.Wrap.{wrap}
use Rattle.laws.specs.Laws.Wrap.{add-bits, wraps}
use Rattle.wavelet.proofs.lift.scaled.Goals as goal

pub returns : goal.returns
returns c =
    let a = c.args in
    let fr : SFits w64 c.rounding.result = sfits_of c.rounding.type_inv in
    let z = a.sum +ℤ pos (2 ^ a.shift / 2) in
    let fz : SFits w64 (wrap z) = record { sfits = (wraps z).fits } in
    rw (add-bits a.sum c.rounding.result c.ranges.sum fr, c.rounding.ensures) (to_z-of_z {w = w64} (sfits_le (mag_shr (wrap z) (2 ^ a.shift)) fz))
