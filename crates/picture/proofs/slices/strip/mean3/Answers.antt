-- `picture::slices::strip::mean3` meets its contract.
use mir.Facts.{to_z-of_z}
use native.Mathlib.Omega.{arith}
use Rattle.picture.proofs.slices.strip.mean3.Goals as goal

pub returns : goal.returns
returns c = grind (arith, to_z-of_z)
