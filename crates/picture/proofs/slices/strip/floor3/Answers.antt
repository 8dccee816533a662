-- `slices::strip::floor3` meets its contract.
use mir.Facts.{to_z-of_z}
use Rattle.laws.specs.Laws.Machine.{floor3_neg, floor3_pos}
use native.Mathlib.Omega.{arith}
use Rattle.picture.proofs.slices.strip.floor3.Goals as goal

pub returns-then-s-lt0 : goal.returns-then-s-lt0
returns-then-s-lt0 c = grind (arith, to_z-of_z, floor3_neg)

pub returns-else-s-lt0 : goal.returns-else-s-lt0
returns-else-s-lt0 c = grind (arith, to_z-of_z, floor3_pos)
