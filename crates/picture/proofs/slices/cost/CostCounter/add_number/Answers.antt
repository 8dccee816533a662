-- `slices::cost::Cost::add_number` meets its contract.
use native.Mathlib.Omega.{arith}
use Rattle.picture.specs.Laws.Cost.{one_bit}
use Rattle.picture.proofs.slices.cost.CostCounter.add_number.Goals as goal

pub returns : goal.returns
returns c = grind (arith, one_bit)
