-- `quantiser::annex_d::cell_of` meets its contract.
use Rattle.quantiser.specs.Laws.Cell.{PlaceAt, place, cell_past}
use Rattle.quantiser.proofs.annex_d.cell_of.Goals as goal
use Rattle.quantiser.proofs.annex_d.cell_of.Goals.{Else-depth_ho-gt4}

-- the table's starts are those of the definition
at : (c : Else-depth_ho-gt4) → PlaceAt c.args.depth c.args.depth_ho
at c = place c.args.depth c.args.depth_ho c.if-depth_ho-gt4.false

pub returns-then-depth_ho-gt4-clause-is : goal.returns-then-depth_ho-gt4-clause-is
returns-then-depth_ho-gt4-clause-is c = cell_past c.args.depth c.args.depth_ho c.if-depth_ho-gt4.true

pub overflow_sub-k : goal.overflow_sub-k
overflow_sub-k c = (at (goal.at.overflow_sub-k c).Else-depth_ho-gt4).order

pub overflow_add-result : goal.overflow_add-result
overflow_add-result c = record { fits = (at (goal.at.overflow_add-result c).Else-depth_ho-gt4).small c.if-depth-k.true }

pub returns-then-depth-k-clause-is : goal.returns-then-depth-k-clause-is
returns-then-depth-k-clause-is c = (at (goal.at.returns-then-depth-k-clause-is c).Else-depth_ho-gt4).there c.if-depth-k.true

pub returns-else-depth-k-clause-is : goal.returns-else-depth-k-clause-is
returns-else-depth-k-clause-is c = (at (goal.at.returns-else-depth-k-clause-is c).Else-depth_ho-gt4).not_there c.if-depth-k.false
