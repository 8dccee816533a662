-- `quantiser::annex_d::matrix_at` meets its contract. The invariant: the first i values stand in their places.
use mathlib.Core.Path.{◌≡◌}
use Rattle.quantiser.specs.Code.Cells.{matrix_at}
use Rattle.quantiser.specs.Laws.Cell.{filled}
use Rattle.quantiser.proofs.annex_d.matrix_at.Given as goal

abbrev pub invariant-loop-i : goal.invariant-loop-i
invariant-loop-i l = l.values ≡ filled (matrix_at l.table l.cell) l.i
