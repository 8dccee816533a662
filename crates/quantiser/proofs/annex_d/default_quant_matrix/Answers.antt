-- `quantiser::annex_d::default_quant_matrix` meets its contract.
use mathlib.Core.Path.{◌∙◌}
use native.Mathlib.Omega.{arith}
use Rattle.quantiser.specs.Laws.Cell.{no_table, no_matrix_lem, is_matrix}
use Rattle.quantiser.proofs.annex_d.default_quant_matrix.Goals as goal

pub returns-in_err-table : goal.returns-in_err-table
returns-in_err-table c = c.from_residual.ensures ∙ no_table _ _ _ _ 8 c.in_err-table.ensures.is (omega arith)

pub returns-in_err-cell : goal.returns-in_err-cell
returns-in_err-cell c =
    let t = c.in_ok-table.ensures in
    c.from_residual-in_err-cell.ensures ∙ no_matrix_lem _ _ _ _ _ t.is 19 c.in_err-cell.ensures.is t.few (omega arith)

pub returns : goal.returns
returns c =
    let t = c.in_ok-table.ensures in
    let k = c.in_ok-cell.ensures in
    is_matrix _ _ _ _ _ t.is _ k.is t.few k.few _ c.matrix_at.ensures
