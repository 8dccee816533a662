-- `quantiser::forward_quant` meets its contract.
use mathlib.Core.Path.{ap, ◌∙◌}
use mir.Syntax.{w64}
use mir.Facts.{to_z-of_z}
use Rattle.quantiser.specs.Quant.{forward_quant}
use Rattle.quantiser.specs.Laws.Step.{back, refused, answered}
use Rattle.std.specs.Prelude.{Err}
use Rattle.std.proofs.lemmas.Result.{err_from_is_err_and}
use Rattle.quantiser.proofs.forward_quant.Goals as goal

pub returns-in_err-in_table : goal.returns-in_err-in_table
returns-in_err-in_table c =
    let p = err_from_is_err_and c.from_residual.result c.from_residual.ensures.1 in
    refused c.args.index _ (p.1 ∙ ap Err (p.2 ∙ c.in_err-in_table.ensures.err.0)) c.in_err-in_table.ensures.err.1

pub returns : goal.returns
unfolding forward_quant
returns c =
    answered c.args.index _ _ c.in_ok-in_table.ensures.ok
    (back _ c.forward_by.type_inv ∙ c.forward_by.ensures ∙ rw (c.table_at.ensures.0, to_z-of_z {w = w64} c.ranges.coeff))
