-- `quantiser::quant_offset` meets its contract.
use mathlib.Core.Path.{ap, ◌∙◌}
use lib.IntN.{pos}
use mir.Syntax.{w64}
use mir.Facts.{to_z_pos}
use Rattle.quantiser.specs.Laws.Step.{refused, answered}
use Rattle.std.specs.Prelude.{Err}
use Rattle.std.proofs.lemmas.Result.{err_from_is_err_and}
use Rattle.quantiser.proofs.quant_offset.Goals as goal

pub returns-in_err-in_table : goal.returns-in_err-in_table
returns-in_err-in_table c =
    let p = err_from_is_err_and c.from_residual.result c.from_residual.ensures.1 in
    refused c.args.index _ (p.1 ∙ ap Err (p.2 ∙ c.in_err-in_table.ensures.err.0)) c.in_err-in_table.ensures.err.1

pub returns : goal.returns
returns c = answered c.args.index _ _ c.in_ok-in_table.ensures.ok (to_z_pos w64 c.offset_at.ensures.1 ∙ ap pos c.offset_at.ensures.0)
