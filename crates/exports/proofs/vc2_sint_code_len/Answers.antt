-- `vc2_sint_code_len` meets its contract.
use mathlib.Core.Path.{◌∙◌}
use mir.Syntax.{w64}
use mir.Facts.{to_z-of_z}
use Rattle.exports.proofs.vc2_sint_code_len.Goals as goal

pub returns : goal.returns
returns c = c.sint_code_len.ensures ∙ rw (to_z-of_z {w = w64} c.ranges.v)
