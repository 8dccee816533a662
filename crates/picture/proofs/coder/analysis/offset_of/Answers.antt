-- `coder::analysis::offset_of` meets its contract.
use Rattle.unit.specs.Code.Valid.{Between}
use Rattle.picture.specs.Laws.Analysis.{depth-of, offset-of}
use native.Mathlib.Omega.{arith}
use Rattle.picture.proofs.coder.analysis.offset_of.Goals as goal
use Rattle.picture.proofs.coder.analysis.offset_of.Goals.{After-intlog2-d}

known : (c : After-intlog2-d) → Between 16 c.intlog2-d.result
known c = depth-of c.args.excursion c.intlog2-d.result c.requires c.intlog2-d.ensures.0

pub overflow_sub-result : goal.overflow_sub-result
overflow_sub-result c = omega (arith, known c)

pub overflow_shl-result : goal.overflow_shl-result
overflow_shl-result c = omega (arith, known c)

pub returns : goal.returns
returns c = offset-of c.args.excursion c.intlog2-d.result c.requires c.intlog2-d.ensures.0
