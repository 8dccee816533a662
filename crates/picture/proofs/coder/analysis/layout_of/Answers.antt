-- `coder::analysis::layout_of` meets its contract.
use Rattle.picture.specs.Code.Matrix.{lent_in}
use Rattle.picture.specs.Laws.Analysis.{layout_is}
use Rattle.picture.proofs.coder.analysis.layout_of.Goals as goal

pub returns : goal.returns
returns c =
    layout_is c.args.call.settings (lent_in c.args.call.matrix) c.args.call.matrix.values c.is_low.result c.args.call.carries.values c.is_low.ensures
