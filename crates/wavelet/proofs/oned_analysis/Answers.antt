-- `oned_analysis` meets its contract.
use Rattle.std.proofs.Common.{arith}
use Rattle.wavelet.specs.Laws.RowCall.{refuse_filter, refuse_long, analysed}
use Rattle.wavelet.proofs.oned_analysis.Goals as goal

pub returns-then-index-gt6 : goal.returns-then-index-gt6
returns-then-index-gt6 c = refuse_filter c.args.index c.args.row.now (omega arith)

pub returns-then-row-gt65536 : goal.returns-then-row-gt65536
returns-then-row-gt65536 c = refuse_long c.args.index c.args.row.now (omega arith) (omega arith)

pub returns : goal.returns
returns c =
    analysed c.args.index c.args.row.now c.analyse.new.row (omega arith) (omega arith) c.analyse.ensures
