-- `lift::stage_count` meets its contract.
use Rattle.std.proofs.Common.{arith}
use Rattle.wavelet.specs.Laws.Table.{in_table}
use Rattle.wavelet.proofs.lift.stage_count.Goals as goal

pub returns-then-index-lt6 : goal.returns-then-index-lt6
returns-then-index-lt6 c = (in_table c.args.index c.requires).two (omega arith)

pub returns-else-index-lt6 : goal.returns-else-index-lt6
returns-else-index-lt6 c = (in_table c.args.index c.requires).four (omega arith)
