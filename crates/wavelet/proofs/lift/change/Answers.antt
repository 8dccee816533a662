-- `lift::change` meets its contract.
use Rattle.laws.specs.Laws.Wrap.{add-bits}
use Rattle.wavelet.specs.Laws.Product.{sub-bits}
use Rattle.wavelet.proofs.lift.change.Goals as goal

pub returns-then-plus : goal.returns-then-plus
returns-then-plus c = rw c.if-plus.true (add-bits c.args.x c.args.d c.ranges.x c.ranges.d)

pub returns-else-plus : goal.returns-else-plus
returns-else-plus c = rw c.if-plus.false (sub-bits c.args.x c.args.d c.ranges.x c.ranges.d)
