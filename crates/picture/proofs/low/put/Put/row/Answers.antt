-- `low::put::Put::row` meets its contract.
use Rattle.picture.specs.Laws.Put.{puts_past}
use Rattle.picture.proofs.low.put.Put.row.Goals as goal

pub returns-then-self-eq0 : goal.returns-then-self-eq0
returns-then-self-eq0 c = puts_past _ c.requires.0 c.if-self-eq0.true
