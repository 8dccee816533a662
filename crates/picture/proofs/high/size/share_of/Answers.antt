-- `high::size::share_of` meets its contract.
use Rattle.picture.specs.Laws.HighIndex.{share_more, share_plain}
use Rattle.picture.proofs.high.size.share_of.Goals as goal

pub returns-then-k-n : goal.returns-then-k-n
returns-then-k-n c = let a = c.args in share_more a.n a.d a.k c.if-k-n.true

pub returns-else-k-n : goal.returns-else-k-n
returns-else-k-n c = let a = c.args in share_plain a.n a.d a.k c.if-k-n.false
