-- `low::size::slice_bytes` meets its contract.
use Rattle.picture.specs.Laws.LowIndex.{bytes_are}
use Rattle.picture.proofs.low.size.slice_bytes.Goals as goal

pub returns : goal.returns
returns c = bytes_are c.args.n c.args.d c.args.k c.requires.0 c.requires.1.0
