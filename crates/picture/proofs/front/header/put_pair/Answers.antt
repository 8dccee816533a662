-- `picture::front::header::put_pair` meets its contract.
use Rattle.codewords.specs.Laws.Writer.{wrote_then}
use Rattle.picture.proofs.front.header.put_pair.Goals as goal

pub returns : goal.returns
returns c = wrote_then c.requires.sound c.put_uint.ensures c.put_uint-2.ensures
