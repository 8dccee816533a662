-- `picture::front::header::put_flagged` meets its contract.
use Rattle.codewords.specs.Laws.Writer.{wrote_then}
use Rattle.picture.specs.Laws.Head.{flagged_on}
use Rattle.picture.proofs.front.header.put_flagged.Goals as goal

pub returns-then-flag : goal.returns-then-flag
returns-then-flag c =
    rw (flagged_on c.args.flag c.args.v c.if-flag.true) (wrote_then c.requires.sound c.put_bit.ensures c.put_uint.ensures)
