-- `replay::codes::put_one` meets its contract.
use Rattle.codewords.specs.Laws.Bit.{length-lit}
use Rattle.replay.proofs.codes.put_one.Goals as goal

pub put_nbits-requires : goal.put_nbits-requires
put_nbits-requires c =
    let g = c.in-Nbits in
    let p = rw g.is at c.requires in
    (rw (length-lit g.n g.v) at p.0, p.1)
