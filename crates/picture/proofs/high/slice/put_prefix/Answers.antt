use Rattle.codewords.specs.Laws.Writer.{wrote_none}
use Rattle.picture.specs.Laws.HighSlice.{prefix_turn}
use Rattle.picture.proofs.high.slice.put_prefix.Goals as goal

pub loop-init : goal.loop-init
loop-init c = wrote_none c.requires.0

pub loop-preserved : goal.loop-preserved
loop-preserved c =
    let v = c.loop in
    prefix_turn v.counter c.requires.0.sound v.invariant c.put_nbits.ensures
