-- `low::slice::put_runs` meets its contract.
use lib.ListN.{take}
use Rattle.codewords.specs.Bit.{Bits}
use Rattle.codewords.specs.CodeWord.{codes}
use Rattle.codewords.specs.Laws.Writer.{wrote_then}
use Rattle.picture.specs.Laws.Head.{room_first, room_rest}
use Rattle.picture.specs.Code.Low.{luma_in, colour_in}
use Rattle.picture.specs.Laws.Layout.{run_lies}
use Rattle.picture.specs.Laws.Picture.{run_y, run_pair}
use Rattle.picture.proofs.low.slice.put_runs.Goals as goal
use Rattle.picture.proofs.low.slice.put_runs.Goals.{Start}

abbrev luma_bits : Start → Bits
luma_bits c = codes (take c.args.r.luma.count (luma_in c.args.work.now c.args.s.picture c.args.s.k c.args.q))

abbrev colour_bits : Start → Bits
colour_bits c = codes (take c.args.r.colour.count (colour_in c.args.work.now c.args.s.picture c.args.s.k c.args.q))

pub run-requires-2 : goal.run-requires-2
run-requires-2 c =
    rw c.run.ensures (run_lies (run_y c.requires.0), room_first (luma_bits (goal.at.run-requires-2 c).Start) (colour_bits (goal.at.run-requires-2 c).Start) c.requires.1)

pub run-requires-3 : goal.run-requires-3
run-requires-3 c =
    rw c.colours.ensures (run_lies (run_pair c.requires.0), room_rest (luma_bits (goal.at.run-requires-3 c).Start) (colour_bits (goal.at.run-requires-3 c).Start) c.requires.1 (rw c.run.ensures at c.run-2.ensures))

pub returns : goal.returns
returns c = wrote_then c.requires.1.sound (rw c.run.ensures at c.run-2.ensures) (rw c.colours.ensures at c.run-3.ensures)
