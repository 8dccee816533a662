-- `codewords::writer::BitWriter::byte_align` meets its contract.
use mathlib.Core.List.{append-nil}
use native.Mathlib.Omega.{arith}
use Rattle.codewords.specs.Bit.{zero_bits}
use Rattle.codewords.specs.Laws.Bit.{length-lit, lit-zeros}
use Rattle.codewords.specs.Bytes.{padding}
use Rattle.codewords.specs.Laws.Writer.{wrote_then, room_after}
use Rattle.codewords.proofs.writer.BitWriter.byte_align.Goals as goal

pub flush-requires : goal.flush-requires
flush-requires c =
    room_after 0 c.requires c.put_short.ensures (omega (arith, length-lit (padding c.args.self.now.pending_bits) 0))

pub returns : goal.returns
returns c =
    let k = padding c.args.self.now.pending_bits in
    let p = c.put_short.ensures in
    let f = c.flush.ensures in
    record {
      wrote = rw (append-nil (zero_bits k)) at (wrote_then c.requires.sound (rw (lit-zeros k) at p) f.wrote);
      whole = omega (arith, p.place, f.wrote.place, f.part, length-lit k 0);
    }
