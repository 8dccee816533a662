-- `codewords::writer::BitWriter::flush` meets its contract. The loop's invariant: the bytes of the bits pending from
-- place k on are laid, where k bits are left.
use mathlib.Core.Path.{◌≡◌}
use Prim.Native.Nat.{◌-◌, ◌/◌, ◌%◌, ◌^◌, ◌≤◌}
use Rattle.laws.specs.Code.Laid.{Lays}
use Rattle.codewords.specs.Bit.{lit}
use Rattle.codewords.specs.Bytes.{to_bytes}
use Rattle.codewords.proofs.writer.BitWriter.flush.Given as goal

abbrev pub invariant-loop-self : goal.invariant-loop-self
invariant-loop-self l =
    let w = l.initial.self in
    let k = l.self.pending_bits in
    record {
      same : l.self.pending ≡ w.pending;
      left : k ≤ w.pending_bits;
      whole : (w.pending_bits - k) % 8 ≡ 0;
      laid : Lays l.initial.out w.at (to_bytes (lit (w.pending_bits - k) (w.pending / 2 ^ k))) l.out l.self.at;
    }

abbrev pub decreases-loop-self : goal.decreases-loop-self
decreases-loop-self l = l.self.pending_bits
