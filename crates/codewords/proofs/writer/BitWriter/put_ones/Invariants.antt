-- `codewords::writer::BitWriter::put_ones` meets its contract. The loop's invariant: the ones so far are written.
use Prim.Native.Nat.{◌*◌}
use Rattle.codewords.specs.Bit.{one_bits}
use Rattle.codewords.specs.Code.Writer.{Wrote}
use Rattle.codewords.proofs.writer.BitWriter.put_ones.Given as goal

abbrev pub invariant-loop : goal.invariant-loop
invariant-loop l = Wrote l.initial.out l.initial.self (one_bits (l.counter * 32)) l.out l.self
