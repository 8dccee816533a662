-- `high::slice::put_prefix` meets its contract. The loop's invariant: as many bytes are written as it counts.
use Prim.Native.Nat.{◌*◌}
use Rattle.codewords.specs.Bit.{zero_bits}
use Rattle.codewords.specs.Code.Writer.{Wrote}
use Rattle.picture.proofs.high.slice.put_prefix.Given as goal

abbrev pub invariant-loop : goal.invariant-loop
invariant-loop l = Wrote l.initial.out l.initial.w (zero_bits (8 * l.counter)) l.out l.w
