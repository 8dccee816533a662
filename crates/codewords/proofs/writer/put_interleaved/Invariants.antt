-- `codewords::writer::put_interleaved` meets its contract. The loop's invariant: the pairs of the bits of x from place
-- i on are written.
use Prim.Native.Nat.{◌-◌, ◌/◌, ◌^◌, ◌≤◌}
use Rattle.codewords.specs.Bit.{lit}
use Rattle.codewords.specs.CodeWord.{interleaved}
use Rattle.codewords.specs.Code.Writer.{Wrote}
use Rattle.codewords.proofs.writer.put_interleaved.Given as goal

abbrev pub invariant-loop-i : goal.invariant-loop-i
invariant-loop-i l = (l.i ≤ l.n) × Wrote l.initial.out l.initial.s (interleaved (lit (l.n - l.i) (l.x / 2 ^ l.i))) l.out l.s

abbrev pub decreases-loop-i : goal.decreases-loop-i
decreases-loop-i l = l.i
