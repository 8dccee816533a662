-- `lift::sum_of` meets its contract. The loop's invariant: the sum of the first k taps.
use Rattle.std.proofs.Common.{◌≡◌}
use Rattle.wavelet.specs.Code.Run.{taps_to}
use Rattle.wavelet.proofs.lift.sum_of.Given as goal

abbrev pub invariant-loop-k : goal.invariant-loop-k
invariant-loop-k g l = l.sum ≡ taps_to l.s.taps l.o l.x l.a l.k
