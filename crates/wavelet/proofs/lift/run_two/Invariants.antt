-- `lift::run_two` meets its contract. The loop's invariant: the list is what the first n updates leave.
use Rattle.std.proofs.Common.{◌≡◌}
use Rattle.wavelet.specs.Code.Run.{ran, two_taps, two_places}
use Rattle.wavelet.proofs.lift.run_two.Given as goal

abbrev pub invariant-loop-n : goal.invariant-loop-n
invariant-loop-n l = l.a ≡ ran (two_taps l.t l.shift) l.plus (two_places l.i l.j) l.p l.step l.n l.initial.a
