-- `lift::run_taps` meets its contract. The loop's invariant: the list is what the first i updates leave.
use Rattle.std.proofs.Common.{◌≡◌}
use Rattle.wavelet.specs.Code.Table.{stage_of}
use Rattle.wavelet.specs.Code.Run.{ran}
use Rattle.wavelet.proofs.lift.run_taps.Given as goal

abbrev pub invariant-loop-i : goal.invariant-loop-i
invariant-loop-i l = l.a ≡ ran (stage_of l.s) l.plus l.o l.p l.step l.i l.initial.a
