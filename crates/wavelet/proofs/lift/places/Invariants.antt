-- `lift::places` meets its contract. The loop's invariant: the first k places are there.
use Rattle.std.proofs.Common.{◌≡◌, ℕ, ◌*◌, ◌<◌, length, get_or}
use Rattle.wavelet.specs.Lifting.{place}
use Rattle.wavelet.specs.Code.Table.{stage_of}
use Rattle.wavelet.proofs.lift.places.Given as goal

abbrev pub invariant-loop-k : goal.invariant-loop-k
invariant-loop-k l = (length l.o ≡ 8) × ((j : ℕ) → j < l.k → get_or l.o j 0 ≡ place (stage_of l.s) l.len l.n j * l.w)
