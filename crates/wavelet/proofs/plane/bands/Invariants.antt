-- `plane::bands` meets its contract. The loop's invariant: the first n bands are there.
use Rattle.std.proofs.Common.{◌*◌, ◌/◌}
use Rattle.laws.specs.Laws.Window.{Parts}
use Rattle.wavelet.specs.Code.Copy.{band_of}
use Rattle.wavelet.proofs.plane.bands.Given as goal

abbrev pub invariant-loop-n : goal.invariant-loop-n
invariant-loop-n l = Parts (band_of l.fn.work l.v l.a l.w) l.initial.behind 0 (2 * l.v) (l.a * (l.w / 2)) l.behind l.n (l.n * (l.a * (l.w / 2)))
