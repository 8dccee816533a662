-- `plane::rows` meets its contract. The loop's invariant: the first n rows of the scratch are there.
use Rattle.std.proofs.Common.{◌*◌}
use Rattle.laws.specs.Plane.{as_plane}
use Rattle.laws.specs.Laws.Window.{Parts}
use Rattle.wavelet.specs.Laws.Level.{row_of}
use Rattle.wavelet.proofs.plane.rows.Given as goal

abbrev pub invariant-loop-n : goal.invariant-loop-n
invariant-loop-n l = Parts (row_of l.index (as_plane l.w l.planes) l.w) l.initial.scratch 0 l.h l.w l.scratch l.n (l.n * l.w)
