-- `plane::band` meets its contract. The loop's invariant: the first n rows of the band are there.
use Rattle.std.proofs.Common.{◌*◌}
use Rattle.laws.specs.Laws.Window.{Parts}
use Rattle.wavelet.specs.Code.Copy.{band_row}
use Rattle.wavelet.proofs.plane.band.Given as goal

abbrev pub invariant-loop-n : goal.invariant-loop-n
invariant-loop-n l = Parts (band_row l.src l.b l.from l.jump) l.initial.dst 0 l.a l.b l.dst l.n (l.n * l.b)
