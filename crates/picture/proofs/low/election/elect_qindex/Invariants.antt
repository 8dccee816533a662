-- `low::election::elect_qindex` meets its contract. The invariant: the search in the range ends where the whole one
-- does, what the candidates left in the work slice is rebuilt as if none had been tried, and the runs at hand are
-- known.
use Prim.Native.Nat.{◌-◌}
use Rattle.unit.specs.declared.PictureKind.TheVariants.{LowDelay}
use Rattle.unit.specs.Limits.{last_index}
use Rattle.picture.specs.Code.Low.{low_fits_in, Tried}
use Rattle.picture.specs.Code.LowRest.{Known}
use Rattle.picture.specs.Laws.ElectLoop.{Halving}
use Rattle.picture.proofs.low.election.elect_qindex.Given as goal

abbrev pub invariant-loop-r : goal.invariant-loop-r
invariant-loop-r l = Halving (low_fits_in l.fn.work l.s.picture l.room l.s.k) l.lo (last_index LowDelay) l.r × (Tried l.s.picture l.s.k l.fn.work l.work × (Known l.work l.s.picture l.s.k l.b.low × Known l.work l.s.picture l.s.k l.b.high))

abbrev pub decreases-loop-r : goal.decreases-loop-r
decreases-loop-r l = l.r.hi - l.r.lo
