-- `high::election::elect_qindex` meets its contract. The invariant: the least index that fits lies in the range.
use Prim.Native.Nat.{◌-◌, ◌≤◌}
use Rattle.unit.specs.declared.PictureKind.TheVariants.{HighQuality}
use Rattle.unit.specs.Limits.{last_index}
use Rattle.unit.specs.HighQuality.{fits_by}
use Rattle.picture.specs.Code.Picture.{numbers_in}
use Rattle.picture.specs.Laws.Search.{Searches}
use Rattle.picture.proofs.high.election.elect_qindex.Given as goal

abbrev pub invariant-loop-r : goal.invariant-loop-r
invariant-loop-r l = Searches (fits_by l.d.terms.prefix l.d.terms.scaler l.share (numbers_in l.work l.d.picture l.k)) l.d.terms.lo (last_index HighQuality) l.r × ((1 ≤ l.step) × (l.step ≤ 256))

abbrev pub decreases-loop-r : goal.decreases-loop-r
decreases-loop-r l = l.r.hi - l.r.lo
