-- `low::put::Put::places` meets its contract. The loop's invariant: the places left of x are written.
use Rattle.picture.specs.Code.Strip.{place_numbers}
use Rattle.picture.specs.Code.Put.{Puts}
use Rattle.picture.specs.Laws.Put.{parts}
use Rattle.picture.proofs.low.put.Put.places.Given as goal

abbrev pub invariant-loop-x : goal.invariant-loop-x
invariant-loop-x g l = Puts l.initial.out l.initial.self (parts (place_numbers l.work l.s l.y) l.s.left l.x) l.out l.self
