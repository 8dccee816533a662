-- `low::put::Put::strip` meets its contract. The loop's invariant: the rows above y are written.
use Rattle.picture.specs.Code.Put.{Puts}
use Rattle.picture.specs.Laws.Strip.{row_at}
use Rattle.picture.specs.Laws.Put.{parts}
use Rattle.picture.proofs.low.put.Put.strip.Given as goal

abbrev pub invariant-loop-y : goal.invariant-loop-y
invariant-loop-y l = Puts l.initial.out l.initial.self (parts (row_at l.work l.s) l.s.top l.y) l.out l.self
