-- `slices::counter::add_row` meets its contract. The loop's invariant: the places left of x are added.
use mathlib.Core.Path.{◌≡◌}
use Prim.Native.Nat.{◌-◌}
use Rattle.picture.specs.Code.Strip.{row_numbers}
use Rattle.picture.specs.Code.Cost.{added}
use Rattle.picture.proofs.slices.counter.add_row.Given as goal

abbrev pub invariant-loop-x : goal.invariant-loop-x
invariant-loop-x g l = l.t ≡ added g.C.Counter.step l.initial.t (row_numbers l.work l.s l.y l.s.left (l.x - l.s.left))
