-- `picture::slices::rebuild::rebuild_row` meets its contract. The loop's invariant: the places left of x are rebuilt.
use mathlib.Core.Path.{◌≡◌}
use Prim.Native.Nat.{◌-◌}
use Rattle.picture.specs.Code.Strip.{rebuilt_row}
use Rattle.picture.proofs.slices.rebuild.rebuild_row.Given as goal

abbrev pub invariant-loop-x : goal.invariant-loop-x
invariant-loop-x l = l.work ≡ rebuilt_row l.initial.work l.s l.y l.s.left (l.x - l.s.left)
