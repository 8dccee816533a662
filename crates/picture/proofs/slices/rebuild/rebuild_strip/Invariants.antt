-- `picture::slices::rebuild::rebuild_strip` meets its contract. The loop's invariant: the rows above y are rebuilt.
use mathlib.Core.Path.{◌≡◌}
use Prim.Native.Nat.{◌-◌}
use Rattle.picture.specs.Code.Strip.{rebuilt_rows}
use Rattle.picture.proofs.slices.rebuild.rebuild_strip.Given as goal

abbrev pub invariant-loop-y : goal.invariant-loop-y
invariant-loop-y l = l.work ≡ rebuilt_rows l.initial.work l.s l.s.top (l.y - l.s.top)
