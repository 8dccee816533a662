-- `slices::counter::add_strip` meets its contract. The loop's invariant: the rows above y are added.
use mathlib.Core.Path.{◌≡◌}
use Prim.Native.Nat.{◌-◌}
use Rattle.picture.specs.Code.Strip.{rows_numbers}
use Rattle.picture.specs.Code.Cost.{added}
use Rattle.picture.proofs.slices.counter.add_strip.Given as goal

abbrev pub invariant-loop-y : goal.invariant-loop-y
invariant-loop-y g l = l.t ≡ added g.C.Counter.step l.initial.t (rows_numbers l.work l.s l.s.top (l.y - l.s.top))
