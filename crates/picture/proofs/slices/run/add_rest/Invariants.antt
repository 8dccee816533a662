-- `slices::run::add_rest` meets its contract. The invariant: the bands before the n-th but the first are added, start is
-- the area of all before it, and v is the window of the band before.
use mathlib.Core.Path.{◌≡◌}
use Prim.Native.Nat.{◌-◌}
use Rattle.picture.specs.Code.Cost.{added}
use Rattle.picture.specs.Code.Layout.{start_of, run_window, second_of, pair_of, rest_numbers}
use Rattle.picture.proofs.slices.run.add_rest.Given as goal

abbrev pub invariant-loop-n : goal.invariant-loop-n
invariant-loop-n g l =
    let r = l.r in
    (l.start ≡ start_of r.layout r.first l.n)
    × ((l.v ≡ run_window r (l.n - 1)) × (l.sum ≡ added g.C.Counter.step l.initial.sum (rest_numbers l.work r.layout r.first (second_of r) (pair_of r) r.slice r.index (l.n - 1))))
