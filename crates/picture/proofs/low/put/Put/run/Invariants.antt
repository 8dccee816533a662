-- `low::put::Put::run` meets its contract. The invariant: the bands before the n-th are written, start is their area,
-- and v is the window of the band before.
use mathlib.Core.Path.{◌≡◌}
use Prim.Native.Nat.{◌-◌}
use Rattle.picture.specs.Code.Put.{Puts}
use Rattle.picture.specs.Code.Layout.{start_of, run_window, second_of, pair_of, run_numbers}
use Rattle.picture.proofs.low.put.Put.run.Given as goal

abbrev pub invariant-loop-n : goal.invariant-loop-n
invariant-loop-n l =
    let r = l.r in
    (l.start ≡ start_of r.layout r.first l.n)
    × ((l.v ≡ run_window r (l.n - 1)) × Puts l.initial.out l.initial.self (run_numbers l.work r.layout r.first (second_of r) (pair_of r) r.slice r.index l.n) l.out l.self)
