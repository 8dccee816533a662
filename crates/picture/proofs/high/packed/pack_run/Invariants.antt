-- `picture::high::packed::pack_run` meets its contract. The invariant: the bands before the n-th are packed, start is
-- their area, and v is the window of the band before.
use mathlib.Core.Path.{◌≡◌}
use mathlib.Core.Bool.{false}
use Prim.Native.Nat.{◌-◌}
use Rattle.picture.specs.Code.Layout.{start_of, run_window, run_numbers}
use Rattle.picture.specs.Code.Packed.{Packs}
use Rattle.picture.proofs.high.packed.pack_run.Given as goal

abbrev pub invariant-loop-n : goal.invariant-loop-n
invariant-loop-n l =
    let r = l.r in
    (l.start ≡ start_of r.layout r.first l.n)
    × ((l.v ≡ run_window r (l.n - 1)) × Packs l.initial.work (record { at = l.at; zeros = 0; bits = 0 }) (run_numbers l.initial.work r.layout r.first r.first false r.slice r.index l.n) l.work l.t)
