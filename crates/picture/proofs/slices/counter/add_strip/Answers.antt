use Prim.Native.Nat.{ℕ, ◌*◌, ◌-◌}
use Rattle.picture.specs.Code.Strip.{rows_numbers}
use Rattle.picture.specs.Laws.Strip.{rows_small, rows-length}
use Rattle.picture.specs.Laws.Added.{rows-start, rows-added-turn}
use Rattle.picture.specs.Laws.Cost.{strip_room}
use Rattle.picture.specs.Laws.Counter.{counted_after}
use native.Mathlib.Omega.{arith}
use Rattle.picture.proofs.slices.counter.add_strip.Goals as goal

pub loop-y-init : goal.loop-y-init
loop-y-init g c = let a = c.args in rows-start g.C.Counter.step a.work.now a.s a.c a.s.top

pub add_row-t-requires : goal.add_row-t-requires
add_row-t-requires g c =
    let a = c.args in
    let l = c.loop-y in
    let h = c.requires in
    let k : ℕ = l.y - a.s.top in
    let w : ℕ = a.s.right - a.s.left in
    let q = counted_after g.C.Counter.laws a.c (rows_numbers a.work.now a.s a.s.top k) _ (2 * w) h.1.1 (rows_small a.work.now a.s a.s.top k)
    (strip_room k (a.s.bottom - a.s.top) w _ (omega (arith, l.auto.y, c.loop-y-test.true)) (rows-length a.work.now a.s a.s.top k)) in
    (h.0, (h.1.0, (l.auto.y, (c.loop-y-test.true, rw l.invariant q))))

pub loop-y-preserved : goal.loop-y-preserved
loop-y-preserved g c =
    let a = c.args in
    let l = c.loop-y in
    rows-added-turn g.C.Counter.step a.work.now a.s a.c a.s.top l.y l.t _ l.auto.y l.invariant c.add_row-t.ensures
