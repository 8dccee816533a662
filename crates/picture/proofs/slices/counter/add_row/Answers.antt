use Prim.Native.Nat.{ℕ, ◌-◌}
use Rattle.picture.specs.Code.Strip.{row_numbers, Inside}
use Rattle.picture.specs.Laws.Strip.{row_small, row-length}
use Rattle.picture.specs.Laws.Added.{row-start, row-added-turn}
use Rattle.picture.specs.Laws.Counter.{counted_after}
use native.Mathlib.Omega.{arith}
use Rattle.picture.proofs.slices.counter.add_row.Goals as goal

pub loop-x-init : goal.loop-x-init
loop-x-init g c = let a = c.args in row-start g.C.Counter.step a.work.now a.s a.c a.y a.s.left

pub add_place-t-requires : goal.add_place-t-requires
add_place-t-requires g c =
    let a = c.args in
    let l = c.loop-x in
    let h = c.requires in
    let k : ℕ = l.x - a.s.left in
    let i : Inside a.s a.y l.x = record { below = h.1.1.0; above = h.1.1.1.0; right_of = l.auto.x; left-of = c.loop-x-test.true } in
    let q = counted_after g.C.Counter.laws a.c (row_numbers a.work.now a.s a.y a.s.left k) _ 2 h.1.1.1.1 (row_small a.work.now a.s a.y a.s.left k)
    (omega (arith, row-length a.work.now a.s a.y a.s.left k, i.right_of, i.left-of)) in
    (h.0, (h.1.0, (i, rw l.invariant q)))

pub loop-x-preserved : goal.loop-x-preserved
loop-x-preserved g c =
    let a = c.args in
    let l = c.loop-x in
    row-added-turn g.C.Counter.step a.work.now a.s a.c a.y a.s.left l.x l.t _ l.auto.x l.invariant c.add_place-t.ensures
