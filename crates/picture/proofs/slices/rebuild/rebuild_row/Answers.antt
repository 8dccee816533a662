use mathlib.Core.Path.{◌∙◌}
use Prim.Native.Nat.{◌-◌}
use Rattle.picture.specs.Code.Strip.{Inside}
use Rattle.picture.specs.Laws.Strip.{rebuilt-none, rebuilt-turn, row_keeps}
use native.Mathlib.Omega.{arith}
use Rattle.picture.proofs.slices.rebuild.rebuild_row.Goals as goal
use Rattle.picture.proofs.slices.rebuild.rebuild_row.Goals.{In-loop-x}

within : (c : In-loop-x) → let t = c in let a = t.before.args in Inside a.s a.y t.loop-x.x
within c =
    let h = c.requires in
    record { below = h.1.0; above = h.1.1; right_of = c.loop-x.auto.x; left-of = c.loop-x-test.true }

pub loop-x-init : goal.loop-x-init
loop-x-init c =
    let a = c.args in
    rebuilt-none a.work.now a.s a.y a.s.left

pub rebuild_place-requires : goal.rebuild_place-requires
rebuild_place-requires c =
    let l = c.loop-x in
    let h = c.requires in
    let b = h.0 in
    let i = within (goal.at.rebuild_place-requires c).In-loop-x in
    let m = row_keeps b.holds.0 b.holds.1 _ (l.x - c.args.s.left) i.below i.above (omega (arith, i.left-of)) in
    (record { front = b.front; end = b.end; holds = (rw l.invariant m, b.holds.1) }, i)

pub loop-x-preserved : goal.loop-x-preserved
loop-x-preserved c =
    let l = c.loop-x in
    let a = c.args in
    c.rebuild_place.ensures ∙ rebuilt-turn a.work.now a.s a.y a.s.left l.x l.work l.auto.x l.invariant
