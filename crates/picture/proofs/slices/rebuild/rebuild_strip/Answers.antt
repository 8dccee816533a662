use mathlib.Core.Path.{◌∙◌}
use Prim.Native.Nat.{◌-◌}
use Rattle.picture.specs.Laws.Strip.{rebuilt-rows-none, rebuilt-rows-turn, rows_keep}
use native.Mathlib.Omega.{arith}
use Rattle.picture.proofs.slices.rebuild.rebuild_strip.Goals as goal

pub loop-y-init : goal.loop-y-init
loop-y-init c =
    let a = c.args in
    rebuilt-rows-none a.work.now a.s a.s.top

pub rebuild_row-requires : goal.rebuild_row-requires
rebuild_row-requires c =
    let l = c.loop-y in
    let b = c.requires in
    let d = c.loop-y-test.true in
    let m = rows_keep b.holds.0 b.holds.1 (l.y - c.args.s.top) (omega (arith, d)) in
    (record { front = b.front; end = b.end; holds = (rw l.invariant m, b.holds.1) }, (l.auto.y, d))

pub loop-y-preserved : goal.loop-y-preserved
loop-y-preserved c =
    let l = c.loop-y in
    let a = c.args in
    c.rebuild_row.ensures ∙ rebuilt-rows-turn a.work.now a.s a.s.top l.y l.work l.auto.y l.invariant
