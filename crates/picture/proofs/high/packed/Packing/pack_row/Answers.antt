use mathlib.Core.Path.{◌≡◌, sym, ap, ◌∙◌}
use Prim.Native.Nat.{◌-◌}
use native.Mathlib.Omega.{arith}
use Rattle.laws.specs.Code.Chunks.{chunks}
use Rattle.picture.specs.Code.Strip.{Inside}
use Rattle.picture.specs.Laws.Strip.{places, row-chunks}
use Rattle.picture.specs.Laws.Packed.{packs_same, packs_start, row_ready, row-turn}
use Rattle.picture.proofs.high.packed.Packing.pack_row.Goals as goal
use Rattle.picture.proofs.high.packed.Packing.pack_row.Goals.{In-loop-x}

within : (c : In-loop-x) → let a = c.args in Inside a.s a.y c.loop-x.x
within c =
    let h = c.requires in
    record { below = h.1.0; above = h.1.1; right_of = c.loop-x.auto.x; left-of = c.loop-x-test.true }

pub loop-x-init : goal.loop-x-init
loop-x-init c =
    let a = c.args in
    packs_start (places a.work.now a.s a.y a.s.left) a.work.now a.self.now a.s.left

pub pack_place-requires : goal.pack_place-requires
pack_place-requires c =
    let a = c.args in
    let l = c.loop-x in
    let i = within (goal.at.pack_place-requires c).In-loop-x in
    (row_ready c.requires.0.holds.0 a.y l.x i c.requires.0.holds.1 l.invariant, i)

pub loop-x-preserved : goal.loop-x-preserved
loop-x-preserved c =
    let a = c.args in
    let l = c.loop-x in
    let i = within (goal.at.loop-x-preserved c).In-loop-x in
    row-turn c.requires.0.holds.0 a.y l.x i c.requires.0.holds.1 l.invariant c.pack_place.ensures

pub returns : goal.returns
returns c =
    let a = c.args in
    let l = c.loop-x in
    let e : l.x - a.s.left ≡ a.s.right - a.s.left = omega (arith, l.auto.x-end, c.requires.0.holds.0.plain.within.columns, c.loop-x-test.false) in
    let F = places a.work.now a.s a.y a.s.left in
    packs_same (ap (chunks F) e ∙ sym (row-chunks a.work.now a.s a.y a.s.left (a.s.right - a.s.left))) l.invariant
