use mathlib.Core.Path.{◌≡◌, sym, ap, ◌∙◌}
use Prim.Native.Nat.{◌-◌}
use native.Mathlib.Omega.{arith}
use Rattle.laws.specs.Code.Chunks.{chunks}
use Rattle.picture.specs.Laws.Strip.{rows, rows-chunks}
use Rattle.picture.specs.Laws.Packed.{packs_same, packs_start, strip_ready, strip_turn}
use Rattle.picture.proofs.high.packed.Packing.pack_strip.Goals as goal

pub loop-y-init : goal.loop-y-init
loop-y-init c =
    let a = c.args in packs_start (rows a.work.now a.s a.s.top) a.work.now a.self.now a.s.top

pub pack_row-requires : goal.pack_row-requires
pack_row-requires c =
    let l = c.loop-y in
    let d = c.loop-y-test.true in
    (strip_ready c.requires.holds.0 l.y l.auto.y d c.requires.holds.1 l.invariant, (l.auto.y, d))

pub loop-y-preserved : goal.loop-y-preserved
loop-y-preserved c =
    let l = c.loop-y in
    strip_turn c.requires.holds.0 l.y l.auto.y c.loop-y-test.true c.requires.holds.1 l.invariant c.pack_row.ensures

pub returns : goal.returns
returns c =
    let a = c.args in
    let l = c.loop-y in
    let e : l.y - a.s.top ≡ a.s.bottom - a.s.top = omega (arith, l.auto.y-end, c.requires.holds.0.plain.within.rows, c.loop-y-test.false) in
    let F = rows a.work.now a.s a.s.top in
    packs_same (ap (chunks F) e ∙ sym (rows-chunks a.work.now a.s a.s.top (a.s.bottom - a.s.top))) l.invariant
