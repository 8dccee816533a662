-- `low::put::Put::strip` meets its contract.
use mathlib.Core.Path.{◌≡◌}
use Prim.Native.Nat.{◌-◌}
use native.Mathlib.Omega.{arith}
use Rattle.picture.specs.Laws.Strip.{row_at, rows-chunks}
use Rattle.picture.specs.Laws.Put.{puts_past, parts_none, turn_room, parts-turn}
use Rattle.picture.proofs.low.put.Put.strip.Goals as goal

pub returns-then-self-eq0 : goal.returns-then-self-eq0
returns-then-self-eq0 c = puts_past _ c.requires.0 c.if-self-eq0.true

pub loop-y-init : goal.loop-y-init
loop-y-init c = let a = c.args in parts_none (row_at a.work.now a.s) a.s.top c.requires.0

pub row-requires : goal.row-requires
row-requires c =
    let a = c.args in
    let l = c.loop-y in
    let t = c.loop-y-test.true in
    let room = rw (rows-chunks a.work.now a.s a.s.top _) at c.requires.0 in
    (turn_room (row_at a.work.now a.s) a.s.top l.y a.s.bottom l.auto.y t room l.invariant, (c.requires.1, (l.auto.y, t)))

pub loop-y-preserved : goal.loop-y-preserved
loop-y-preserved c =
    let a = c.args in
    let l = c.loop-y in
    parts-turn (row_at a.work.now a.s) a.s.top l.y l.auto.y c.requires.0.sound l.invariant c.row.ensures

pub returns : goal.returns
returns c =
    let a = c.args in
    let l = c.loop-y in
    let e : a.s.bottom - a.s.top ≡ l.y - a.s.top = omega arith in
    rw (e, rows-chunks a.work.now a.s a.s.top _) l.invariant
