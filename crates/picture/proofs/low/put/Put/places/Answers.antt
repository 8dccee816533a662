-- `low::put::Put::places` meets its contract.
use mathlib.Core.Path.{◌≡◌}
use Prim.Native.Nat.{◌-◌}
use native.Mathlib.Omega.{arith}
use Rattle.picture.specs.Code.Strip.{place_numbers, Inside}
use Rattle.picture.specs.Laws.Strip.{row-chunks}
use Rattle.picture.specs.Laws.Put.{parts_none, turn_room, parts-turn}
use Rattle.picture.proofs.low.put.Put.places.Goals as goal

pub loop-x-init : goal.loop-x-init
loop-x-init g c = let a = c.args in parts_none (place_numbers a.work.now a.s a.y) a.s.left c.requires.0

pub place-requires : goal.place-requires
place-requires g c =
    let a = c.args in
    let h = c.requires.1 in
    let l = c.loop-x in
    let t = c.loop-x-test.true in
    let room = rw (row-chunks a.work.now a.s a.y a.s.left _) at c.requires.0 in
    let i : Inside a.s a.y l.x = record { below = h.1.0.0; above = h.1.0.1; right_of = l.auto.x; left-of = t } in
    (turn_room (place_numbers a.work.now a.s a.y) a.s.left l.x a.s.right l.auto.x t room l.invariant, (h.0, (i, h.1.1)))

pub loop-x-preserved : goal.loop-x-preserved
loop-x-preserved g c =
    let a = c.args in
    let l = c.loop-x in
    parts-turn (place_numbers a.work.now a.s a.y) a.s.left l.x l.auto.x c.requires.0.sound l.invariant c.place.ensures

pub returns : goal.returns
returns g c =
    let a = c.args in
    let l = c.loop-x in
    let e : a.s.right - a.s.left ≡ l.x - a.s.left = omega arith in
    rw (e, row-chunks a.work.now a.s a.y a.s.left _) l.invariant
