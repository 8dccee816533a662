-- `low::put::Put::place` meets its contract.
use mathlib.Core.List.{[], ◌∷◌}
use Rattle.picture.specs.Code.Strip.{number_in, second_number, place_numbers}
use Rattle.picture.specs.Code.Put.{RoomFor}
use Rattle.picture.specs.Laws.Strip.{numbered, numbered_second}
use Rattle.picture.specs.Laws.Put.{puts_none, puts_then, room_first, room_next}
use Rattle.picture.proofs.low.put.Put.place.Given.{Over}
use Rattle.picture.proofs.low.put.Put.place.Goals as goal
use Rattle.picture.proofs.low.put.Put.place.Goals.{After-number}

-- room for the second colour's number
behind : (g : Over) (c : After-number g) → let a = c.args in RoomFor c.number.new.out c.number.new.self (second_number a.work.now a.s a.y a.x)
unfolding place_numbers
behind g c = let a = c.args in room_next _ (second_number a.work.now a.s a.y a.x) c.requires.0 c.number.ensures

pub number-requires : goal.number-requires
unfolding place_numbers
number-requires g c =
    let a = c.args in
    let h = c.requires.1.0.holds in
    (room_first a.self.now (number_in a.work.now a.s a.s.coefs a.s.rebuilt a.y a.x ∷ []) (second_number a.work.now a.s a.y a.x) c.requires.0, (numbered h.0 h.1 c.requires.1.1.0, c.requires.1.1.1))

pub number-requires-in-Some : goal.number-requires-in-Some
number-requires-in-Some g c =
    let h = c.requires.1.0.holds in
    (rw c.in-Some.is at (behind g (goal.at.number-requires-in-Some g c).After-number), (numbered_second h.0 h.1 c.requires.1.1.0 c.in-Some.o c.in-Some.is, c.requires.1.1.1))

pub returns-in-Some : goal.returns-in-Some
unfolding place_numbers
returns-in-Some g c = puts_then c.requires.0.sound c.number.ensures (rw c.in-Some.is c.number-in-Some.ensures)

pub returns-in_default : goal.returns-in_default
unfolding place_numbers
returns-in_default g c =
    puts_then c.requires.0.sound c.number.ensures (rw c.in_default.is (puts_none (behind g (goal.at.returns-in_default g c).After-number)))
