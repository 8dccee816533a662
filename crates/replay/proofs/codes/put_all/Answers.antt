-- `replay::codes::put_all` is safe: the bits of a case fit the 24 bytes.
use Rattle.std.proofs.Common.{arith}
use Rattle.codewords.specs.Code.Writer.{Room}
use Rattle.replay.specs.Laws.Put.{ones_room, case_room, end_room}
use Rattle.replay.proofs.codes.put_all.Goals as goal
use Rattle.replay.proofs.codes.put_all.Goals.{After-put_one}

pub put_one-requires : goal.put_one-requires
put_one-requires c = (case_room c.args.p c.requires.1.1 (ones_room c.args.s c.requires.0 c.new-w.ensures c.requires.1.0 c.put_ones.ensures), c.requires.1.1)

-- a byte more fits
byte : (c : After-put_one) → Room c.put_one.new.out c.put_one.new.w 8
byte c = end_room c.args.p c.requires.1.1 (ones_room c.args.s c.requires.0 c.new-w.ensures c.requires.1.0 c.put_ones.ensures) c.put_one.ensures

pub overflow_mul-bits : goal.overflow_mul-bits
overflow_mul-bits c = omega (arith, (byte (goal.at.overflow_mul-bits c).After-put_one).room)

pub overflow_add-bits : goal.overflow_add-bits
overflow_add-bits c = omega (arith, (byte (goal.at.overflow_add-bits c).After-put_one).room)

pub byte_align-requires : goal.byte_align-requires
byte_align-requires c =
    let r = byte (goal.at.byte_align-requires c).After-put_one in
    record { sound = r.sound; room = omega (arith, r.room, r.sound.part) }
