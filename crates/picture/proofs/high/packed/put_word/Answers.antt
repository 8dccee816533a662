-- `picture::high::packed::put_word` meets its contract.
use mathlib.Core.Path.{◌≡◌, ap₂, ◌∙◌}
use Prim.Native.Nat.{◌-◌, ◌≤◌, ◌<◌}
use native.Mathlib.Omega.{arith}
use lib.IntN.{pos, ◌-ℤ◌}
use mir.Syntax.{w64}
use mir.Val.{SFits, to_z, of_z}
use mir.Facts.{to_z-of_z, to_z_pos}
use Rattle.laws.specs.Laws.Integer.{up, parts}
use Rattle.picture.specs.Code.Packed.{mark}
use Rattle.picture.specs.Laws.PutWords.{over_mark, under_mark, less-mark, zeros_word_lem, number_word, zeros_room}
use Rattle.picture.proofs.high.packed.put_word.Goals as goal
use Rattle.picture.proofs.high.packed.put_word.Goals.{Else-z-ge-MARK, Then-z-ge-MARK}

-- the mark as the machine reads it
mark-is : to_z w64 4503599627370496 ≡ pos mark
mark-is = to_z_pos w64 (omega arith)

more : (c : Then-z-ge-MARK) → mark ≤ up c.args.z
more c = over_mark mark c.args.z (rw (mark-is, to_z-of_z {w = w64} c.ranges.z) at c.if-z-ge-MARK.true)

less : (c : Else-z-ge-MARK) → up c.args.z < mark
less c = under_mark mark c.args.z (omega arith) (rw (mark-is, to_z-of_z {w = w64} c.ranges.z) at c.if-z-ge-MARK.false)

-- how many zeros, as the machine subtracts
zeros-are : (c : Then-z-ge-MARK) → let z = c.args.z in to_z w64 (of_z w64 z) -ℤ to_z w64 4503599627370496 ≡ pos (up z - mark)
zeros-are c = ap₂ ◌-ℤ◌ (to_z-of_z {w = w64} c.ranges.z) mark-is ∙ less-mark mark c.args.z (omega arith) (more c)

fits : (c : Then-z-ge-MARK) → SFits w64 (pos (up c.args.z - mark))
fits c = omega (arith, parts c.args.z, c.ranges.z)

pub put_ones-requires : goal.put_ones-requires
put_ones-requires c =
    rw (zeros-are (goal.at.put_ones-requires c).Then-z-ge-MARK, to_z-of_z {w = w64} (fits (goal.at.put_ones-requires c).Then-z-ge-MARK)) (zeros_room c.args.z (more (goal.at.put_ones-requires c).Then-z-ge-MARK) c.requires)

pub returns-then-z-ge-MARK : goal.returns-then-z-ge-MARK
returns-then-z-ge-MARK c =
    rw (zeros_word_lem c.args.z (more (goal.at.returns-then-z-ge-MARK c).Then-z-ge-MARK)) (rw (zeros-are (goal.at.returns-then-z-ge-MARK c).Then-z-ge-MARK, to_z-of_z {w = w64} (fits (goal.at.returns-then-z-ge-MARK c).Then-z-ge-MARK)) at c.put_ones.ensures)

pub put_sint-requires : goal.put_sint-requires
put_sint-requires c =
    rw (to_z-of_z {w = w64} c.ranges.z) (rw (number_word c.args.z (less (goal.at.put_sint-requires c).Else-z-ge-MARK)) at c.requires)

pub returns-else-z-ge-MARK : goal.returns-else-z-ge-MARK
returns-else-z-ge-MARK c =
    rw (number_word c.args.z (less (goal.at.returns-else-z-ge-MARK c).Else-z-ge-MARK)) (rw (to_z-of_z {w = w64} c.ranges.z) at c.put_sint.ensures)
