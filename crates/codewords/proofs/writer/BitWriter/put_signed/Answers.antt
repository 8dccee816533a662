-- `codewords::writer::BitWriter::put_signed` meets its contract.
use mathlib.Core.Path.{◌≡◌, ap, ◌∙◌}
use mathlib.Core.Bool.{Bool}
use mathlib.Core.List.{[], ◌∷◌, ◌++◌}
use Prim.Native.Nat.{ℕ, ◌+◌, ◌-◌, ◌≤◌}
use native.Mathlib.Omega.{arith}
use lib.ListN.{length, length-append}
use Rattle.codewords.specs.Laws.Bit.{length-lit}
use Rattle.codewords.specs.CodeWord.{code_u, code_m}
use Rattle.codewords.specs.Laws.Code.{code_m-pos}
use Rattle.codewords.specs.Laws.Writer.{wrote_then, room_after}
use Rattle.codewords.proofs.writer.BitWriter.put_signed.Goals as goal

-- the word of a magnitude that is not 0, and the sign bit
signed : (m : ℕ) (b : Bool) → 511 ≤ m → code_m m b ≡ code_u (m + 1 - 1) ++ (b ∷ [])
signed m b h =
    let e : m ≡ m + 1 - 1 = omega arith in
    code_m-pos m b (omega arith) ∙ ap (λ (k : ℕ). code_u k ++ (b ∷ [])) e

length_is : (m : ℕ) (b : Bool) → 511 ≤ m → length (code_m m b) ≡ length (code_u (m + 1 - 1)) + 1
length_is m b h = ap length (signed m b h) ∙ length-append (code_u (m + 1 - 1)) (b ∷ [])

pub put_short-requires : goal.put_short-requires
put_short-requires c =
    let r = c.requires.0 in
    let u = c.word_of-c in
    (record { sound = r.sound; room = omega (arith, r.room, length-lit u.result.len u.result.bits, ap length u.ensures.0) }, omega (arith, u.ensures.1))

pub put_code-requires : goal.put_code-requires
put_code-requires c =
    let r = c.requires.0 in
    (record { sound = r.sound; room = omega (arith, r.room, length_is c.args.m c.args.minus c.if-m-lt511.false) }, omega arith)

pub put_bit-requires : goal.put_bit-requires
put_bit-requires c =
    room_after 1 c.requires.0 c.put_code.ensures
    (omega (arith, length_is c.args.m c.args.minus c.if-m-lt511.false))

pub returns-else-m-lt511 : goal.returns-else-m-lt511
returns-else-m-lt511 c =
    rw (signed c.args.m c.args.minus c.if-m-lt511.false)
    (wrote_then c.requires.0.sound c.put_code.ensures c.put_bit.ensures)
