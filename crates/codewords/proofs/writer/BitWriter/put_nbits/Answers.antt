-- `codewords::writer::BitWriter::put_nbits` meets its contract.
use mathlib.Core.Path.{◌≡◌, ap, ◌∙◌}
use mathlib.Core.List.{◌++◌}
use Prim.Native.Nat.{ℕ, ◌+◌, ◌-◌, ◌/◌, ◌^◌, ◌≤◌}
use native.Mathlib.Omega.{arith}
use Rattle.codewords.specs.Bit.{lit}
use Rattle.codewords.specs.Laws.Bit.{length-lit, lit_split}
use Rattle.codewords.specs.Laws.Writer.{wrote_then, room_after}
use Rattle.codewords.proofs.writer.BitWriter.put_nbits.Goals as goal

-- the bits from place 32 on, and then the others
halves : (n v : ℕ) → 32 ≤ n → lit n v ≡ lit (n - 32) (v / 2 ^ 32) ++ lit 32 v
halves n v h =
    let e : n ≡ n - 32 + 32 = omega arith in
    ap (λ (k : ℕ). lit k v) e ∙ lit_split (n - 32) 32 v

pub put_short-requires-else-n-le32-2 : goal.put_short-requires-else-n-le32-2
put_short-requires-else-n-le32-2 c =
    let h = c.if-n-le32.false in
    (room_after 32 c.requires.0 c.put_short-else-n-le32.ensures (omega (arith, length-lit (c.args.n - 32) (c.args.v / 2 ^ 32))), omega arith)

pub returns-else-n-le32 : goal.returns-else-n-le32
returns-else-n-le32 c =
    let h = c.if-n-le32.false in
    rw (halves c.args.n c.args.v (omega arith))
    (wrote_then c.requires.0.sound c.put_short-else-n-le32.ensures c.put_short-else-n-le32-2.ensures)
