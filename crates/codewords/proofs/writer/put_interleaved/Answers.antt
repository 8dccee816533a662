use mathlib.Core.Path.{◌≡◌, ap, ◌∙◌}
use mathlib.Core.Bool.{true}
use mathlib.Core.List.{List, [], ◌∷◌, ◌++◌, append_assoc}
use Prim.Native.Nat.{ℕ, ◌+◌, ◌-◌, ◌*◌, ◌/◌, ◌^◌, ◌≤◌}
use native.Mathlib.Nat.{le_refl}
use native.Mathlib.Omega.{arith}
use Rattle.codewords.specs.declared.writer.BitWriter.{BitWriter}
use Rattle.codewords.specs.Bit.{lit}
use Rattle.codewords.specs.Laws.Bit.{length-lit, lit-none, lit_split, byte_up}
use Rattle.codewords.specs.CodeWord.{interleaved}
use Rattle.codewords.specs.Code.Spread.{spread_bits}
use Rattle.codewords.specs.Laws.Code.{interleaved-none, interleaved-append, length-interleaved}
use Rattle.codewords.specs.Laws.Word.{interleaved-spread, word_lit}
use Rattle.codewords.specs.Code.Writer.{Sound, Room, Wrote}
use Rattle.codewords.specs.Laws.Writer.{wrote_none, wrote_then, room_after}
use Rattle.codewords.proofs.writer.put_interleaved.Goals as goal
use Rattle.codewords.proofs.writer.put_interleaved.Goals.{At-loop-i}

-- eight pairs more
again : {o o₁ o₂ : List ℕ} {w s₁ s₂ : BitWriter} (n i x r : ℕ) → 8 ≤ i → i ≤ n → Sound w → r ≡ spread_bits 8 (x / 2 ^ (i - 8))
    → Wrote o w (interleaved (lit (n - i) (x / 2 ^ i))) o₁ s₁ → Wrote o₁ s₁ (lit 16 r) o₂ s₂
    → Wrote o w (interleaved (lit (n - (i - 8)) (x / 2 ^ (i - 8)))) o₂ s₂
again n i x r h l s f inv q =
    let y = x / 2 ^ (i - 8) in
    let e : n - (i - 8) ≡ n - i + 8 = omega arith in
    rw (e, lit_split (n - i) 8 y, byte_up x i h, interleaved-append, interleaved-spread 8 8 y (le_refl 8)) (wrote_then s inv (rw f at q))

-- the pairs from place i on, and then the others
parts : (n i x : ℕ) → i ≤ n → interleaved (lit n x) ++ (true ∷ []) ≡ interleaved (lit (n - i) (x / 2 ^ i)) ++ (interleaved (lit i x) ++ (true ∷ []))
parts n i x l =
    let e : n ≡ n - i + i = omega arith in
    ap (λ (k : ℕ). interleaved (lit k x) ++ (true ∷ [])) e ∙ rw (lit_split (n - i) i x, interleaved-append, append_assoc)

-- at the loop's head there is room for the pairs that are left and the last 1
room_at : (c : At-loop-i) → Room c.loop-i.out c.loop-i.s (2 * c.loop-i.i + 1)
room_at c =
    let a = c.args in
    let i = c.loop-i.i in
    room_after (2 * i + 1) c.requires.0 c.loop-i.invariant.1
    (omega (arith, c.loop-i.invariant.0, length-interleaved (lit (a.n - i) (a.x / 2 ^ i)), length-lit (a.n - i) (a.x / 2 ^ i)))

pub loop-i-init : goal.loop-i-init
loop-i-init c =
    let n = c.args.n in
    let x = c.args.x in
    let none : n - n ≡ 0 = omega arith in
    (omega arith, rw (none, lit-none (x / 2 ^ n), interleaved-none) (wrote_none c.requires.0))

pub put_short-s-requires : goal.put_short-s-requires
put_short-s-requires c =
    let r = room_at (goal.at.put_short-s-requires c).At-loop-i in
    (record { sound = r.sound; room = omega (arith, r.room, c.loop-i-test.true) }, omega arith)

pub loop-i-preserved : goal.loop-i-preserved
loop-i-preserved c =
    let l = c.loop-i in
    let t = c.loop-i-test.true in
    (omega (arith, l.invariant.0), again c.args.n l.i c.args.x c.spread.result (omega arith) l.invariant.0 c.requires.0.sound c.spread.ensures.0 l.invariant.1 c.put_short-s.ensures)

pub put_short-requires : goal.put_short-requires
put_short-requires c = (room_at (goal.at.put_short-requires c).At-loop-i, omega (arith, c.loop-i-test.false))

pub returns : goal.returns
returns c =
    let l = c.loop-i in
    let r = c.spread-2 in
    rw (parts c.args.n l.i c.args.x l.invariant.0, word_lit l.i c.args.x c.loop-i-test.false)
    (wrote_then c.requires.0.sound l.invariant.1 (rw r.ensures.0 at c.put_short.ensures))
