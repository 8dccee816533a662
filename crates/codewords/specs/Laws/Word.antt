-- Code words as numbers: their pairs by the bits at twice their places.
use Rattle.std.specs.Prelude.{◌≡◌, refl, Bool, true, false, [], ◌∷◌, ◌++◌, ℕ, zero, suc, ◌+◌, ◌*◌, ◌/◌, ◌%◌, ◌^◌, ◌≤◌, ◌<◌, eqb}
use Rattle.std.proofs.Common.{sym, ap, ap₂, ◌∙◌, append_assoc, mod-lt, zero-lt-suc, pow-suc, add-one, arith}
use Rattle.std.proofs.Math.Pow.{field, mod-mod-pow}
use Rattle.std.specs.Int.Bits.{bit_and, bit_or}
use mir.Val.{bool_byte}
use Rattle.laws.specs.Laws.Rows.{table}
use Rattle.codewords.specs.Bit.{Bits, val, lit}
use Rattle.codewords.specs.Laws.Bit.{val_bit, byte_val, lit-none, lit-low, lit-more}
use Rattle.codewords.specs.CodeWord.{log2, interleaved, code_u, code_m}
use Rattle.codewords.specs.Code.Spread.{spread_bits}
use Rattle.codewords.specs.Laws.Code.{interleaved-none, interleaved-append, code_m-pos}

-- ---- the bits of a number, each at twice its place
pub spread-lt : (k b : ℕ) → spread_bits k b < 4 ^ k
unfolding spread_bits
spread-lt zero b = omega arith
spread-lt (suc k) b = rw (pow-suc 4 k) (omega (arith, spread-lt k (b / 2)))

pub spread-mod : (k b : ℕ) → spread_bits k (b % 2 ^ k) ≡ spread_bits k b
unfolding spread_bits
spread-mod zero b = refl
spread-mod (suc k) b =
    rw (← add-one k) (ap₂ (λ (x y : ℕ). x * 4 + y) (ap (spread_bits k) (field b k 1) ∙ spread-mod k (b / 2)) (mod-mod-pow b k 1))

-- bits at twice their places, by the machine's operations: halves of the byte apart, then of each half, then of each
-- quarter
abbrev pub steps : ℕ → ℕ
steps a =
    let x = bit_and (bit_or a (a * 2 ^ 4 % 2 ^ 64)) 0x0F0F in
    let y = bit_and (bit_or x (x * 2 ^ 2 % 2 ^ 64)) 0x3333 in
    bit_and (bit_or y (y * 2 ^ 1 % 2 ^ 64)) 0x5555

-- the checker computes both sides at the 256 numbers
pub spread-steps : (a : ℕ) → a < 256 → steps a ≡ spread_bits 8 a
unfolding spread_bits
spread-steps a h = sym (table steps 256 a 0 h) ∙ table (spread_bits 8) 256 a 0 h

-- the n low bits of x, each behind a 0
pub interleaved-spread : (n k x : ℕ) → n ≤ k → interleaved (lit n x) ≡ lit (2 * n) (spread_bits k x)
unfolding interleaved spread_bits
interleaved-spread zero k x h = ap interleaved (lit-none x) ∙ interleaved-none ∙ sym (lit-none (spread_bits k x))
interleaved-spread (suc n) zero x h = absurd (omega arith)
interleaved-spread (suc n) (suc k) x h =
    let t = spread_bits k (x / 2) in
    let b = eqb (x % 2) 1 in
    let v = val_bit (x % 2) (mod-lt x (zero-lt-suc 1)) in
    let e : t * 4 + x % 2 ≡ (t * 2 + val false) * 2 + val b = omega arith in
    let g : 2 * suc n ≡ 2 * n + 1 + 1 = omega arith in
    ap interleaved (lit-low n x) ∙ interleaved-append (lit n (x / 2)) (b ∷ [])
    ∙ ap (λ (s : Bits). s ++ (false ∷ b ∷ [])) (interleaved-spread n k (x / 2) (omega arith))
    ∙ sym (ap₂ lit g e ∙ lit-more (2 * n + 1) (t * 2 + val false) b ∙ ap (λ (s : Bits). s ++ (b ∷ [])) (lit-more (2 * n) t false) ∙ append_assoc (lit (2 * n) t) (false ∷ []) (b ∷ []))

-- bits each after a 0, and then a 1, as one number
pub word_lit : (n x : ℕ) → n ≤ 8 → interleaved (lit n x) ++ (true ∷ []) ≡ lit (2 * n + 1) (2 * spread_bits 8 x + 1)
word_lit n x h =
    let e : spread_bits 8 x * 2 + val true ≡ 2 * spread_bits 8 x + 1 = omega arith in
    ap (λ (s : Bits). s ++ (true ∷ [])) (interleaved-spread n 8 x h) ∙ sym (lit-more (2 * n) (spread_bits 8 x) true) ∙ ap (lit (2 * n + 1)) e

-- the word of a magnitude that is not 0, by the place n of the leading one of m + 1, with its sign
pub code-lit : (m n : ℕ) (b : Bool) → 0 < m → n ≡ log2 (m + 1) → n ≤ 8 → code_m m b ≡ lit (2 * n + 2) (2 * (2 * spread_bits 8 (m + 1) + 1) + bool_byte b)
unfolding code_u
code-lit m n b p e h =
    let y = 2 * spread_bits 8 (m + 1) + 1 in
    let k : 2 * n + 1 + 1 ≡ 2 * n + 2 = omega arith in
    let z : y * 2 + val b ≡ 2 * y + bool_byte b = omega (arith, byte_val b) in
    code_m-pos m b p ∙ ap (λ (w : Bits). w ++ (b ∷ [])) (ap (λ (i : ℕ). interleaved (lit i (m + 1)) ++ (true ∷ [])) (sym e) ∙ word_lit n (m + 1) h) ∙ sym (lit-more (2 * n + 1) y b) ∙ ap₂ lit k z
