-- Laws of code words: lengths by the leading one, a word by its parts, a signed word by its sign.
use Rattle.std.specs.Prelude.{◌≡◌, refl, Bool, true, false, List, [], ◌∷◌, ◌++◌, ℕ, zero, suc, ◌+◌, ◌-◌, ◌*◌, ◌/◌, ◌^◌, ◌≤◌, ◌<◌, length, ℤ, pos, negsuc, nat_abs}
use Rattle.std.proofs.Common.{sym, ap, ◌∙◌, append_assoc, append-nil, le_refl, le_trans, le_antisymm, le_of_eq, lt_of_le_of_lt, lt_of_not-le, not-le_of_lt, le_of_suc-le-suc, pow-suc, arith, length-append, pow_mono, pow_pos}
use Rattle.std.proofs.Math.Arith.{half_le}
use Rattle.std.proofs.Math.Dec.{leb-suc-zero}
use Rattle.std.specs.Int.Signed.{lt_z}
use Rattle.std.specs.Int.Count.{count_leading_zeros}
use Rattle.std.proofs.lemmas.Nat.{leading_top}
use Rattle.codewords.specs.Bit.{Bits, lit, value}
use Rattle.codewords.specs.Laws.Bit.{length-lit, value-top}
use Rattle.codewords.specs.CodeWord.{log2_in, log2, interleaved, code_u, code_s, code_m, codes}

-- ---- the place of the leading one
pub record Top (w j : ℕ) : Type 0 where
  pub low : 2 ^ j ≤ w
  pub high : w < 2 ^ j * 2

top_half : (w j : ℕ) → Top (w / 2) j → Top w (suc j)
top_half w j t = record { low = rw pow-suc (omega (arith, t.low)); high = rw pow-suc (omega (arith, t.high)) }

log2_in-top : (f w : ℕ) → 0 < w → w ≤ f → Top w (log2_in f w)
unfolding log2_in
log2_in-top zero w p h = absurd (omega arith)
log2_in-top (suc f) zero p h = absurd (omega arith)
log2_in-top (suc f) (suc zero) p h = record { low = omega arith; high = omega arith }
log2_in-top (suc f) (suc (suc w)) p h = top_half (suc (suc w)) _ (log2_in-top f (suc (suc w) / 2) (omega arith) (half_le h))

pub log2-top : (w : ℕ) → 0 < w → Top w (log2 w)
unfolding log2
log2-top w p = log2_in-top w w p (le_refl w)

top-le : (w i j : ℕ) → Top w i → Top w j → i ≤ j
top-le w i j s t =
    le_of_suc-le-suc (lt_of_not-le λ (g : suc j ≤ i).
    not-le_of_lt (lt_of_le_of_lt s.low t.high) (le_trans (le_of_eq (sym (pow-suc 2 j))) (pow_mono g)))

pub top_unique : (w i j : ℕ) → Top w i → Top w j → i ≡ j
top_unique w i j s t = le_antisymm (top-le w i j s t) (top-le w j i t s)

-- what the machine's count of leading zeros says of it, at any width
pub leading_log2 : (k w : ℕ) → 0 < w → w < 2 ^ k → count_leading_zeros k w + suc (log2 w) ≡ k
leading_log2 k w p h =
    let t = leading_top k w p h in
    let same : t.0 ≡ log2 w = top_unique w _ _ (record { low = t.2; high = rw pow-suc at t.3 }) (log2-top w p) in
    rw (← same) t.1

-- and its whole logarithm
pub log2_is : (w k : ℕ) → 2 ^ k ≤ w → w < 2 * 2 ^ k → k ≡ log2 w
log2_is w k l h =
    top_unique w k (log2 w) (record { low = l; high = omega arith }) (log2-top w (omega (arith, pow_pos k)))

-- the bits below the leading one of v + 1 say v + 1, read on from 1
pub value-code : (v : ℕ) → value 1 (lit (log2 (v + 1)) (v + 1)) ≡ v + 1
value-code v =
    let t = log2-top (v + 1) (omega arith) in
    value-top (log2 (v + 1)) (v + 1) t.low (omega (arith, t.high, pow-suc 2 (log2 (v + 1))))

-- ---- unsigned words
pub interleaved-none : interleaved [] ≡ []
unfolding interleaved
interleaved-none = refl

pub interleaved-append : (s t : Bits) → interleaved (s ++ t) ≡ interleaved s ++ interleaved t
unfolding interleaved
interleaved-append [] t = refl
interleaved-append (x ∷ s) t = ap (λ (r : Bits). false ∷ x ∷ r) (interleaved-append s t)

pub length-interleaved : (s : Bits) → length (interleaved s) ≡ 2 * length s
unfolding interleaved
length-interleaved [] = refl
length-interleaved (b ∷ s) = ap (λ (k : ℕ). suc (suc k)) (length-interleaved s) ∙ omega arith

pub length-code_u : (v : ℕ) → length (code_u v) ≡ 2 * log2 (v + 1) + 1
unfolding code_u
length-code_u v = rw (length-append, length-interleaved, length-lit)

-- the word of x - 1, by the place of x's leading one
pub code_u_is : (x k : ℕ) → 0 < x → k ≡ log2 x → code_u (x - 1) ≡ interleaved (lit k x) ++ (true ∷ [])
unfolding code_u
code_u_is x k p e =
    let f : x - 1 + 1 ≡ x = omega arith in
    rw (f, e)

-- ---- signed words
pub length-code_s-zero : (z : ℤ) → nat_abs z ≡ 0 → length (code_s z) ≡ 1
unfolding code_s
length-code_s-zero (pos zero) e = rw (append-nil, length-code_u) (unfold log2 log2_in in refl)
length-code_s-zero (pos (suc n)) e = absurd (omega arith)
length-code_s-zero (negsuc n) e = absurd (omega arith)

pub length-code_s : (z : ℤ) → 0 < nat_abs z → length (code_s z) ≡ 2 * log2 (nat_abs z + 1) + 2
unfolding code_s
length-code_s (pos zero) p = absurd (omega arith)
length-code_s (pos (suc n)) p = rw (length-append, length-code_u) (omega arith)
length-code_s (negsuc n) p = rw (length-append, length-code_u) (omega arith)

-- the signed code word by the magnitude and whether the number is below 0
pub code-signed : (z : ℤ) → code_s z ≡ code_m (nat_abs z) (lt_z z (pos 0))
unfolding code_s code_m
code-signed (pos zero) = append-nil (code_u 0)
code-signed (pos (suc n)) = ap (λ (b : Bool). code_u (suc n) ++ (b ∷ [])) (sym (leb-suc-zero (suc n)))
code-signed (negsuc n) = refl

pub code_m-zero : (b : Bool) → code_m 0 b ≡ true ∷ []
unfolding code_m code_u log2 log2_in interleaved lit
code_m-zero b = refl

pub code_m-pos : (m : ℕ) (b : Bool) → 0 < m → code_m m b ≡ code_u m ++ (b ∷ [])
unfolding code_m
code_m-pos zero b h = absurd (omega arith)
code_m-pos (suc m) b h = refl

pub code_s_longer : (z : ℤ) (m : ℕ) → m ≡ nat_abs z → length (code_u m) ≤ length (code_s z)
unfolding code_s
code_s_longer z m e = rw (e, length-append) (omega arith)

-- a code word is at least 1 and at most 128 bits long where the number is an i64
pub code_s-pos : (z : ℤ) → 1 ≤ length (code_s z)
code_s-pos z = omega (arith, code_s_longer z (nat_abs z) refl, length-code_u (nat_abs z))

log2-lt : (w k : ℕ) → 0 < w → w < 2 ^ k → log2 w < k
log2-lt w k p h = omega (arith, leading_log2 k w p h)

pub code_s_short : (z : ℤ) → nat_abs z ≤ 2 ^ 63 → length (code_s z) ≤ 128
code_s_short (pos zero) h = omega (arith, length-code_s-zero (pos zero) refl)
code_s_short (pos (suc n)) h = omega (arith, length-code_s (pos (suc n)) (omega arith), log2-lt (suc n + 1) 64 (omega arith) (omega arith))
code_s_short (negsuc n) h = omega (arith, length-code_s (negsuc n) (omega arith), log2-lt (suc n + 1) 64 (omega arith) (omega arith))

-- ---- runs
pub codes-none : codes [] ≡ []
unfolding codes
codes-none = refl

pub codes-append : (xs ys : List ℤ) → codes (xs ++ ys) ≡ codes xs ++ codes ys
unfolding codes
codes-append [] ys = refl
codes-append (x ∷ xs) ys = rw (codes-append xs ys, append_assoc)

pub codes-one : (x : ℤ) → codes (x ∷ []) ≡ code_s x
unfolding codes
codes-one x = append-nil (code_s x)

pub codes-more : (xs : List ℤ) (x : ℤ) → codes (xs ++ (x ∷ [])) ≡ codes xs ++ code_s x
codes-more xs x = codes-append xs (x ∷ []) ∙ ap (λ (s : Bits). codes xs ++ s) (codes-one x)
