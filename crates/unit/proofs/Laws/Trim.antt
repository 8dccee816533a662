-- Laws of runs: trailing zeros dropped and filled in again, what a run costs, and the longest run that fits.
use Rattle.std.specs.Prelude.{◌≡◌, refl, Bool, true, false, List, [], ◌∷◌, ◌++◌, ℕ, zero, suc, ◌+◌, ◌*◌, ◌-◌, ◌^◌, ◌≤◌, leb, ℤ, pos, negsuc, nat_abs, length, take}
use Rattle.std.proofs.Common.{ap, ◌∙◌, arith, leb-true, le-leb, length-append}
use Rattle.codewords.specs.Bit.{lit, one_bits}
use Rattle.codewords.specs.CodeWord.{log2_in, log2, interleaved, code_u, code_s, codes, zero_filled}
use Rattle.codewords.specs.Laws.Code.{code_s-pos, code_s_short, length-code_s}
use Rattle.unit.specs.Trim.{trim_cons, trimmed, bits_of, trimmed_cost, fit_prefix}

-- ---- zeros filled in
fill-cons : (n : ℕ) (x : ℤ) (ys : List ℤ) → zero_filled (suc n) (trim_cons x ys) ≡ x ∷ zero_filled n ys
unfolding zero_filled
fill-cons n x (y ∷ ys) = refl
fill-cons n (pos zero) [] = refl
fill-cons n (pos (suc k)) [] = refl
fill-cons n (negsuc k) [] = refl

-- the zeros that were dropped come back
pub filled-trimmed : (xs : List ℤ) → zero_filled (length xs) (trimmed xs) ≡ xs
unfolding trimmed zero_filled
filled-trimmed [] = refl
filled-trimmed (x ∷ xs) = fill-cons (length xs) x (trimmed xs) ∙ ap (λ (r : List ℤ). x ∷ r) (filled-trimmed xs)

-- ---- trimmed runs
length-trim_cons : (x : ℤ) (ys : List ℤ) → length (trim_cons x ys) ≤ suc (length ys)
length-trim_cons x (y ∷ ys) = omega arith
length-trim_cons (pos zero) [] = omega arith
length-trim_cons (pos (suc k)) [] = omega arith
length-trim_cons (negsuc k) [] = omega arith

pub length-trimmed : (xs : List ℤ) → length (trimmed xs) ≤ length xs
unfolding trimmed
length-trimmed [] = omega arith
length-trimmed (x ∷ xs) = omega (arith, length-trim_cons x (trimmed xs), length-trimmed xs)

-- every magnitude is at most 2^63, so that each code word has at most 128 bits
abbrev pub Small : List ℤ → Type 0
Small [] = Unit {0}
Small (x ∷ xs) = (nat_abs x ≤ 2 ^ 63) × Small xs

pub small_append : (xs ys : List ℤ) → Small xs → Small ys → Small (xs ++ ys)
small_append [] ys a b = b
small_append (x ∷ xs) ys a b = (a.0, small_append xs ys a.1 b)

small_cons : (x : ℤ) (ys : List ℤ) → nat_abs x ≤ 2 ^ 63 → Small ys → Small (trim_cons x ys)
small_cons x (y ∷ ys) a b = (a, b)
small_cons (pos zero) [] a b = tt
small_cons (pos (suc k)) [] a b = (a, tt)
small_cons (negsuc k) [] a b = (a, tt)

pub small_trimmed : (xs : List ℤ) → Small xs → Small (trimmed xs)
unfolding trimmed
small_trimmed [] a = tt
small_trimmed (x ∷ xs) a = small_cons x (trimmed xs) a.0 (small_trimmed xs a.1)

pub bits_most : (xs : List ℤ) → Small xs → bits_of xs ≤ 128 * length xs
unfolding codes
bits_most [] a = omega arith
bits_most (x ∷ xs) a = rw (length-append (code_s x) (codes xs)) (omega (arith, code_s_short x a.0, bits_most xs a.1))

pub cost-most : (xs : List ℤ) → Small xs → trimmed_cost xs ≤ 128 * length xs
unfolding trimmed_cost
cost-most xs a = omega (arith, bits_most (trimmed xs) (small_trimmed xs a), length-trimmed xs)

-- ---- the longest run that fits
pub fit_bits : (xs : List ℤ) (n : ℕ) → bits_of (fit_prefix xs n) ≤ n
unfolding fit_prefix codes
fit_bits [] n = omega arith
fit_bits (x ∷ xs) n = by (leb (length (code_s x)) n) refl (fit_bits xs (n - length (code_s x)))
  where
    by : (b : Bool) → leb (length (code_s x)) n ≡ b → bits_of (fit_prefix xs (n - length (code_s x))) ≤ n - length (code_s x)
        → bits_of (elim b [ true ↦ x ∷ fit_prefix xs (n - length (code_s x)) | false ↦ [] ]) ≤ n
    by true e h =
        rw (length-append (code_s x) (codes (fit_prefix xs (n - length (code_s x))))) (omega (arith, leb-true (length (code_s x)) n e))
    by false e h = omega arith

-- a run that fits
pub fit_all : (xs : List ℤ) (n : ℕ) → bits_of xs ≤ n → fit_prefix xs n ≡ xs
unfolding fit_prefix codes
fit_all [] n h = refl
fit_all (x ∷ xs) n h =
    let l = length-append (code_s x) (codes xs) in
    rw (le-leb (length (code_s x)) n (omega arith), fit_prefix) (ap (λ (r : List ℤ). x ∷ r) (fit_all xs (n - length (code_s x)) (omega arith)))

-- the longest prefix that fits is a run from the start
pub fit_prefix_lem : (xs : List ℤ) (n : ℕ) → fit_prefix xs n ≡ take (length (fit_prefix xs n)) xs
unfolding fit_prefix
fit_prefix_lem [] n = refl
fit_prefix_lem (x ∷ xs) n = by (leb (length (code_s x)) n) (fit_prefix_lem xs (n - length (code_s x)))
  where
    by : (b : Bool) → fit_prefix xs (n - length (code_s x)) ≡ take (length (fit_prefix xs (n - length (code_s x)))) xs
        → let r : List ℤ = elim b [ true ↦ x ∷ fit_prefix xs (n - length (code_s x)) | false ↦ [] ] in r ≡ take (length r) (x ∷ xs)
    by true h = ap (λ (r : List ℤ). x ∷ r) h
    by false h = refl

-- ---- a run of at most one bit
-- a run of at most one bit is empty or a single 0: it reads as no numbers do, and its bit is a 1
none_in : (x : ℤ) (xs : List ℤ) → length (code_s x) + bits_of xs ≤ 1 → xs ≡ []
unfolding codes
none_in x [] h = refl
none_in x (y ∷ ys) h = absurd (omega (arith, code_s-pos x, code_s-pos y, length-append (code_s y) (codes ys)))

zero_in : (x : ℤ) → length (code_s x) ≤ 1 → x ≡ pos 0
zero_in (pos zero) h = refl
zero_in (pos (suc n)) h = absurd (omega (arith, length-code_s (pos (suc n)) (omega arith)))
zero_in (negsuc n) h = absurd (omega (arith, length-code_s (negsuc n) (omega arith)))

code-zero : code_s (pos 0) ≡ true ∷ []
unfolding code_s code_u log2 log2_in interleaved lit
code-zero = refl

pub record Bare (xs : List ℤ) : Type 0 where
  pub fills : (n : ℕ) → zero_filled n xs ≡ zero_filled n []
  pub bits : codes xs ≡ one_bits (bits_of xs)

bare_nil : Bare []
unfolding codes
bare_nil = record { fills = λ n. refl; bits = refl }

bare_zero : Bare (pos 0 ∷ [])
unfolding codes zero_filled
bare_zero = record { fills = elim [ zero ↦ refl | suc n ↦ refl ]; bits = rw code-zero }

pub bare : (xs : List ℤ) → bits_of xs ≤ 1 → Bare xs
unfolding codes
bare [] h = bare_nil
bare (x ∷ xs) h =
    let l : length (code_s x) + bits_of xs ≤ 1 = rw (← length-append (code_s x) (codes xs)) h in
    let e : xs ≡ [] = none_in x xs l in
    let f : x ≡ pos 0 = zero_in x (omega arith) in
    rw (e, f) bare_zero
