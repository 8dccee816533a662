-- Laws of literals and of the numbers that bits say.
use Rattle.std.specs.Prelude.{◌≡◌, refl, Bool, true, false, [], ◌∷◌, ◌++◌, ℕ, zero, suc, ◌+◌, ◌-◌, ◌*◌, ◌/◌, ◌%◌, ◌^◌, ◌≤◌, ◌<◌, eqb, length, replicate}
use Rattle.std.proofs.Common.{sym, ap, ap₂, ◌∙◌, mod-lt, mod-eq_of_lt, div-one, pow-suc, mul_comm, mul_assoc, mul-one, add-mul, add_assoc, zero-add, zero-mul, zero-lt-suc, one-mul, suc-add, add_comm, add-one, arith, pow_pos, shr-shr}
use Rattle.std.proofs.Math.Nat.{zero-div, mod-one, mul-add-mod_self_right, div-div-eq-div-mul, pow-succ', mod-eq-sub-mod}
use Rattle.std.proofs.Math.Arith.{digits_div, mod-mul}
use Rattle.std.proofs.lemmas.List.{replicate-append-replicate}
use Rattle.std.proofs.Math.Pow.{pow-lt, high, low}
use mir.Val.{bool_byte}
use Rattle.codewords.specs.Bit.{Bits, val, lit, value, one_bits, zero_bits}

pub val_bit : (n : ℕ) → n < 2 → val (eqb n 1) ≡ n
val_bit zero h = refl
val_bit (suc zero) h = refl
val_bit (suc (suc n)) h = absurd (omega arith)

pub bit_val : (b : Bool) → eqb (val b) 1 ≡ b
bit_val true = refl
bit_val false = refl

pub val-lt : (b : Bool) → val b < 2
val-lt true = omega arith
val-lt false = omega arith

-- a bool as the machine's byte
pub byte_val : (b : Bool) → bool_byte b ≡ val b
byte_val true = refl
byte_val false = refl

-- ---- literals
pub length-lit : (k v : ℕ) → length (lit k v) ≡ k
unfolding lit
length-lit zero v = refl
length-lit (suc k) v = ap suc (length-lit k v)

pub lit-none : (v : ℕ) → lit 0 v ≡ []
unfolding lit
lit-none v = refl

pub half_power : (v k : ℕ) → v / 2 ^ suc k ≡ v / 2 / 2 ^ k
half_power v k = ap (λ (n : ℕ). v / n) (pow-succ' 2 k) ∙ sym (div-div-eq-div-mul v 2 (2 ^ k))

-- k + 1 bits by the k higher ones and the lowest
pub lit-low : (k v : ℕ) → lit (suc k) v ≡ lit k (v / 2) ++ (eqb (v % 2) 1 ∷ [])
unfolding lit
lit-low zero v = ap (λ (n : ℕ). eqb (n % 2) 1 ∷ []) (div-one v)
lit-low (suc k) v = ap₂ (λ (n : ℕ) (s : Bits). eqb (n % 2) 1 ∷ s) (half_power v k) (lit-low k v)

-- one bit more at the low end
pub lit-more : (k p : ℕ) (b : Bool) → lit (k + 1) (p * 2 + val b) ≡ lit k p ++ (b ∷ [])
lit-more k p b =
    let h = val-lt b in
    let d : (p * 2 + val b) / 2 ≡ p = omega arith in
    let m : (p * 2 + val b) % 2 ≡ val b = omega arith in
    rw (add-one k, lit-low k (p * 2 + val b), d, m, bit_val b)

-- a bool as one bit
pub lit_bit : (b : Bool) → lit 1 (bool_byte b) ≡ b ∷ []
unfolding lit
lit_bit true = refl
lit_bit false = refl

-- the j bits from place k on, and then the k low ones
pub lit_split : (j k v : ℕ) → lit (j + k) v ≡ lit j (v / 2 ^ k) ++ lit k v
unfolding lit
lit_split zero k v = ap (λ (n : ℕ). lit n v) (zero-add k)
lit_split (suc j) k v =
    ap (λ (n : ℕ). lit n v) (suc-add j k)
    ∙ ap₂ (λ (n : ℕ) (s : Bits). eqb (n % 2) 1 ∷ s) (ap (λ (i : ℕ). v / 2 ^ i) (add_comm j k) ∙ sym (shr-shr v k j)) (lit_split j k v)

-- a byte up from place i - 8
pub byte_up : (x i : ℕ) → 8 ≤ i → x / 2 ^ (i - 8) / 256 ≡ x / 2 ^ i
byte_up x i h =
    let e : i - 8 + 8 ≡ i = omega arith in
    shr-shr x (i - 8) 8 ∙ ap (λ (j : ℕ). x / 2 ^ j) e

-- ---- the numbers that bits say
mod-pow-suc : (v k : ℕ) → v % 2 ^ suc k ≡ (v / 2 ^ k % 2) * 2 ^ k + v % 2 ^ k
mod-pow-suc v k = ap (λ (x : ℕ). v % x) (pow-suc 2 k ∙ mul_comm (2 ^ k) 2) ∙ mod-mul v (zero-lt-suc 1) (pow_pos k)

pub value-lit : (k v a : ℕ) → value a (lit k v) ≡ a * 2 ^ k + v % 2 ^ k
unfolding lit value
value-lit zero v a = omega (arith, mod-one v, mul-one a)
value-lit (suc k) v a =
    value-lit k v (a * 2 + val (eqb (v / 2 ^ k % 2) 1))
    ∙ rw (val_bit (v / 2 ^ k % 2) (mod-lt (v / 2 ^ k) (zero-lt-suc 1)), mod-pow-suc v k, pow-succ', add-mul, mul_assoc, add_assoc)

pub value-of-lit : (k v : ℕ) → v < 2 ^ k → value 0 (lit k v) ≡ v
value-of-lit k v h = value-lit k v 0 ∙ omega (arith, zero-mul (2 ^ k), mod-eq_of_lt h)

value-add : (w : Bits) (a : ℕ) → value a w ≡ a * 2 ^ length w + value 0 w
unfolding value
value-add [] a = omega arith
value-add (b ∷ w) a = value-add w (a * 2 + val b) ∙ rw (value-add w (0 + val b), pow-succ' 2 (length w), add-mul, mul_assoc, zero-add) (omega arith)

top_lt : (b : Bool) (p x : ℕ) → x < p → (0 * 2 + val b) * p + x < 2 * p
top_lt true p x h = omega arith
top_lt false p x h = omega arith

pub value-lt : (w : Bits) → value 0 w < 2 ^ length w
unfolding value
value-lt [] = omega arith
value-lt (b ∷ w) = rw (value-add w (0 * 2 + val b), pow-succ' 2 (length w)) (top_lt b (2 ^ length w) (value 0 w) (value-lt w))

bit_low : (a : ℕ) (b : Bool) → eqb ((a * 2 + val b) % 2) 1 ≡ b
bit_low a true = ap (λ (n : ℕ). eqb n 1) (mul-add-mod_self_right a 2 1)
bit_low a false = ap (λ (n : ℕ). eqb n 1) (mul-add-mod_self_right a 2 0)

pub lit-value : (w : Bits) (a : ℕ) → lit (length w) (value a w) ≡ w
unfolding lit value
lit-value [] a = refl
lit-value (b ∷ w) a =
    ap₂ ◌∷◌
    (ap (λ (x : ℕ). eqb (x % 2) 1) (ap (λ (x : ℕ). x / 2 ^ length w) (value-add w (a * 2 + val b)) ∙ digits_div (a * 2 + val b) (value-lt w)) ∙ bit_low a b)
    (lit-value w (a * 2 + val b))

-- bits above the k low ones do not matter
pub lit-mod : (k v : ℕ) → lit k (v % 2 ^ k) ≡ lit k v
lit-mod k v =
    let w = lit k v in
    let e : value 0 w ≡ v % 2 ^ k = value-lit k v 0 ∙ omega (arith, zero-mul (2 ^ k)) in
    ap₂ lit (sym (length-lit k v)) (sym e) ∙ lit-value w 0

-- the n low bits of v behind those of a
pub lit_join : (p a n v : ℕ) → lit (p + n) (a * 2 ^ n + v % 2 ^ n) ≡ lit p a ++ lit n v
lit_join p a n v =
    let h = mod-lt v (pow_pos n) in
    let x = a * 2 ^ n + v % 2 ^ n in
    lit_split p n x ∙ ap₂ (λ (y : ℕ) (s : Bits). lit p y ++ s) (high a n h) (sym (lit-mod n x) ∙ ap (lit n) (low a n h) ∙ lit-mod n v)

-- a number by its leading one and the bits below
pub value-top : (k m : ℕ) → 2 ^ k ≤ m → m < 2 ^ suc k → value 1 (lit k m) ≡ m
value-top k m lo hi =
    let lt : m - 2 ^ k < 2 ^ k = omega (arith, pow-succ' 2 k) in
    value-lit k m 1 ∙ rw (one-mul (2 ^ k), mod-eq-sub-mod lo, mod-eq_of_lt lt) (omega arith)

-- ---- runs of one bit
pub repeat_more : (n : ℕ) (b : Bool) → replicate (n + 1) b ≡ replicate n b ++ (b ∷ [])
repeat_more n b = sym (replicate-append-replicate n 1 b)

pub lit_ones : (k m : ℕ) → k ≤ m → lit k (2 ^ m - 1) ≡ one_bits k
lit_ones zero m h = lit-none (2 ^ m - 1)
lit_ones (suc k) zero h = absurd (omega arith)
lit_ones (suc k) (suc m) h =
    let p = pow_pos m in
    let e : 2 ^ suc m - 1 ≡ (2 ^ m - 1) * 2 + val true = omega (arith, pow-suc 2 m) in
    ap (lit (suc k)) e ∙ ap (λ (n : ℕ). lit n ((2 ^ m - 1) * 2 + val true)) (sym (add-one k)) ∙ lit-more k (2 ^ m - 1) true
    ∙ ap (λ (s : Bits). s ++ (true ∷ [])) (lit_ones k m (omega arith)) ∙ sym (repeat_more k true) ∙ ap one_bits (add-one k)

pub lit-zeros : (k : ℕ) → lit k 0 ≡ zero_bits k
unfolding lit
lit-zeros zero = refl
lit-zeros (suc k) = ap₂ (λ (n : ℕ) (s : Bits). eqb (n % 2) 1 ∷ s) (zero-div (2 ^ k)) (lit-zeros k)

-- ---- a power of two as the machine shifts it
pub one_shl : (n : ℕ) → n < 64 → 1 * 2 ^ n % 2 ^ 64 ≡ 2 ^ n
one_shl n h = omega (arith, pow-lt {i = n} {j = 64} h)
