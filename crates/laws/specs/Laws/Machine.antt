-- What the machine's signed operations ask at 64 bits, and what its quotient and remainder are, by up and dn.
use Rattle.std.specs.Prelude.{◌≡◌, ℕ, suc, ◌+◌, ◌-◌, ◌*◌, ◌/◌, ◌%◌, ◌^◌, ◌<◌, ◌≤◌, true, false, T, ℤ, pos, negsuc, ◌-ℤ◌, FitsSigned, int_div, int_lt, int_rem, unsigned_abs, refl}
use Rattle.std.proofs.Common.{sym, ◌∙◌, arith, mul-le-mul_right, Fits, of_z}
use Rattle.std.proofs.Math.Nat.{zero-div, zero-mod}
use Rattle.std.specs.Int.Signed.{shr_z, non_neg}
use Rattle.std.specs.Int.{w64}
use Rattle.laws.specs.Laws.Integer.{up, dn, parts, neg_law, ext, var, ◌⊟◌, lt_yes, lt_no, floor_law}

pub fit : (z : ℤ) → unsigned_abs z < 2 ^ 63 → FitsSigned w64 z
fit z h = record { sfits = omega (arith, parts z) }

-- the product of a number of at most 2^32 and one below 2^32 fits in 64 bits
pub product-fits : (a b : ℕ) → a ≤ 2 ^ 32 → b < 2 ^ 32 → a * b < 2 ^ 64
product-fits a b h g = omega (arith, mul-le-mul_right b h)

pub unfit : (z : ℤ) → FitsSigned w64 z → unsigned_abs z ≤ 2 ^ 63
unfit z h = omega (arith, parts z)

pub record Quot (s : ℤ) (k : ℕ) : Type 0 where
  pub q_up : up (int_div s (pos k)) ≡ up s / k
  pub q_dn : dn (int_div s (pos k)) ≡ dn s / k
  pub r_up : up (int_rem s (pos k)) ≡ up s % k
  pub r_dn : dn (int_rem s (pos k)) ≡ dn s % k

pub quot_law : (s : ℤ) (k : ℕ) → Quot s k
quot_law (pos a) k = record { q_up = refl; q_dn = sym (zero-div k); r_up = refl; r_dn = sym (zero-mod k) }
quot_law (negsuc a) k =
    let q = neg_law (pos (suc a / k)) in
    let r = neg_law (pos (suc a % k)) in
    record { q_up = q.0 ∙ sym (zero-div k); q_dn = q.1; r_up = r.0 ∙ sym (zero-mod k); r_dn = r.1 }

-- the quotient toward zero, corrected by the remainder's sign, is the floor
pub floor3_neg : (s : ℤ) → int_lt (int_rem s (pos 3)) (pos 0) ≡ true → int_div s (pos 3) -ℤ pos 1 ≡ shr_z s 3
floor3_neg s h =
    let l = lt_yes (int_rem s (pos 3)) (pos 0) h in
    let f = floor_law s {m = 3} (omega arith) in
    let v = var (int_div s (pos 3)) ⊟ var (pos 1) in
    ext (omega (arith, quot_law s 3, parts s))

pub floor3_pos : (s : ℤ) → int_lt (int_rem s (pos 3)) (pos 0) ≡ false → int_div s (pos 3) ≡ shr_z s 3
floor3_pos s h =
    let l = lt_no (int_rem s (pos 3)) (pos 0) h in
    let f = floor_law s {m = 3} (omega arith) in
    ext (omega (arith, quot_law s 3, parts s))

-- ---- casts: below zero `!a` is -(a + 1), which a cast to u64 takes; from zero up the cast takes a itself
pub record Below (a : ℤ) : Type 0 where
  pub low : (2 ^ 64 - 1) - of_z w64 a < 2 ^ 63
  pub same : (2 ^ 64 - 1) - of_z w64 a + 1 ≡ unsigned_abs a

pub below : (a : ℤ) → FitsSigned w64 a → int_lt a (pos 0) ≡ true → Below a
below (pos n) f h = let t = lt_yes (pos n) (pos 0) h in absurd (omega arith)
below (negsuc n) f h = omega arith

pub record Plain (a : ℤ) : Type 0 where
  pub sign : T (non_neg a)
  pub fits : Fits w64 (unsigned_abs a)
  pub same : unsigned_abs a ≡ of_z w64 a

pub plain : (a : ℤ) → FitsSigned w64 a → int_lt a (pos 0) ≡ false → Plain a
plain (pos n) f h = record { sign = tt; fits = omega arith; same = refl }
plain (negsuc n) f h = let t = lt_no (negsuc n) (pos 0) h in absurd (omega arith)
