-- What the code's steps rest on: a quotient by doubling, a product that is capped by a quotient, and the calls'
-- answers.
use Rattle.std.specs.Prelude.{◌≡◌, refl, ℕ, zero, suc, ◌+◌, ◌*◌, ◌-◌, ◌/◌, ◌%◌, ◌^◌, ◌≤◌, ◌<◌, ℤ, pos, negsuc, nat_abs, Result, Ok, Err}
use Rattle.std.proofs.Common.{sym, ◌∙◌, div-add-mod', le-div_iff_mul-le, div-lt_iff_lt-mul, mul-le-mul_right, le_trans, div-le_self, arith, lt-ltb, le-ltb, SFits, to_z, of_z, to_z-of_z}
use Rattle.std.proofs.Math.Nat.{div-le_of_le-mul}
use Rattle.std.proofs.Math.Arith.{digits_div}
use Rattle.std.specs.Int.Signed.{mag}
use Rattle.std.specs.Int.{w64}
use Rattle.quantiser.specs.declared.Quotient.{Quotient}
use Rattle.refusals.specs.declared.Refusal.{Refusal}
use Rattle.refusals.specs.declared.Refusal.TheVariants.{Index}
use Rattle.quantiser.specs.Standard.{signed}
use Rattle.quantiser.specs.Quant.{cap, forward_by, inverse_by}
use Rattle.quantiser.specs.Answer.{answer_of, Answered}
use Rattle.quantiser.specs.Code.Step.{Doubles}
use Rattle.quantiser.specs.Laws.Cap.{cap-same, cap-most}
use Rattle.quantiser.specs.Laws.Sign.{abs_signed}

-- ---- a signed number is handed on as its bits
pub back : (z : ℤ) → mag z < 2 ^ 63 → to_z w64 (of_z w64 z) ≡ z
back z h = to_z-of_z {w = w64} (record { sfits = h })

pub abs_read : (z : ℤ) (m : ℕ) → SFits w64 z → m ≡ nat_abs (to_z w64 (of_z w64 z)) → m ≡ nat_abs z
abs_read z m h e = rw (to_z-of_z {w = w64} h) at e

-- ---- the first quotient of a magnitude: a factor is 4 or more
pub quarter : (m f : ℕ) → 4 ≤ f → m ≤ 2 ^ 63 → m / f ≤ 2 ^ 61
quarter m f h l = div-le_of_le-mul f (le_trans (omega arith) (mul-le-mul_right (2 ^ 61) h))

-- ---- four times m over f: m itself at the factor 4, no more at any other, and 0 where f is larger
pub over_four : (m f : ℕ) → f ≡ 4 → m ≡ 4 * m / f
over_four m f e = rw e (omega arith)

pub over_more : (m f : ℕ) → 4 ≤ f → 4 * m / f ≤ m
over_more m f h = div-le_of_le-mul f (mul-le-mul_right m h)

pub over_none : (m f : ℕ) → 4 * m < f → 0 ≡ 4 * m / f
over_none m f h = let l = (div-lt_iff_lt-mul {k = f} {x = 4 * m} {y = 1} (omega arith)).1 (omega arith) in omega arith

-- ---- four times m over f: a quotient and a remainder doubled twice
pub four_times : (f m : ℕ) (a b c : Quotient) → a.quotient ≡ m / f → a.remainder ≡ m % f → Doubles f a b → Doubles f b c → c.quotient ≡ 4 * m / f
four_times f m a b c eq er s t =
    let e : a.quotient * f + a.remainder ≡ m = rw (eq, er) (div-add-mod' m f) in
    let g : c.quotient * f + c.remainder ≡ 4 * m = omega (arith, s.twice, t.twice) in
    sym (rw g at (digits_div c.quotient t.small))

pub forward_is : (f m n q : ℕ) (c : ℤ) → m ≡ nat_abs c → q ≡ 4 * m / f → n ≡ cap q → signed c n ≡ forward_by f c
unfolding forward_by
forward_is f m n q c em eq en = rw (en, eq, em)

-- the number's magnitude where nothing is capped
pub forward_abs : (f : ℕ) (c : ℤ) → nat_abs c < 2 ^ 60 → nat_abs (forward_by f c) ≡ 4 * nat_abs c / f
unfolding forward_by
forward_abs f c b =
    let l = div-le_self (4 * nat_abs c) f in
    abs_signed c (cap (4 * nat_abs c / f)) ∙ cap-same (omega arith)

-- ---- a number rebuilt: 0, and any other
pub inverse-zero : (f off : ℕ) (q : ℤ) → nat_abs q ≡ 0 → pos 0 ≡ inverse_by f off q
unfolding inverse_by
inverse-zero f off (pos n) e = rw e
inverse-zero f off (negsuc n) e = absurd (omega arith)

pub inverse-more : (f off m p s t : ℕ) (q : ℤ) → m ≡ nat_abs q → 0 < m → p ≡ cap (cap m * f) → s ≡ cap (p + off) → t ≡ cap (s + 2)
    → signed q (t / 4) ≡ inverse_by f off q
unfolding inverse_by
inverse-more f off zero p s t q e h ep es et = absurd (omega arith)
inverse-more f off (suc m) p s t q e h ep es et = rw (← e, et, es, ep)

-- ---- a product is too large where one side is above the quotient of the cap by the other
pub product-most : (a b : ℕ) → 0 < b → (2 ^ 63 - 1) / b < a → cap (a * b) ≡ 2 ^ 63 - 1
product-most a b p h = let l = (div-lt_iff_lt-mul p).0 h in cap-most (omega arith)

pub product_small : (a b : ℕ) → 0 < b → a ≤ (2 ^ 63 - 1) / b → a * b < 2 ^ 63
product_small a b p h = let l = (le-div_iff_mul-le p).0 h in omega arith

-- ---- the four calls
pub refused : (i : ℕ) (z : ℤ) {r : Result ℤ Refusal} → r ≡ Err Index → 255 < i → Answered i z r
unfolding answer_of
refused i z q h = let e = lt-ltb 255 i h in record { is = rw (q, e) refl; number = rw (q, e) refl; value = rw (q, e) refl }

pub answered : (i : ℕ) (z y : ℤ) → i ≤ 255 → y ≡ z → Answered i z (Ok y)
unfolding answer_of
answered i z y h q = let e = le-ltb 255 i h in record { is = rw (e, q) refl; number = rw e refl; value = rw (e, q) refl }
