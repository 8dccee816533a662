-- Laws of a sign on a magnitude, and the code word by the two.
use Rattle.std.specs.Prelude.{◌≡◌, refl, true, false, ℕ, zero, suc, ◌+◌, ◌*◌, ◌/◌, ◌<◌, ℤ, pos, negsuc, neg_ℤ, nat_abs, ◌-ℤ◌}
use Rattle.std.proofs.Common.{sym, ap, ◌∙◌, arith}
use Rattle.std.proofs.Math.IntN.{+ℤ_idl}
use Rattle.std.proofs.Math.Dec.{leb-suc-zero}
use Rattle.std.specs.Int.Signed.{lt_z}
use Rattle.laws.specs.Laws.Integer.{parts, var, minus, ◌⊟◌, lt_yes, lt_no, abs_neg}
use Rattle.codewords.specs.CodeWord.{code_s, code_m}
use Rattle.codewords.specs.Laws.Code.{code-signed}
use Rattle.quantiser.specs.Standard.{signed}
use Rattle.quantiser.specs.Quant.{cap, forward_by}

pub signed-zero : (z : ℤ) → signed z 0 ≡ pos 0
signed-zero (pos n) = refl
signed-zero (negsuc n) = refl

pub abs_signed : (z : ℤ) (m : ℕ) → nat_abs (signed z m) ≡ m
abs_signed (pos n) m = refl
abs_signed (negsuc n) m = abs_neg (pos m)

pub signed_abs : (z : ℤ) → signed z (nat_abs z) ≡ z
signed_abs (pos n) = refl
signed_abs (negsuc n) = refl

-- a magnitude that is not 0 keeps the sign
pub signed-signed : (z : ℤ) (n m : ℕ) → 0 < n → signed (signed z n) m ≡ signed z m
signed-signed (pos k) n m h = refl
signed-signed (negsuc k) zero m h = absurd (omega arith)
signed-signed (negsuc k) (suc n) m h = refl

-- how far apart two magnitudes are with one sign
pub record Near (f m n : ℕ) : Type 0 where
  pub below : 4 * m < 4 * n + f
  pub above : 4 * n < 4 * m + f

pub near_signed : (f m : ℕ) (z : ℤ) → Near f (nat_abs z) m → 4 * nat_abs (z -ℤ signed z m) < f
near_signed f m (pos k) n = let s = var (pos k) ⊟ var (pos m) in omega (arith, parts (pos k -ℤ pos m))
near_signed f m (negsuc k) n =
    let s = var (negsuc k) ⊟ minus (var (pos m)) in
    omega (arith, parts (negsuc k -ℤ neg_ℤ (pos m)))

-- ---- the code word by the magnitude and the sign; that of 0 has no sign
pub code-sign : (z : ℤ) (m : ℕ) → code_s (signed z m) ≡ code_m m (lt_z z (pos 0))
unfolding code_m
code-sign (pos n) zero = code-signed (pos 0)
code-sign (pos n) (suc m) = code-signed (pos (suc m)) ∙ ap (code_m (suc m)) (leb-suc-zero (suc m) ∙ sym (leb-suc-zero n))
code-sign (negsuc n) zero = code-signed (pos 0)
code-sign (negsuc n) (suc m) = code-signed (negsuc m)

pub forward-code : (f : ℕ) (c : ℤ) → code_s (forward_by f c) ≡ code_m (nat_abs (forward_by f c)) (lt_z c (pos 0))
unfolding forward_by
forward-code f c =
    let m = cap (4 * nat_abs c / f) in
    code-sign c m ∙ ap (λ (k : ℕ). code_m k (lt_z c (pos 0))) (sym (abs_signed c m))

-- ---- the number as the code makes it
pub forward-sign : (f m : ℕ) (z c : ℤ) → z ≡ c → m ≡ nat_abs (forward_by f z) → signed z m ≡ forward_by f c
unfolding forward_by
forward-sign f m z c e d = ap (signed z) (d ∙ abs_signed z (cap (4 * nat_abs z / f))) ∙ ap (forward_by f) e

pub signed-minus : (z : ℤ) (m : ℕ) → lt_z z (pos 0) ≡ true → pos 0 -ℤ pos m ≡ signed z m
signed-minus (pos n) m h = let t = lt_yes (pos n) (pos 0) h in absurd (omega arith)
signed-minus (negsuc n) m h = +ℤ_idl (neg_ℤ (pos m))

pub signed-plus : (z : ℤ) (m : ℕ) → lt_z z (pos 0) ≡ false → pos m ≡ signed z m
signed-plus (pos n) m h = refl
signed-plus (negsuc n) m h = let t = lt_no (negsuc n) (pos 0) h in absurd (omega arith)
