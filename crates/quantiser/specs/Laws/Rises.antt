-- A larger index has no smaller factor, a larger factor makes no larger number, and a smaller number has no longer code
-- word.
use Rattle.std.specs.Prelude.{◌≡◌, ℕ, zero, suc, ◌+◌, ◌*◌, ◌-◌, ◌/◌, ◌%◌, ◌^◌, ◌≤◌, ◌<◌, ℤ, nat_abs, length}
use Rattle.std.proofs.Common.{zero-add, suc-add, le_refl, le_trans, pow-suc, le-div_iff_mul-le, div-mul-le_self, mul-le-mul_left, arith, pow_pos, pow_mono}
use Rattle.std.proofs.Math.Decide.{ℕ_discrete}
use Rattle.codewords.specs.CodeWord.{code_s}
use Rattle.codewords.specs.Laws.Code.{code_s-pos, length-code_s, length-code_s-zero}
use Rattle.quantiser.specs.Standard.{factor_by, factor}
use Rattle.quantiser.specs.Quant.{cap, quant_factor, forward_by}
use Rattle.quantiser.specs.Laws.Cap.{factor_by-least}
use Rattle.quantiser.specs.Laws.Sign.{abs_signed}
use Rattle.quantiser.specs.Laws.Length.{log2_mono}

cap_rises : {m n : ℕ} → m ≤ n → cap m ≤ cap n
unfolding cap
cap_rises h = omega arith

-- ---- factors
-- the factors of one base rise
factor_by-next : (r base : ℕ) → factor_by r base ≤ factor_by (suc r) base
factor_by-next zero base = omega arith
factor_by-next (suc zero) base = omega arith
factor_by-next (suc (suc zero)) base = omega arith
factor_by-next (suc (suc (suc r))) base = omega arith

factor_by_rises : (r d base : ℕ) → factor_by r base ≤ factor_by (d + r) base
factor_by_rises r zero base = rw (zero-add r) (le_refl (factor_by r base))
factor_by_rises r (suc d) base = rw (suc-add d r) (le_trans (factor_by_rises r d base) (factor_by-next (d + r) base))

-- the next base is twice as large
factor_by-most : (r base : ℕ) → 0 < base → factor_by r base ≤ 8 * base
factor_by-most zero base h = omega arith
factor_by-most (suc zero) base h = omega arith
factor_by-most (suc (suc zero)) base h = omega arith
factor_by-most (suc (suc (suc r))) base h = omega arith

factor_by_lem : (r s d e : ℕ) → 4 * d + r ≤ 4 * e + s → s < 4 → factor_by r (2 ^ d) ≤ factor_by s (2 ^ e)
factor_by_lem r s d e h l = by (ℕ_discrete d e)
  where
    by : Dec (d ≡ e) → factor_by r (2 ^ d) ≤ factor_by s (2 ^ e)
    by (yes g) =
        let k : s - r + r ≡ s = omega arith in
        rw (← g) (rw k at (factor_by_rises r (s - r) (2 ^ d)))
    by (no g) =
        let k : suc d ≤ e = omega arith in
        omega (arith, factor_by-most r (2 ^ d) (pow_pos d), pow-suc 2 d, pow_mono k, factor_by-least s (2 ^ e))

pub factor_rises : (i j : ℕ) → i ≤ j → quant_factor i ≤ quant_factor j
unfolding quant_factor factor
factor_rises i j h = cap_rises (factor_by_lem (i % 4) (j % 4) (i / 4) (j / 4) (omega arith) (omega arith))

-- ---- numbers
div_falls : (n f g : ℕ) → 0 < f → f ≤ g → n / g ≤ n / f
div_falls n f g p h = (le-div_iff_mul-le p).1 (omega (arith, mul-le-mul_left (n / g) h, div-mul-le_self n g))

pub forward_falls : (f g : ℕ) (c : ℤ) → 0 < f → f ≤ g → nat_abs (forward_by g c) ≤ nat_abs (forward_by f c)
unfolding forward_by
forward_falls f g c p h =
    rw (abs_signed c (cap (4 * nat_abs c / g)), abs_signed c (cap (4 * nat_abs c / f))) (cap_rises (div_falls (4 * nat_abs c) f g p h))

-- ---- code words
pub code_falls : (a b : ℤ) → nat_abs a ≤ nat_abs b → length (code_s a) ≤ length (code_s b)
code_falls a b h = by (ℕ_discrete (nat_abs a) 0)
  where
    by : Dec (nat_abs a ≡ 0) → length (code_s a) ≤ length (code_s b)
    by (yes e) = omega (arith, length-code_s-zero a e, code_s-pos b)
    by (no e) =
        omega (arith, length-code_s a (omega arith), length-code_s b (omega arith), log2_mono (nat_abs a + 1) (nat_abs b + 1) (omega arith) (omega arith))
