-- The quantiser of document 01, "Factors and matrices": the standard's formulas with a factor worked out whole and it
-- and each later step capped at 2^63 - 1; quantising truncates four times the coefficient over the factor, capped
-- alike.
use Rattle.std.specs.Prelude.{ℕ, zero, suc, ◌+◌, ◌*◌, ◌-◌, ◌/◌, ◌^◌, min, ℤ, nat_abs}
use Rattle.quantiser.specs.Standard.{factor, signed}

unfoldable pub cap : ℕ → ℕ
cap n = min n (2 ^ 63 - 1)

unfoldable pub quant_factor : ℕ → ℕ
quant_factor i = cap (factor i)

abbrev pub capped_offset_by : ℕ → ℕ → ℕ
capped_offset_by zero f = 1
capped_offset_by (suc zero) f = 2
capped_offset_by (suc (suc i)) f = cap (f + 1) / 2

unfoldable pub quant_offset : ℕ → ℕ
quant_offset i = capped_offset_by i (quant_factor i)

-- a coefficient quantised by the factor f
unfoldable pub forward_by : ℕ → ℤ → ℤ
forward_by f c = signed c (cap (4 * nat_abs c / f))

unfoldable pub forward_quant : ℤ → ℕ → ℤ
forward_quant c i = forward_by (quant_factor i) c

-- a number rebuilt by the factor f and the offset off: the magnitude, its product, and each sum capped
abbrev pub capped_inverse_abs : ℕ → ℕ → ℕ → ℕ
capped_inverse_abs f off zero = 0
capped_inverse_abs f off (suc m) = cap (cap (cap (cap (suc m) * f) + off) + 2) / 4

unfoldable pub inverse_by : ℕ → ℕ → ℤ → ℤ
inverse_by f off q = signed q (capped_inverse_abs f off (nat_abs q))

unfoldable pub inverse_quant : ℤ → ℕ → ℤ
inverse_quant q i = inverse_by (quant_factor i) (quant_offset i) q

-- a band's index: the slice's less the matrix value, not below 0
abbrev pub band_index : ℕ → ℕ → ℕ
band_index i m = i - m
