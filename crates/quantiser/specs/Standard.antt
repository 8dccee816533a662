-- The standard's quantisation formulas, ST 2042-1 13.3, on numbers without bounds.
use Rattle.std.specs.Prelude.{ℕ, zero, suc, ◌+◌, ◌*◌, ◌/◌, ◌%◌, ◌^◌, ℤ, pos, negsuc, neg_ℤ, nat_abs}

abbrev pub factor_by : ℕ → ℕ → ℕ
factor_by zero base = 4 * base
factor_by (suc zero) base = (503829 * base + 52958) / 105917
factor_by (suc (suc zero)) base = (665857 * base + 58854) / 117708
factor_by (suc (suc (suc r))) base = (440253 * base + 32722) / 65444

-- 13.3.2: the factor of an index
unfoldable pub factor : ℕ → ℕ
factor i = factor_by (i % 4) (2 ^ (i / 4))

-- 13.3.2: the offset of an index, from its factor
abbrev pub offset_by : ℕ → ℕ → ℕ
offset_by zero f = 1
offset_by (suc zero) f = 2
offset_by (suc (suc i)) f = (f + 1) / 2

unfoldable pub offset : ℕ → ℕ
offset i = offset_by i (factor i)

-- the magnitude m with the sign of z
abbrev pub signed : ℤ → ℕ → ℤ
signed (pos n) m = pos m
signed (negsuc n) m = neg_ℤ (pos m)

-- 13.3.1: a number rebuilt; 0 stays 0
abbrev pub inverse_abs : ℕ → ℕ → ℕ → ℕ
inverse_abs f off zero = 0
inverse_abs f off (suc m) = (suc m * f + off + 2) / 4

unfoldable pub inverse : ℤ → ℕ → ℤ
inverse q i = signed q (inverse_abs (factor i) (offset i) (nat_abs q))
