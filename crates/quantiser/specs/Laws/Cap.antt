-- Laws of the cap, of factors and of offsets.
use Rattle.std.specs.Prelude.{◌≡◌, refl, ℕ, zero, suc, ◌+◌, ◌*◌, ◌-◌, ◌/◌, ◌%◌, ◌^◌, ◌≤◌, ◌<◌}
use Rattle.std.proofs.Common.{sym, pow-suc, arith, pow_pos, pow_mono}
use Rattle.quantiser.specs.Standard.{factor_by, factor, offset}
use Rattle.quantiser.specs.Quant.{cap, quant_factor, capped_offset_by, quant_offset}

pub cap-same : {n : ℕ} → n < 2 ^ 63 → cap n ≡ n
unfolding cap
cap-same h = omega arith

pub cap-most : {n : ℕ} → 2 ^ 63 - 1 ≤ n → cap n ≡ 2 ^ 63 - 1
unfolding cap
cap-most h = omega arith

pub cap-lt : (n : ℕ) → cap n < 2 ^ 63
unfolding cap
cap-lt n = omega arith

pub cap-le : (n : ℕ) → cap n ≤ n
unfolding cap
cap-le n = omega arith

-- ---- factors
pub factor_by-least : (r base : ℕ) → 4 * base ≤ factor_by r base
factor_by-least zero base = omega arith
factor_by-least (suc zero) base = omega arith
factor_by-least (suc (suc zero)) base = omega arith
factor_by-least (suc (suc (suc r))) base = omega arith

factor_by_six : (r e : ℕ) → 2 ≤ 4 * e + r → 6 ≤ factor_by r (2 ^ e)
factor_by_six zero zero h = absurd (omega arith)
factor_by_six (suc zero) zero h = absurd (omega arith)
factor_by_six (suc (suc zero)) zero h = omega arith
factor_by_six (suc (suc (suc r))) zero h = omega arith
factor_by_six r (suc e) h = omega (arith, factor_by-least r (2 ^ suc e), pow-suc 2 e, pow_pos e)

pub factor-least : (i : ℕ) → 4 ≤ factor i
unfolding factor
factor-least i = omega (arith, factor_by-least (i % 4) (2 ^ (i / 4)), pow_pos (i / 4))

-- from index 2 on a factor is at least 6
pub factor_six : (i : ℕ) → 2 ≤ i → 6 ≤ factor i
unfolding factor
factor_six i h = factor_by_six (i % 4) (i / 4) (omega arith)

pub quant_factor-zero : quant_factor 0 ≡ 4
unfolding quant_factor cap factor
quant_factor-zero = refl

pub quant_factor-one : quant_factor 1 ≡ 5
unfolding quant_factor cap factor
quant_factor-one = refl

pub quant_factor-least : (i : ℕ) → 4 ≤ quant_factor i
unfolding quant_factor cap
quant_factor-least i = omega (arith, factor-least i)

pub quant_factor_six : (i : ℕ) → 2 ≤ i → 6 ≤ quant_factor i
unfolding quant_factor cap
quant_factor_six i h = omega (arith, factor_six i h)

pub quant_factor-lt : (i : ℕ) → quant_factor i < 2 ^ 63
unfolding quant_factor
quant_factor-lt i = cap-lt (factor i)

-- a factor that is not capped
pub factor-same : (i : ℕ) → quant_factor i < 2 ^ 63 - 1 → factor i ≡ quant_factor i
unfolding quant_factor cap
factor-same i h = omega arith

-- ---- a factor as the code makes it: by the formulas below index 128, where the base is small and no factor is capped
pub factor_by_rest : (r base : ℕ) → 3 ≤ r → (440253 * base + 32722) / 65444 ≡ factor_by r base
factor_by_rest zero base h = absurd (omega arith)
factor_by_rest (suc zero) base h = absurd (omega arith)
factor_by_rest (suc (suc zero)) base h = absurd (omega arith)
factor_by_rest (suc (suc (suc r))) base h = refl

factor_by-lt : (r base : ℕ) → base ≤ 2 ^ 31 → factor_by r base < 2 ^ 63
factor_by-lt zero base h = omega arith
factor_by-lt (suc zero) base h = omega arith
factor_by-lt (suc (suc zero)) base h = omega arith
factor_by-lt (suc (suc (suc r))) base h = omega arith

pub record Base (i : ℕ) : Type 0 where
  pub is : 1 * 2 ^ (i / 4) % 2 ^ 64 ≡ 2 ^ (i / 4)
  pub small : 2 ^ (i / 4) ≤ 2 ^ 31

pub base_small : (i : ℕ) → i < 128 → Base i
base_small i h =
    let b : 2 ^ (i / 4) ≤ 2 ^ 31 = pow_mono {j = 31} (omega arith) in
    record { is = omega arith; small = b }

pub factor-low : (i : ℕ) → i < 128 → factor_by (i % 4) (2 ^ (i / 4)) ≡ quant_factor i
unfolding quant_factor factor
factor-low i h = sym (cap-same (factor_by-lt (i % 4) (2 ^ (i / 4)) (base_small i h).small))

-- what `table_at` and `factor_at` say of their results
pub is_factor : (i r : ℕ) → r ≡ quant_factor i → (r ≡ quant_factor i) × ((4 ≤ r) × (r < 2 ^ 63))
is_factor i r e = (e, (rw e (quant_factor-least i), rw e (quant_factor-lt i)))

-- ---- offsets
offset_by-lt : (i f : ℕ) → capped_offset_by i f < 2 ^ 63
offset_by-lt zero f = omega arith
offset_by-lt (suc zero) f = omega arith
offset_by-lt (suc (suc i)) f = omega (arith, cap-lt (f + 1))

pub quant_offset-lt : (i : ℕ) → quant_offset i < 2 ^ 63
unfolding quant_offset
quant_offset-lt i = offset_by-lt i (quant_factor i)

-- from index 2 on an offset is half of the capped factor plus one
pub quant_offset_half : (i : ℕ) → 2 ≤ i → quant_offset i ≡ cap (quant_factor i + 1) / 2
unfolding quant_offset
quant_offset_half zero h = absurd (omega arith)
quant_offset_half (suc zero) h = absurd (omega arith)
quant_offset_half (suc (suc i)) h = refl

-- the offset where the factor is not capped
pub offset-same : (i : ℕ) → quant_factor i < 2 ^ 63 - 1 → offset i ≡ quant_offset i
unfolding quant_offset offset
offset-same zero h = refl
offset-same (suc zero) h = refl
offset-same (suc (suc i)) h = rw (factor-same (suc (suc i)) h, cap-same {n = quant_factor (suc (suc i)) + 1} (omega arith))
