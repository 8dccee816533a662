-- Laws of padded sides: each is a multiple of its power of 2, not below the side and less than that power above it.
use Rattle.std.specs.Prelude.{◌≡◌, ℕ, suc, ◌+◌, ◌*◌, ◌-◌, ◌/◌, ◌%◌, ◌^◌, ◌≤◌, ◌<◌}
use Rattle.std.proofs.Common.{sym, ap, ◌∙◌, div-add-mod', mod-lt, mul-le-mul, mul-le-mul_right, suc-mul, div-lt_iff_lt-mul, arith, pow_pos, pow-add}
use Rattle.std.proofs.Math.Nat.{mul-mod_left}
use Rattle.laws.specs.Ceiling.{rounded_up}
use Rattle.wavelet.specs.Planes.{Padded}
use Rattle.wavelet.specs.Depth.{deepest}
use Rattle.wavelet.specs.Laws.Pad.{padded_sides}
use Rattle.unit.specs.Limits.{side_limit}
use Rattle.unit.specs.Sizes.{Size, area}
use Rattle.unit.specs.Subbands.{padded_size}
use Rattle.unit.proofs.Laws.Slice.{div_rises}
use Rattle.wavelet.specs.RowCall.{row_limit}

-- r is n rounded up to a multiple of m
pub record Rounded (m n r : ℕ) : Type 0 where
  pub enough : n ≤ r
  pub close : r < n + m
  pub whole : r % m ≡ 0

pub rounded : (m n : ℕ) → 0 < m → Rounded m n (rounded_up m n)
rounded m n p =
    let q = div-add-mod' (n + (m - 1)) m in
    let l = mod-lt (n + (m - 1)) p in
    record { enough = omega arith; close = omega arith; whole = mul-mod_left ((n + (m - 1)) / m) m }

pub rounded_mono : (m : ℕ) {a b : ℕ} → a ≤ b → rounded_up m a ≤ rounded_up m b
rounded_mono m {a} {b} h = let l : a + (m - 1) ≤ b + (m - 1) = omega arith in mul-le-mul_right m (div_rises m l)

-- a side of at most row_limit is padded to at most row_limit, which every power up to 2 ^ 16 divides
pub rounded_few : (j n : ℕ) → j ≤ 16 → n ≤ row_limit → rounded_up (2 ^ j) n ≤ row_limit
rounded_few j n h l =
    let m : ℕ = 2 ^ j in
    let q : ℕ = 2 ^ (16 - j) in
    let x : ℕ = n + (m - 1) in
    let g : 16 - j + j ≡ 16 = omega arith in
    let e : q * m ≡ row_limit = sym (pow-add 2 (16 - j) j) ∙ ap (λ (i : ℕ). 2 ^ i) g in
    let b : x / m < suc q = (div-lt_iff_lt-mul {k = m} {x = x} {y = suc q} (pow_pos j)).1 (omega (arith, e, suc-mul q m, pow_pos j)) in
    omega (arith, e, mul-le-mul_right {m = x / m} {n = q} m (omega arith))

-- ---- a component of size z, by horizontal-only depth k and depth d
pub padded-wide : (k d : ℕ) (z : Size) → Rounded (2 ^ (k + d)) z.width (padded_size k d z).width
unfolding padded_size
padded-wide k d z = rounded (2 ^ (k + d)) z.width (pow_pos (k + d))

pub padded-high : (k d : ℕ) (z : Size) → Rounded (2 ^ d) z.height (padded_size k d z).height
unfolding padded_size
padded-high k d z = rounded (2 ^ d) z.height (pow_pos d)

-- sides of at most side_limit are padded to at most row_limit
pub wide_few : (k d : ℕ) (z : Size) → k + d ≤ deepest → z.width ≤ side_limit → (padded_size k d z).width ≤ row_limit
unfolding padded_size
wide_few k d z h l = rounded_few (k + d) z.width (omega arith) (omega arith)

pub high_few : (k d : ℕ) (z : Size) → k + d ≤ deepest → z.height ≤ side_limit → (padded_size k d z).height ≤ row_limit
unfolding padded_size
high_few k d z h l = rounded_few d z.height (omega arith) (omega arith)

pub padded_is : (k d : ℕ) (z : Size) → Padded k d (padded_size k d z).height (padded_size k d z).width
unfolding padded_size
padded_is k d z = padded_sides k d z.width z.height

-- a smaller component has no larger padded area
pub padded_mono : (k d : ℕ) (c z : Size) → c.width ≤ z.width → c.height ≤ z.height → area (padded_size k d c) ≤ area (padded_size k d z)
unfolding padded_size
padded_mono k d c z w h = mul-le-mul (rounded_mono (2 ^ (k + d)) w) (rounded_mono (2 ^ d) h)
