-- Numbers copied from one list to another: what the copies ask and leave.
use Rattle.std.specs.Prelude.{◌≡◌, ℕ, ◌+◌, ◌*◌, ◌/◌, ◌%◌, ◌^◌, ◌<◌, ◌≤◌, List, length, ℤ}
use Rattle.laws.specs.Wrap.{wrap}
use Rattle.laws.specs.Rows.{at, row}
use Rattle.laws.specs.Plane.{Plane, as_list}
use Rattle.wavelet.specs.Planes.{raise}
use Rattle.wavelet.specs.RowCall.{row_limit}

-- ---- what the functions ask and leave
-- len numbers of l from place `from` on, each `step` places behind the last, with b accuracy bits added
abbrev pub copied : ℕ → List ℤ → ℕ → ℕ → ℕ → List ℤ
copied b l from step len = row len (λ k. raise wrap b (at l (from + step * k)))

-- they are inside
pub record Copies (l : List ℤ) (len from step : ℕ) : Type 0 where
  pub inside : (k : ℕ) → k < len → from + step * k < length l

-- row n of a band
abbrev pub band_row : List ℤ → ℕ → ℕ → ℕ → ℕ → List ℤ
band_row l b from jump n = row b (λ x. at l (from + jump * n + 2 * x))

-- a rows of b: all that they are made of is inside
pub record BandIn (l : List ℤ) (a b from jump : ℕ) : Type 0 where
  pub starts : from + jump * a ≤ 2 ^ 62
  pub inside : (y x : ℕ) → y < a → x < b → from + jump * y + 2 * x < length l

-- every v-th row from i on, every other column from j on
abbrev pub part_v : ℕ → ℕ → ℕ → Plane → Plane
part_v v i j f y x = f (v * y + i) (2 * x + j)

-- band n of the plane in front, whose rows are w wide: L, H, or LL, HL, LH, HH
abbrev pub band_of : List ℤ → ℕ → ℕ → ℕ → ℕ → List ℤ
band_of l v a w n = as_list a (w / 2) (part_v v (n / 2) (n % 2) (λ y x. at l (y * w + x)))

pub record BandsIn (l : List ℤ) (to v a w : ℕ) : Type 0 where
  pub kind : (1 ≤ v) × (v ≤ 2)
  pub wide : w % 2 ≡ 0
  pub a-le : a ≤ row_limit
  pub w_le : w ≤ row_limit
  pub behind : v * a * w ≤ to
  pub fits : to + v * a * w ≤ length l
