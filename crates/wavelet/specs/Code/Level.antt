-- One level on a list with scratch in front: what it asks, and the bands that it leaves.
use Rattle.std.specs.Prelude.{◌≡◌, ℕ, ◌+◌, ◌*◌, ◌/◌, ◌%◌, ◌≤◌, List, ◌++◌, length, drop, ℤ}
use Rattle.laws.specs.Code.Window.{piece, put}
use Rattle.laws.specs.Plane.{Plane, as_plane, as_list}
use Rattle.wavelet.specs.Planes.{part, part_h}
use Rattle.wavelet.specs.declared.plane.Spot.{Spot}
use Rattle.wavelet.specs.RowCall.{row_limit}

-- ---- what the functions ask and leave
-- a plane of h rows of w at from, with room for it in front
pub record RowsIn (l : List ℤ) (from h w : ℕ) : Type 0 where
  pub room : h * w ≤ from
  pub fits : from + h * w ≤ length l
  pub short : w ≤ row_limit

-- n places of scratch in front, and m places off behind them
pub record Place (n off m : ℕ) (l : List ℤ) : Type 0 where
  pub room : m ≤ n
  pub fits : n + off + m ≤ length l

-- sides for a horizontal-only level, and for one both ways
pub record EvenWidth (h w : ℕ) : Type 0 where
  pub wide : w % 2 ≡ 0
  pub h_le : h ≤ row_limit
  pub w_le : w ≤ row_limit

pub record EvenSides (h w : ℕ) : Type 0 where
  pub high : h % 2 ≡ 0
  pub wide : w % 2 ≡ 0
  pub h_le : h ≤ row_limit
  pub w_le : w ≤ row_limit

-- the bands of a plane one after the other: L, H; LL, HL, LH, HH
abbrev pub halves : ℕ → ℕ → Plane → List ℤ
halves h w g = as_list h (w / 2) (part_h 0 g) ++ as_list h (w / 2) (part_h 1 g)

abbrev pub quarters : ℕ → ℕ → Plane → List ℤ
quarters h w g = as_list (h / 2) (w / 2) (part 0 0 g) ++ (as_list (h / 2) (w / 2) (part 0 1 g) ++ (as_list (h / 2) (w / 2) (part 1 0 g) ++ as_list (h / 2) (w / 2) (part 1 1 g)))

-- ---- the plane at s
-- it stands there, with the scratch in front
abbrev pub Stands : Spot → List ℤ → Type 0
Stands s l = Place s.n s.off (s.h * s.w) l

-- the plane
abbrev pub plane_at : Spot → List ℤ → Plane
plane_at s l = as_plane s.w (piece s.off (s.h * s.w) (drop s.n l))

-- what lies behind the scratch, with the numbers b in the plane's place
abbrev pub put_at : Spot → List ℤ → List ℤ → List ℤ
put_at s b l = put s.off (s.h * s.w) b (drop s.n l)
