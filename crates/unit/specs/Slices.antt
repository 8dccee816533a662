-- The slices of a subband: ST 2042-1, 13.5.6.2. Slice bounds are floors of side times position over slices.
use Rattle.std.specs.Prelude.{List, ℕ, suc, ◌+◌, ◌*◌, ◌-◌, ◌/◌, ◌%◌, ℤ}
use Rattle.laws.specs.Rows.{span}
use Rattle.laws.specs.Plane.{Plane}
use Rattle.unit.specs.Sizes.{Size}

-- where part i of a side w cut into n parts begins
abbrev pub bound : ℕ → ℕ → ℕ → ℕ
bound n w i = w * i / n

-- rows t to b and columns l to r of a plane, row by row
unfoldable pub region : Plane → ℕ → ℕ → ℕ → ℕ → List ℤ
region f t b l r = let c = r - l in span (λ k. f (t + k / c) (l + k % c)) 0 ((b - t) * c)

-- the slices down and across; they are numbered row by row
pub record Grid : Type 0 where
  pub down : ℕ
  pub across : ℕ

-- how many slices there are
abbrev pub slice_count : Grid → ℕ
slice_count g = g.down * g.across

module _ (g : Grid) (z : Size) (k : ℕ) where
  -- the window of slice k in a subband of size z
  abbrev pub top : ℕ
  top = bound g.down z.height (k / g.across)

  abbrev pub bottom : ℕ
  bottom = bound g.down z.height (suc (k / g.across))

  abbrev pub left : ℕ
  left = bound g.across z.width (k % g.across)

  abbrev pub right : ℕ
  right = bound g.across z.width (suc (k % g.across))

  -- how many numbers slice k has of the subband
  abbrev pub part_size : ℕ
  part_size = (bottom - top) * (right - left)

  -- slice k's part of a plane, row by row
  abbrev pub part : Plane → List ℤ
  part f = region f top bottom left right

-- ---- the slice that has a place
-- the part of a side w cut into n parts that x is in
unfoldable pub part_of : ℕ → ℕ → ℕ → ℕ
part_of n w x = (suc x * n - 1) / w

-- the number of the slice that has (y, x) of a subband of size z
abbrev pub slice_of : Grid → Size → ℕ → ℕ → ℕ
slice_of g z y x = part_of g.down z.height y * g.across + part_of g.across z.width x

-- where (y, x) stands in its slice's part
abbrev pub place_in : Grid → Size → ℕ → ℕ → ℕ
place_in g z y x = let k = slice_of g z y x in (y - top g z k) * (right g z k - left g z k) + (x - left g z k)
