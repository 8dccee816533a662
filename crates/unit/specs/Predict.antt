-- Level-0 prediction: ST 2042-1, 13.4 and 5.6.4 (the mean).
use Rattle.std.specs.Prelude.{List, [], ◌∷◌, ℕ, zero, suc, ℤ, pos, ◌+ℤ◌}
use Rattle.std.specs.Int.Signed.{shr_z}
use Rattle.laws.specs.Rows.{at}
use Rattle.laws.specs.Plane.{Plane}
use Rattle.wavelet.specs.Planes.{of_rows}

-- the floor of (a + b + c + 1) / 3; `shr_z` divides and rounds down
abbrev pub mean : ℤ → ℤ → ℤ → ℤ
mean a b c = shr_z (a +ℤ b +ℤ c +ℤ pos 1) 3

-- the prediction of (y, x) from its neighbours in a plane: 0 at the corner, the neighbour on the first row or column
unfoldable pub predict : Plane → Plane
predict p zero zero = pos 0
predict p zero (suc x) = p zero x
predict p (suc y) zero = p y zero
predict p (suc y) (suc x) = mean (p (suc y) x) (p y x) (p y (suc x))

-- A plane whose values are made one after the other, row by row: g makes each from its place and its prediction.
module _ (g : ℕ → ℕ → ℤ → ℤ) where
  -- the first row from column x on, behind the value left
  unfoldable pub first_row : ℕ → ℤ → ℕ → List ℤ
  first_row x left zero = []
  first_row x left (suc n) = let v = g 0 x left in v ∷ first_row (suc x) v n

  -- a further row y from column x + 1 on, behind the value left and below the row above
  unfoldable pub rest_row : ℕ → List ℤ → ℕ → ℤ → ℕ → List ℤ
  rest_row y above x left zero = []
  rest_row y above x left (suc n) =
      let v = g y (suc x) (mean left (at above x) (at above (suc x))) in
      v ∷ rest_row y above (suc x) v n

  unfoldable pub next_row : ℕ → List ℤ → ℕ → List ℤ
  next_row y above zero = []
  next_row y above (suc w) = let v = g y 0 (at above 0) in v ∷ rest_row y above 0 v w

  -- n rows of w from row y on, below the row above
  unfoldable pub next_rows : ℕ → ℕ → List ℤ → ℕ → List (List ℤ)
  next_rows w y above zero = []
  next_rows w y above (suc n) = let r = next_row y above w in r ∷ next_rows w (suc y) r n

  unfoldable pub scan_rows : ℕ → ℕ → List (List ℤ)
  scan_rows zero w = []
  scan_rows (suc h) w = let r = first_row 0 (pos 0) w in r ∷ next_rows w 1 r h

  -- the plane of h rows of w
  unfoldable pub scan : ℕ → ℕ → Plane
  scan h w = let rs = scan_rows h w in of_rows rs
