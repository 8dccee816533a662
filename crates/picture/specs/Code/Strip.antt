-- The numbers of a slice as the code makes them from the work slice. A strip is what a slice has of one subband, of one
-- component or of the two colours together.
use Rattle.std.specs.Prelude.{◌≡◌, false, cond, Some, None, List, [], ◌∷◌, ◌++◌, ℕ, zero, suc, ◌+◌, ◌*◌, ◌-◌, ◌^◌, ◌≤◌, ◌<◌, ℤ, pos, nat_abs, ◌+ℤ◌, ◌-ℤ◌, length, set}
use Rattle.laws.specs.Rows.{at}
use Rattle.laws.specs.Plane.{Plane}
use Rattle.quantiser.specs.Quant.{quant_factor, quant_offset, forward_by, inverse_by}
use Rattle.unit.specs.Predict.{predict}
use Rattle.picture.specs.declared.slices.strip.Origin.{Origin}
use Rattle.picture.specs.declared.slices.strip.Strip.{Strip}

-- the numbers of l from base on as a plane w wide
abbrev pub plane_from : List ℤ → ℕ → ℕ → Plane
plane_from l base w y x = at l (base + (y * w + x))

-- a coefficient's prediction; 0 where the strip is not predicted
abbrev pub prediction_in : List ℤ → Strip → ℕ → ℕ → ℕ → ℤ
prediction_in l s base y x = cond s.predicted (predict (plane_from l base s.width) y x) (pos 0)

-- a coefficient less its prediction, with the coefficients from coefs on and the rebuilt plane from base on
abbrev pub residual_in : List ℤ → Strip → ℕ → ℕ → ℕ → ℕ → ℤ
residual_in l s coefs base y x = plane_from l coefs s.width y x -ℤ prediction_in l s base y x

-- the number of (y, x)
abbrev pub number_in : List ℤ → Strip → ℕ → ℕ → ℕ → ℕ → ℤ
number_in l s coefs base y x = forward_by s.factor (residual_in l s coefs base y x)

-- the second colour's number of a place, where there is one
abbrev pub second_number : List ℤ → Strip → ℕ → ℕ → List ℤ
second_number l s y x = elim s.second [ Some o ↦ number_in l s o.coefs o.rebuilt y x ∷ [] | None ↦ [] ]

-- the numbers of a place: one, or those of the two colours
unfoldable pub place_numbers : List ℤ → Strip → ℕ → ℕ → List ℤ
place_numbers l s y x = number_in l s s.coefs s.rebuilt y x ∷ second_number l s y x

-- n places of row y from column x on
unfoldable pub row_numbers : List ℤ → Strip → ℕ → ℕ → ℕ → List ℤ
row_numbers l s y x zero = []
row_numbers l s y x (suc n) = row_numbers l s y x n ++ place_numbers l s y (x + n)

-- n rows from row y on
unfoldable pub rows_numbers : List ℤ → Strip → ℕ → ℕ → List ℤ
rows_numbers l s y zero = []
rows_numbers l s y (suc n) = rows_numbers l s y n ++ row_numbers l s (y + n) s.left (s.right - s.left)

abbrev pub strip_numbers : List ℤ → Strip → List ℤ
strip_numbers l s = rows_numbers l s s.top (s.bottom - s.top)

-- ---- rebuilt values
-- the rebuilt value of (y, x) of the first component
abbrev pub value_in : List ℤ → Strip → ℕ → ℕ → ℤ
value_in l s y x =
    prediction_in l s s.rebuilt y x +ℤ inverse_by s.factor s.offset (number_in l s s.coefs s.rebuilt y x)

-- each value is stored before the next one is made
unfoldable pub rebuilt_row : List ℤ → Strip → ℕ → ℕ → ℕ → List ℤ
rebuilt_row l s y x zero = l
rebuilt_row l s y x (suc n) =
    let m = rebuilt_row l s y x n in
    set m (s.rebuilt + (y * s.width + (x + n))) (value_in m s y (x + n))

unfoldable pub rebuilt_rows : List ℤ → Strip → ℕ → ℕ → List ℤ
rebuilt_rows l s y zero = l
rebuilt_rows l s y (suc n) = rebuilt_row (rebuilt_rows l s y n) s (y + n) s.left (s.right - s.left)

abbrev pub rebuilt_strip : List ℤ → Strip → List ℤ
rebuilt_strip l s = rebuilt_rows l s s.top (s.bottom - s.top)

-- ---- conditions
-- the largest coefficient of a picture, and the largest rebuilt value
abbrev pub most : ℕ
most = 2 ^ 51 - 1

abbrev pub reach : ℕ
reach = 3 * most + 2

-- the first n numbers of l are there, and not large
pub record Readable (n : ℕ) (l : List ℤ) : Type 0 where
  pub bound : (k : ℕ) → k < n → nat_abs (at l k) ≤ reach
  pub long : n ≤ length l
  pub few : n < 2 ^ 30

-- what the number of a place asks
pub record Numbered (l : List ℤ) (s : Strip) (coefs base y x : ℕ) : Type 0 where
  pub coefficient : Readable (coefs + (y * s.width + x) + 1) l
  pub plane : Readable (base + (y * s.width + x) + 1) l
  pub column : x < s.width
  pub factor : (4 ≤ s.factor) × (s.factor < 2 ^ 63)

-- the work slice: rebuilt planes or packed runs in its first a numbers, coefficients up to n
pub record Small (a n : ℕ) (l : List ℤ) : Type 0 where
  pub bound : (k : ℕ) → k < n → nat_abs (at l k) ≤ reach
  pub coefficients : (k : ℕ) → a ≤ k → k < n → nat_abs (at l k) ≤ most
  pub long : n ≤ length l
  pub few : n < 2 ^ 30
  pub order : a ≤ n

-- a strip, with the factor and the offset of its index, whose rebuilt planes lie in the first a numbers, and whose
-- coefficients lie behind them up to n
pub record Within (a n : ℕ) (s : Strip) : Type 0 where
  pub rows : s.top ≤ s.bottom
  pub columns : s.left ≤ s.right
  pub wide : s.right ≤ s.width
  pub high : s.bottom ≤ s.height
  pub rebuilt : s.rebuilt + s.height * s.width ≤ a
  pub rebuilt2 : (o : Origin) → s.second ≡ Some o → o.rebuilt + s.height * s.width ≤ a
  pub behind : a ≤ s.coefs
  pub behind2 : (o : Origin) → s.second ≡ Some o → a ≤ o.coefs
  pub coefs : s.coefs + s.height * s.width ≤ n
  pub coefs2 : (o : Origin) → s.second ≡ Some o → o.coefs + s.height * s.width ≤ n
  pub factor : s.factor ≡ quant_factor s.index
  pub offset : s.offset ≡ quant_offset s.index
  pub index : s.index ≤ 255

-- a strip that is not predicted, in the work slice
pub record Plain (a n : ℕ) (l : List ℤ) (s : Strip) : Type 0 where
  pub small : Small a n l
  pub within : Within a n s
  pub plain : s.predicted ≡ false

-- there are bounds of the work slice of which P holds: where the front and where the coefficients end
pub record Bounds (P : ℕ → ℕ → Type 0) : Type 0 where
  pub front : ℕ
  pub end : ℕ
  pub holds : P front end

-- a strip lies in the work slice
abbrev pub Lies : List ℤ → Strip → Type 0
Lies l s = Bounds (λ a n. Small a n l × Within a n s)

-- a strip that is not predicted lies in the work slice
abbrev pub PlainLies : List ℤ → Strip → Type 0
PlainLies l s = Bounds (λ a n. Plain a n l s)

-- a place of a strip
pub record Inside (s : Strip) (y x : ℕ) : Type 0 where
  pub below : s.top ≤ y
  pub above : y < s.bottom
  pub right_of : s.left ≤ x
  pub left-of : x < s.right
