-- The quantised numbers of a slice: document 01, "Slices and unit" and "How demand 3 reads a unit".
use Rattle.std.specs.Prelude.{Bool, true, false, ◌&&◌, List, [], ◌∷◌, ◌++◌, ℕ, suc, leb, ltb, ℤ, ◌+ℤ◌, ◌-ℤ◌, get_or}
use Rattle.laws.specs.Plane.{Plane}
use Rattle.quantiser.specs.Quant.{forward_quant, inverse_quant, band_index}
use Rattle.wavelet.specs.Planes.{Band}
use Rattle.unit.specs.Sizes.{Size}
use Rattle.unit.specs.Slices.{Grid, top, bottom, left, right, part}
use Rattle.unit.specs.Predict.{predict, scan}

abbrev pub size_of : Band → Size
size_of b = record { width = b.wide; height = b.high }

-- m are the matrix values, q the slice's index, k its number
module _ (g : Grid) (m : List ℕ) where
  -- the numbers of the bands from the n-th on, each band's part row by row
  unfoldable pub numbers_from : ℕ → List Band → ℕ → ℕ → List ℤ
  numbers_from n [] q k = []
  numbers_from n (b ∷ bs) q k =
      part g (size_of b) k (λ y x. forward_quant (b.plane y x) (band_index q (get_or m n 0))) ++ numbers_from (suc n) bs q k

  -- high quality: all bands alike
  abbrev pub numbers_hq : List Band → ℕ → ℕ → List ℤ
  numbers_hq bs q k = numbers_from 0 bs q k

-- whether (y, x) is in slice k's part of a band
abbrev pub inside : Grid → Size → ℕ → ℕ → ℕ → Bool
inside g z k y x = leb (top g z k) y && (ltb y (bottom g z k) && (leb (left g z k) x && ltb x (right g z k)))

-- low delay, level 0, at index i of the band: a number is quantised against its prediction from rebuilt neighbours
abbrev pub number_at : ℕ → ℤ → ℤ → ℤ
number_at i c p = forward_quant (c -ℤ p) i

abbrev pub rebuilt_at : ℕ → ℤ → ℤ → ℤ
rebuilt_at i c p = p +ℤ inverse_quant (number_at i c p) i

-- the rebuilt plane r with slice k's part rebuilt at index i: what stood there is not looked at
unfoldable pub rebuilt : Grid → Band → ℕ → ℕ → Plane → Plane
rebuilt g b i k r =
    scan (λ y x p. elim (inside g (size_of b) k y x) [ true ↦ rebuilt_at i (b.plane y x) p | false ↦ r y x ]) b.high b.wide

-- a slice's numbers of a component at index q, where the slices before it have left the rebuilt plane r
unfoldable pub numbers_ld : Grid → List ℕ → List Band → Plane → ℕ → ℕ → List ℤ
numbers_ld g m [] r q k = []
numbers_ld g m (b ∷ bs) r q k =
    let i = band_index q (get_or m 0 0) in
    let n = rebuilt g b i k r in
    part g (size_of b) k (λ y x. number_at i (b.plane y x) (predict n y x)) ++ numbers_from g m 1 bs q k

-- the rebuilt plane that the slice leaves
unfoldable pub left_ld : Grid → List ℕ → List Band → Plane → ℕ → ℕ → Plane
left_ld g m [] r q k = r
left_ld g m (b ∷ bs) r q k = rebuilt g b (band_index q (get_or m 0 0)) k r
