-- High quality: document 01, "Slices and unit"; ST 2042-1, 13.5.4.
use Rattle.std.specs.Prelude.{Bool, true, false, cond, List, [], ◌∷◌, ◌++◌, ℕ, zero, suc, ◌+◌, ◌*◌, ◌-◌, ◌/◌, ◌%◌, max, leb, ltb, ℤ}
use Rattle.laws.specs.Ceiling.{ceiling, rounded_up}
use Rattle.codewords.specs.Bit.{Bits, lit, one_bits, zero_bits}
use Rattle.codewords.specs.CodeWord.{codes}
use Rattle.laws.specs.Rows.{span}
use Rattle.wavelet.specs.Planes.{Band}
use Rattle.unit.specs.declared.PictureKind.TheVariants.{HighQuality}
use Rattle.unit.specs.declared.RateControl.{RateControl}
use Rattle.unit.specs.declared.RateControl.TheVariants.{Lossless, FixedQuantIndex, PictureBytes}
use Rattle.unit.specs.Limits.{last_index, lowest_index}
use Rattle.unit.specs.Three.{Three}
use Rattle.unit.specs.Slices.{Grid, slice_count}
use Rattle.unit.specs.Trim.{trimmed, trimmed_cost}
use Rattle.unit.specs.Elect.{elect}
use Rattle.unit.specs.Quantised.{numbers_hq}
use Rattle.unit.specs.Plan.{SlicePlan}

-- the bytes that a component needs
abbrev pub need_of : List ℤ → ℕ
need_of xs = ceiling (trimmed_cost xs) 8

-- the scalers c that a component needs
abbrev pub scalers_of : ℕ → List ℤ → ℕ
scalers_of c xs = ceiling (need_of xs) c

-- a byte that counts scalers, the numbers without trailing zeros, and ones
unfoldable pub component_bits : ℕ → List ℤ → Bits
component_bits c xs = lit 8 (scalers_of c xs) ++ (codes (trimmed xs) ++ one_bits (8 * (scalers_of c xs * c) - trimmed_cost xs))

-- p prefix bytes, which are zeros, the index and the components
unfoldable pub high_bits : ℕ → ℕ → ℕ → Three (List ℤ) → Bits
high_bits p c q z = zero_bits (8 * p) ++ (lit 8 q ++ (component_bits c z.y ++ (component_bits c z.c1 ++ component_bits c z.c2)))

-- a slice's size by the bytes y, c1 and c2 that its components need: 4, prefix, and each of them rounded up to whole
-- scalers
abbrev pub slice_size_by : ℕ → ℕ → ℕ → ℕ → ℕ → ℕ
slice_size_by p c y c1 c2 = 4 + p + (rounded_up c y + rounded_up c c1 + rounded_up c c2)

unfoldable pub slice_size : ℕ → ℕ → Three (List ℤ) → ℕ
slice_size p c z = slice_size_by p c (need_of z.y) (need_of z.c1) (need_of z.c2)

-- document 01's share: that of slice k in n bytes among d slices; the earlier ones are larger by at most one
unfoldable pub share_of : ℕ → ℕ → ℕ → ℕ
share_of n d k = n / d + cond (ltb k (n % d)) 1 0

-- ---- a slice whose numbers at index q are z q, with p prefix bytes and scaler c
-- whether it fits its share
abbrev pub fits_by : ℕ → ℕ → ℕ → (ℕ → Three (List ℤ)) → ℕ → Bool
fits_by p c share z q = leb (slice_size p c (z q)) share

-- its index by the rate: lossless is index 0, and an election begins at lo
unfoldable pub index_by : ℕ → RateControl → ℕ → ℕ → ℕ → (ℕ → Three (List ℤ)) → ℕ
index_by lo Lossless p c share z = 0
index_by lo (FixedQuantIndex q) p c share z = q
index_by lo (PictureBytes t) p c share z = elect lo (last_index HighQuality) (fits_by p c share z)

-- its plan at index q, where z are its numbers: it drops no number
abbrev pub high_plan_of : ℕ → ℕ → ℕ → Three (List ℤ) → SlicePlan
high_plan_of p c q z = record { index = q; numbers = z; kept = z; bits = high_bits p c q z }

module _ (g : Grid) (m : List ℕ) (b : Three (List Band)) (p : ℕ) where
  -- the quantised numbers of slice k at index q
  unfoldable pub high_numbers : ℕ → ℕ → Three (List ℤ)
  high_numbers k q = record {
    y = numbers_hq g m b.y q k;
    c1 = numbers_hq g m b.c1 q k;
    c2 = numbers_hq g m b.c2 q k;
  }

  -- the index of slice k with scaler c and n bytes for all slices
  unfoldable pub high_index : RateControl → ℕ → ℕ → ℕ → ℕ
  high_index r c n k = index_by lowest_index r p c (share_of n (slice_count g) k) (high_numbers k)

  -- slice k at index q with scaler c
  unfoldable pub high_plan : ℕ → ℕ → ℕ → SlicePlan
  high_plan c k q = high_plan_of p c q (high_numbers k q)

  -- all slices, with scaler c and n bytes for them
  abbrev pub high_slices : RateControl → ℕ → ℕ → List SlicePlan
  high_slices r c n = span (λ k. high_plan c k (high_index r c n k)) 0 (slice_count g)

-- the largest need of a component
unfoldable pub largest_need : List SlicePlan → ℕ
largest_need [] = 0
largest_need (s ∷ ss) = max (max (need_of s.numbers.y) (max (need_of s.numbers.c1) (need_of s.numbers.c2))) (largest_need ss)

-- While a component needs more than 255 scalers the scaler becomes the largest need over 255, rounded up; slices gives
-- the slices by their scaler, f bounds the turns.
unfoldable pub scaler_from : (ℕ → List SlicePlan) → ℕ → ℕ → ℕ
scaler_from slices zero c = c
scaler_from slices (suc f) c =
    let n = largest_need (slices c) in
    elim (leb n (255 * c)) [ true ↦ c | false ↦ scaler_from slices f (ceiling n 255) ]
