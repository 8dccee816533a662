-- Low delay: document 01, "Slices and unit"; ST 2042-1, 13.5.3.
use Rattle.std.specs.Prelude.{Bool, true, false, List, [], ◌∷◌, ◌++◌, ℕ, zero, suc, ◌+◌, ◌*◌, ◌-◌, ◌/◌, max, leb, ℤ, pos, length}
use Rattle.codewords.specs.Bit.{Bits, lit, one_bits}
use Rattle.codewords.specs.CodeWord.{codes, zero_filled}
use Rattle.laws.specs.Plane.{Plane}
use Rattle.wavelet.specs.Planes.{Band}
use Rattle.unit.specs.declared.PictureKind.TheVariants.{LowDelay}
use Rattle.unit.specs.Limits.{last_index, lowest_index}
use Rattle.unit.specs.Three.{Three}
use Rattle.unit.specs.Sizes.{intlog2}
use Rattle.unit.specs.Slices.{Grid, slice_count}
use Rattle.unit.specs.Parameters.{Parameters, overhead}
use Rattle.unit.specs.Trim.{trimmed, bits_of, trimmed_cost, fit_prefix}
use Rattle.unit.specs.Elect.{elect}
use Rattle.unit.specs.Quantised.{numbers_ld, left_ld}
use Rattle.unit.specs.Plan.{SlicePlan}

-- 13.5.3.2: the bytes of slice k
unfoldable pub slice_bytes : ℕ → ℕ → ℕ → ℕ
slice_bytes n d k = suc k * n / d - k * n / d

-- 13.5.3.1: how many bits the luma length of a slice of n bytes has
abbrev pub length_bits : ℕ → ℕ
length_bits n = intlog2 (8 * n - 7)

-- how many bits of a slice of n bytes are left for numbers
abbrev pub room_of : ℕ → ℕ
room_of n = 8 * n - 7 - length_bits n

-- The numerator: the target less the overhead (17 bytes and the transform parameters), not below the slice count. It is
-- worked out twice, first with the target as the numerator in the parameters; t gives the parameters by their
-- numerator.
module _ (version target slices : ℕ) (t : ℕ → Parameters) where
  abbrev pub numerator_by : ℕ → ℕ
  numerator_by n = max (target - (overhead version (t n))) slices

  unfoldable pub numerator : ℕ
  numerator = numerator_by (numerator_by target)

-- 13.5.6.4: the colours alternate
unfoldable pub alternated : List ℤ → List ℤ → List ℤ
alternated [] vs = []
alternated (u ∷ us) [] = []
alternated (u ∷ us) (v ∷ vs) = u ∷ v ∷ alternated us vs

-- the first, third, .. number, and the second, fourth, ..: the two colours of an alternated run
unfoldable pub evens : List ℤ → List ℤ
evens [] = []
evens (x ∷ []) = x ∷ []
evens (x ∷ y ∷ s) = x ∷ evens s

unfoldable pub odds : List ℤ → List ℤ
odds [] = []
odds (x ∷ []) = []
odds (x ∷ y ∷ s) = y ∷ odds s

-- a slice of n bytes with these runs
unfoldable pub low_bits : ℕ → ℕ → List ℤ → List ℤ → Bits
low_bits n q ys cs =
    lit 7 q ++ (lit (length_bits n) (bits_of ys) ++ (codes ys ++ (codes cs ++ one_bits (room_of n - bits_of ys - bits_of cs))))

-- two runs: of luma, and of the colours together
pub record Runs : Type 0 where
  pub luma : List ℤ
  pub colour : List ℤ

-- the runs that are written: all but trailing zeros where that fits; else a cut: the longest luma run that fits, then
-- the longest colour run in the bits left
unfoldable pub kept_runs : ℕ → List ℤ → List ℤ → Runs
kept_runs room ys cs =
    elim (leb (trimmed_cost ys + trimmed_cost cs) room) [
      | true ↦ record { luma = trimmed ys; colour = trimmed cs }
      | false ↦ let l = fit_prefix (trimmed ys) room in record { luma = l; colour = fit_prefix (trimmed cs) (room - bits_of l) }
    ]

module _ (g : Grid) (m : List ℕ) (b : Three (List Band)) where
  -- the numbers of slice k at index q, where the slices before it have left the rebuilt planes r
  abbrev pub low_numbers : Three Plane → ℕ → ℕ → Three (List ℤ)
  low_numbers r k q = record {
    y = numbers_ld g m b.y r.y q k;
    c1 = numbers_ld g m b.c1 r.c1 q k;
    c2 = numbers_ld g m b.c2 r.c2 q k;
  }

  -- the rebuilt planes that slice k leaves at index q: they are made from the numbers before any cut
  abbrev pub low_left : Three Plane → ℕ → ℕ → Three Plane
  low_left r k q = record {
    y = left_ld g m b.y r.y q k;
    c1 = left_ld g m b.c1 r.c1 q k;
    c2 = left_ld g m b.c2 r.c2 q k;
  }

  -- whether slice k fits at index q: its numbers cost at most room bits
  abbrev pub low_fits : ℕ → Three Plane → ℕ → ℕ → Bool
  low_fits room r k q = let z = low_numbers r k q in leb (trimmed_cost z.y + trimmed_cost (alternated z.c1 z.c2)) room

  -- the index of slice k, of n bytes
  unfoldable pub low_index : ℕ → Three Plane → ℕ → ℕ
  low_index n r k = elect lowest_index (last_index LowDelay) (low_fits (room_of n) r k)

  -- a slice of n bytes with the numbers z at index q
  abbrev pub low_plan_of : ℕ → ℕ → Three (List ℤ) → SlicePlan
  low_plan_of n q z =
      let w = kept_runs (room_of n) z.y (alternated z.c1 z.c2) in
      let c = zero_filled (length z.c1 + length z.c2) w.colour in
      record {
        index = q;
        numbers = z;
        kept = record { y = zero_filled (length z.y) w.luma; c1 = evens c; c2 = odds c };
        bits = low_bits n q w.luma w.colour;
      }

  -- slice k of n bytes at index q
  unfoldable pub low_plan : ℕ → Three Plane → ℕ → ℕ → SlicePlan
  low_plan n r k q = low_plan_of n q (low_numbers r k q)

  -- j slices from slice k on; n is the numerator, and the slice count the denominator
  unfoldable pub low_slices : ℕ → Three Plane → ℕ → ℕ → List SlicePlan
  low_slices n r k zero = []
  low_slices n r k (suc j) =
      let z = slice_bytes n (slice_count g) k in
      let q = low_index z r k in
      low_plan z r k q ∷ low_slices n (low_left r k q) (suc k) j

abbrev pub zero_plane : Plane
zero_plane y x = pos 0

abbrev pub zero_planes : Three Plane
zero_planes = record { y = zero_plane; c1 = zero_plane; c2 = zero_plane }
