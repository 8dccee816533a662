-- Padded sides and areas, and the sides of the subbands: ST 2042-1, 13.2.1 and 13.2.3, by horizontal-only depth k and
-- depth d.
use Rattle.std.specs.Prelude.{cond, List, [], ◌∷◌, ◌++◌, ℕ, zero, suc, ◌+◌, ◌*◌, ◌-◌, ◌/◌, ◌^◌, eqb, leb}
use Rattle.laws.specs.Rows.{span}
use Rattle.wavelet.specs.Pad.{padded_side}
use Rattle.unit.specs.declared.Settings.{Settings}
use Rattle.unit.specs.Sizes.{Size, area, luma_size, colour_size}

-- a component's padded size
unfoldable pub padded_size : ℕ → ℕ → Size → Size
padded_size k d z = record { width = padded_side (k + d) z.width; height = padded_side d z.height }

-- the size of the subbands of a level, of a component padded to size p: subband_width and subband_height
abbrev pub level_size : ℕ → ℕ → Size → ℕ → Size
level_size k d p level = record {
  width = cond (eqb level 0) (p.width / 2 ^ (k + d)) (p.width / 2 ^ (k + d - level + 1));
  height = cond (leb level k) (p.height / 2 ^ d) (p.height / 2 ^ (k + d - level + 1));
}

-- the size of the subbands of a level, of a component of size z
unfoldable pub subband_size : ℕ → ℕ → Size → ℕ → Size
subband_size k d z level = level_size k d (padded_size k d z) level

-- f n, three times, then f (n + 1) ..: m of them
abbrev pub triples : {A : Type 0} → (ℕ → A) → ℕ → ℕ → List A
triples f n zero = []
triples f n (suc m) = f n ∷ f n ∷ f n ∷ triples f (suc n) m

-- the subbands' sizes in the stream's order: level 0 (LL or L), the horizontal-only levels (H), and at each further
-- level HL, LH, HH
unfoldable pub subband_sizes : ℕ → ℕ → Size → List Size
subband_sizes k d z = let f = subband_size k d z in f 0 ∷ (span f 1 k ++ triples f (suc k) d)

-- how many subbands there are
abbrev pub subband_count : ℕ → ℕ → ℕ
subband_count k d = 1 + k + 3 * d

-- the area of a component's padded plane
abbrev pub padded_area : Settings → Size → ℕ
padded_area s z = area (padded_size s.dwt_depth_ho s.dwt_depth z)

-- how many numbers the work slice must have: three times the sum of the padded areas
unfoldable pub work_needed : Settings → ℕ
work_needed s = 3 * (padded_area s (luma_size s) + padded_area s (colour_size s) + padded_area s (colour_size s))
