-- Analysis and synthesis of planes: document 01, "Coefficients", and ST 2042-1, 15.4.1 to 15.4.3. Rows by filter i,
-- columns by filter j; k is the horizontal-only depth and d the depth.
use Rattle.std.specs.Prelude.{◌≡◌, ℕ, zero, suc, ◌+◌, ◌*◌, ◌/◌, ◌%◌, ◌^◌, cond, List, [], ◌∷◌, ◌++◌, ℤ, pos, ◌+ℤ◌, ◌*ℤ◌, ◌==◌, slice_index_or}
use Rattle.std.specs.Int.Signed.{shr_z}
use Rattle.laws.specs.Rows.{at, span, row}
use Rattle.laws.specs.Plane.{Plane, turned, as_list}
use Rattle.wavelet.specs.Lifting.{exact}
use Rattle.wavelet.specs.Filters.{filter_of, analysis_by, synthesis_by}

-- a band of high rows of wide numbers
pub record Band : Type 0 where
  pub high : ℕ
  pub wide : ℕ
  pub plane : Plane

-- the bands' numbers, one band after the other, each row by row
abbrev pub coefficients : List Band → List ℤ
coefficients [] = []
coefficients (b ∷ bs) = as_list b.high b.wide b.plane ++ coefficients bs

-- ---- rows and columns
abbrev pub of_rows : List (List ℤ) → Plane
of_rows ls y x = at (slice_index_or ls y []) x

-- A on each of h rows of w, and on each of w columns of h; the results are kept as lists, so that each is computed once
unfoldable pub rows_by : (List ℤ → List ℤ) → ℕ → ℕ → Plane → Plane
rows_by A h w f = let ls = span (λ y. A (row w (f y))) 0 h in of_rows ls

abbrev pub columns_by : (List ℤ → List ℤ) → ℕ → ℕ → Plane → Plane
columns_by A h w f = turned (rows_by A w h (turned f))

-- ---- analysis
-- a number with b accuracy bits added: doubled b times
abbrev pub raise : (ℤ → ℤ) → ℕ → ℤ → ℤ
raise wr zero z = z
raise wr (suc b) z = wr (pos 2 *ℤ raise wr b z)

-- every other column from j on; every other row from i on and every other column from j on
abbrev pub part_h : ℕ → Plane → Plane
part_h j f y x = f y (2 * x + j)

abbrev pub part : ℕ → ℕ → Plane → Plane
part i j f y x = f (2 * y + i) (2 * x + j)

module _ (wr : ℤ → ℤ) (i : ℕ) where
  -- the rows, with the horizontal filter's shift
  abbrev pub h_pass : ℕ → ℕ → Plane → Plane
  h_pass h w f = rows_by (analysis_by wr i) h w (λ y x. raise wr (filter_of i).bits (f y x))

  -- k horizontal-only levels: L, H, H, ..
  unfoldable pub dwt_h : ℕ → ℕ → ℕ → Plane → List Band
  dwt_h zero h w f = record { high = h; wide = w; plane = f } ∷ []
  dwt_h (suc k) h w f =
      let g = h_pass h w f in
      dwt_h k h (w / 2) (part_h 0 g) ++ (record { high = h; wide = w / 2; plane = part_h 1 g } ∷ [])

module _ (wr : ℤ → ℤ) (i j : ℕ) where
  -- rows first, with that shift alone, and then the columns
  abbrev pub vh_pass : ℕ → ℕ → Plane → Plane
  vh_pass h w f = columns_by (analysis_by wr j) h w (h_pass wr i h w f)

  -- d levels both ways, and then k horizontal-only ones: the bands in the stream's order, level by level LL or L, H ..,
  -- then HL, LH, HH
  unfoldable pub dwt : ℕ → ℕ → ℕ → ℕ → Plane → List Band
  dwt k zero h w f = dwt_h wr i k h w f
  dwt k (suc d) h w f =
      let g = vh_pass h w f in
      dwt k d (h / 2) (w / 2) (part 0 0 g)
      ++ (record { high = h / 2; wide = w / 2; plane = part 0 1 g }
      ∷ record { high = h / 2; wide = w / 2; plane = part 1 0 g }
      ∷ record { high = h / 2; wide = w / 2; plane = part 1 1 g } ∷ [])

-- ---- the standard's synthesis, on ℤ without wrap
-- a number with b accuracy bits removed: the rounding shift of 15.4.2 and 15.4.3
abbrev pub lower : ℕ → ℤ → ℤ
lower b z = shr_z (z +ℤ pos (2 ^ b / 2)) (2 ^ b)

-- even places from one, odd ones from the other
abbrev pub by_parity : ℕ → ℤ → ℤ → ℤ
by_parity n x y = cond (n % 2 == 0) x y

-- the interleaved plane of two bands, and of four
abbrev pub interleave_h : Plane → Plane → Plane
interleave_h l h y x = by_parity x (l y (x / 2)) (h y (x / 2))

abbrev pub interleave : Plane → Plane → Plane → Plane → Plane
interleave ll hl lh hh y x = by_parity y (interleave_h ll hl (y / 2) x) (interleave_h lh hh (y / 2) x)

-- level 0 is band 0; H of level n is band n; HL, LH and HH of level k + 1 + n are the bands from 1 + k + 3 n on
abbrev pub band_at : List Band → ℕ → Band
band_at bs n = slice_index_or bs n (record { high = 0; wide = 0; plane = λ y x. pos 0 })

module _ (i : ℕ) where
  -- 15.4.2, h_synthesis
  abbrev pub h_synthesis : Plane → Band → Plane
  h_synthesis l h =
      let g = rows_by (synthesis_by exact i) h.high (2 * h.wide) (interleave_h l h.plane) in
      λ y x. lower (filter_of i).bits (g y x)

  -- 15.4.1, idwt: the first n horizontal-only levels of the bands bs
  unfoldable pub idwt_h : List Band → ℕ → Plane
  idwt_h bs zero = (band_at bs 0).plane
  idwt_h bs (suc n) = h_synthesis (idwt_h bs n) (band_at bs (1 + n))

module _ (i j : ℕ) where
  -- 15.4.3, vh_synthesis: columns, then rows; the horizontal filter's shift
  abbrev pub vh_synthesis : Plane → Band → Band → Band → Plane
  vh_synthesis ll hl lh hh =
      let h = 2 * hl.high in
      let w = 2 * hl.wide in
      let g = rows_by (synthesis_by exact i) h w (columns_by (synthesis_by exact j) h w (interleave ll hl.plane lh.plane hh.plane)) in
      λ y x. lower (filter_of i).bits (g y x)

  -- 15.4.1: the k horizontal-only levels, and then n both ways
  unfoldable pub idwt : List Band → ℕ → ℕ → Plane
  idwt bs k zero = idwt_h i bs k
  idwt bs k (suc n) = let m = 1 + k + 3 * n in vh_synthesis (idwt bs k n) (band_at bs m) (band_at bs (1 + m)) (band_at bs (2 + m))

-- ---- padded sides
-- sides that are multiples of 2 to the power of their depths, ST 2042-1, 13.2.3
pub record Padded (k d h w : ℕ) : Type 0 where
  pub high : h % 2 ^ d ≡ 0
  pub wide : w % 2 ^ (k + d) ≡ 0
