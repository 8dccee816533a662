-- Refusals 1 to 13 in checking order: document 01, "Answers that turn a call away"; document 02, (iii).
use Rattle.std.specs.Prelude.{Bool, true, false, not, ◌&&◌, ◌||◌, List, [], ◌∷◌, ◌++◌, ℕ, ◌*◌, eqb, ltb, ℤ, length}
use Rattle.std.proofs.Math.Option.{Option, none, some}
use Rattle.wavelet.specs.Depth.{too_deep}
use Rattle.unit.specs.declared.Settings.{Settings}
use Rattle.unit.specs.declared.PictureKind.{PictureKind}
use Rattle.unit.specs.declared.PictureKind.TheVariants.{LowDelay, HighQuality}
use Rattle.unit.specs.declared.RateControl.{RateControl}
use Rattle.unit.specs.declared.RateControl.TheVariants.{Lossless, FixedQuantIndex, PictureBytes}
use Rattle.unit.specs.Limits.{last_wavelet, side_limit, slice_limit, prefix_limit, last_index, target_limit, last_format, last_mode, value_limit, area_limit}
use Rattle.unit.specs.Three.{Three}
use Rattle.unit.specs.Sizes.{area, luma_size, colour_size}
use Rattle.unit.specs.Subbands.{subband_count, padded_area, work_needed}
use Rattle.unit.specs.Matrix.{default_of}
use Rattle.unit.specs.Rules.{Rule, rule, first}

-- whether n is not from 1 to most
abbrev pub outside : ℕ → ℕ → Bool
outside most n = eqb n 0 || ltb most n

-- whether a value is above most
abbrev pub any_above : ℕ → List ℕ → Bool
any_above most [] = false
any_above most (v ∷ vs) = ltb most v || any_above most vs

abbrev pub is_none : {A : Type 0} → Option A → Bool
is_none none = true
is_none (some x) = false

-- ---- what breaks each rule
-- 1: a wavelet index
abbrev pub bad_wavelets : Settings → Bool
bad_wavelets s = ltb last_wavelet s.wavelet_index || ltb last_wavelet s.wavelet_index_ho

-- 2: the depths
abbrev pub bad_depths : Settings → Bool
bad_depths s = too_deep s.wavelet_index s.wavelet_index_ho s.dwt_depth s.dwt_depth_ho

-- 3: slices across, down, and all of them
abbrev pub bad_slices : Settings → Bool
bad_slices s = outside side_limit s.slices_x || (outside side_limit s.slices_y || ltb slice_limit (s.slices_x * s.slices_y))

-- 4: scaler and prefix bytes
abbrev pub bad_sizes : Settings → Bool
bad_sizes s = outside side_limit s.slice_size_scaler || ltb prefix_limit s.slice_prefix_bytes

-- 5: low delay without a picture's bytes
abbrev pub no_target : PictureKind → RateControl → Bool
no_target HighQuality r = false
no_target LowDelay Lossless = true
no_target LowDelay (FixedQuantIndex i) = true
no_target LowDelay (PictureBytes n) = false

-- 6: the fixed index
abbrev pub bad_index : RateControl → Bool
bad_index Lossless = false
bad_index (FixedQuantIndex i) = ltb (last_index HighQuality) i
bad_index (PictureBytes n) = false

-- 7: the picture's bytes
abbrev pub bad_target : RateControl → Bool
bad_target Lossless = false
bad_target (FixedQuantIndex i) = false
bad_target (PictureBytes n) = ltb target_limit n

-- 8: format, mode, frame, excursions, or a component without samples
abbrev pub bad_frame : Settings → Bool
bad_frame s =
    ltb last_format s.color_diff_format || (ltb last_mode s.picture_coding_mode
    || (outside side_limit s.frame_width || (outside side_limit s.frame_height
    || (outside side_limit s.luma_excursion || (outside side_limit s.color_diff_excursion
    || (eqb (area (luma_size s)) 0 || eqb (area (colour_size s)) 0))))))

-- 9: a custom matrix of another count, or with a value that is too large
abbrev pub bad_matrix : Settings → List ℕ → Bool
bad_matrix s m =
    s.custom_matrix && (not (eqb (length m) (subband_count s.dwt_depth_ho s.dwt_depth)) || any_above value_limit m)

-- 10: the default matrix is asked for, and Annex D has none
abbrev pub no_matrix : Settings → Bool
no_matrix s = not s.custom_matrix && is_none (default_of s)

-- 11: luma's padded area
abbrev pub bad_area : Settings → Bool
bad_area s = ltb area_limit (padded_area s (luma_size s))

-- 12: a plane of another length
abbrev pub bad_planes : Settings → Three (List ℕ) → Bool
bad_planes s p =
    not (eqb (length p.y) (area (luma_size s)))
    || (not (eqb (length p.c1) (area (colour_size s))) || not (eqb (length p.c2) (area (colour_size s))))

-- 13: the work slice
abbrev pub short_work : Settings → List ℤ → Bool
short_work s work = ltb (length work) (work_needed s)

-- ---- the rules, in checking order
-- wavelets, depths and slices
abbrev pub shape_rules : Settings → List Rule
shape_rules s = rule 1 (bad_wavelets s) ∷ rule 2 (bad_depths s) ∷ rule 3 (bad_slices s) ∷ rule 4 (bad_sizes s) ∷ []

-- kind and rate
abbrev pub rate_rules : PictureKind → RateControl → List Rule
rate_rules k r = rule 5 (no_target k r) ∷ rule 6 (bad_index r) ∷ rule 7 (bad_target r) ∷ []

-- the frame and its samples
abbrev pub frame_rules : Settings → List Rule
frame_rules s = rule 8 (bad_frame s) ∷ []

-- the matrix, lent or of Annex D
abbrev pub matrix_rules : Settings → List ℕ → List Rule
matrix_rules s m = rule 9 (bad_matrix s m) ∷ rule 10 (no_matrix s) ∷ []

-- the padded area, and what is lent: the planes and the work slice
abbrev pub memory_rules : Settings → Three (List ℕ) → List ℤ → List Rule
memory_rules s p work = rule 11 (bad_area s) ∷ rule 12 (bad_planes s p) ∷ rule 13 (short_work s work) ∷ []

abbrev pub rules : Settings → List ℕ → Three (List ℕ) → List ℤ → List Rule
rules s m p work = shape_rules s ++ (rate_rules s.kind s.rate ++ (frame_rules s ++ (matrix_rules s m ++ memory_rules s p work)))

-- the number of the first of them that is broken; 0 where none is
unfoldable pub refusal_of : Settings → List ℕ → Three (List ℕ) → List ℤ → ℕ
refusal_of s m p work = first (rules s m p work)
