-- What is known of a call that none of refusals 1 to 13 turns away: Valid, made of what each group of rules says.
use Rattle.std.specs.Prelude.{◌≡◌, Bool, true, false, List, [], ◌∷◌, ℕ, ◌+◌, ◌*◌, ◌≤◌, ℤ, length}
use Rattle.std.proofs.Math.Option.{Option, none, some}
use Rattle.wavelet.specs.RowCall.{row_limit}
use Rattle.unit.specs.declared.Settings.{Settings}
use Rattle.unit.specs.declared.PictureKind.{PictureKind}
use Rattle.unit.specs.declared.PictureKind.TheVariants.{LowDelay, HighQuality}
use Rattle.unit.specs.declared.RateControl.{RateControl}
use Rattle.unit.specs.declared.RateControl.TheVariants.{Lossless, FixedQuantIndex, PictureBytes}
use Rattle.unit.specs.Limits.{depth_limit, last_wavelet, side_limit, slice_limit, prefix_limit, last_index, target_limit, last_format, last_mode, value_limit, area_limit}
use Rattle.unit.specs.Three.{Three}
use Rattle.unit.specs.Sizes.{area, luma_size, colour_size, Size}
use Rattle.unit.specs.Subbands.{subband_count, padded_size, padded_area, work_needed}
use Rattle.unit.specs.Matrix.{default_of}

-- n is from 1 to most
pub record Between (most n : ℕ) : Type 0 where
  pub some : 1 ≤ n
  pub few : n ≤ most

abbrev pub RateFits : PictureKind → RateControl → Type 0
RateFits LowDelay Lossless = ⊥
RateFits LowDelay (FixedQuantIndex q) = ⊥
RateFits LowDelay (PictureBytes n) = n ≤ target_limit
RateFits HighQuality Lossless = Unit {0}
RateFits HighQuality (FixedQuantIndex q) = q ≤ last_index HighQuality
RateFits HighQuality (PictureBytes n) = n ≤ target_limit

abbrev pub AllMost : ℕ → List ℕ → Type 0
AllMost most [] = Unit {0}
AllMost most (v ∷ vs) = (v ≤ most) × AllMost most vs

abbrev pub MatrixFits : Settings → List ℕ → Bool → Option (List ℕ) → Type 0
MatrixFits s m true d = (length m ≡ subband_count s.dwt_depth_ho s.dwt_depth) × AllMost value_limit m
MatrixFits s m false none = ⊥
MatrixFits s m false (some vs) = Unit {0}

-- ---- by groups of rules
-- rules 1 to 4
pub record Shaped (s : Settings) : Type 0 where
  pub wavelet : s.wavelet_index ≤ last_wavelet
  pub wavelet-ho : s.wavelet_index_ho ≤ last_wavelet
  pub depths : s.dwt_depth + s.dwt_depth_ho ≤ depth_limit s.wavelet_index_ho s.wavelet_index
  pub across : Between side_limit s.slices_x
  pub down : Between side_limit s.slices_y
  pub slices : s.slices_x * s.slices_y ≤ slice_limit
  pub scaler : Between side_limit s.slice_size_scaler
  pub prefix : s.slice_prefix_bytes ≤ prefix_limit

-- rule 8
pub record Framed (s : Settings) : Type 0 where
  pub format : s.color_diff_format ≤ last_format
  pub mode : s.picture_coding_mode ≤ last_mode
  pub width : Between side_limit s.frame_width
  pub height : Between side_limit s.frame_height
  pub luma : Between side_limit s.luma_excursion
  pub colour : Between side_limit s.color_diff_excursion
  pub luma-some : 1 ≤ area (luma_size s)
  pub colour-some : 1 ≤ area (colour_size s)

-- rules 12 and 13
pub record Lent (s : Settings) (p : Three (List ℕ)) (work : List ℤ) : Type 0 where
  pub long_y : length p.y ≡ area (luma_size s)
  pub long_c1 : length p.c1 ≡ area (colour_size s)
  pub long_c2 : length p.c2 ≡ area (colour_size s)
  pub work_room : work_needed s ≤ length work

-- all of it
pub record Valid (s : Settings) (m : List ℕ) (p : Three (List ℕ)) (work : List ℤ) : Type 0 where
  pub shape : Shaped s
  pub rate : RateFits s.kind s.rate
  pub frame : Framed s
  pub matrix : MatrixFits s m s.custom_matrix (default_of s)
  pub padded : padded_area s (luma_size s) ≤ area_limit
  pub lent : Lent s p work

-- ---- sizes
-- a component's size z, and its padded size
pub record Sized (s : Settings) (z : Size) : Type 0 where
  pub width : Between side_limit z.width
  pub height : Between side_limit z.height
  pub padded_width : Between row_limit (padded_size s.dwt_depth_ho s.dwt_depth z).width
  pub padded_height : Between row_limit (padded_size s.dwt_depth_ho s.dwt_depth z).height
  pub padded-area : Between area_limit (padded_area s z)
