-- Document 01's table of marked examples, proved together.
use Rattle.std.specs.Prelude.{◌≡◌, false, ℕ, ◌-◌, ◌^◌, ◌<◌, ℤ, pos, neg_ℤ, length}
use mathlib.Core.List.{List, [], ◌∷◌, map}
use Rattle.laws.specs.Rows.{span}
use Rattle.laws.specs.Wrap.{wrap}
use Rattle.codewords.specs.CodeWord.{code_s}
use Rattle.quantiser.specs.Quant.{quant_factor, quant_offset, forward_quant, inverse_quant}
use Rattle.wavelet.specs.Lifting.{exact}
use Rattle.wavelet.specs.Filters.{analysis_by}
use Rattle.unit.specs.declared.Settings.{Settings}
use Rattle.unit.specs.declared.PictureKind.TheVariants.{LowDelay}
use Rattle.unit.specs.declared.RateControl.TheVariants.{PictureBytes}
use Rattle.unit.specs.Unit.{numerator_of, plan_of, length_of}
use Rattle.unit.specs.Three.{Three}
use Rattle.unit.specs.Sizes.{Size}
use Rattle.unit.specs.Slices.{Grid, left, right}
use Rattle.unit.specs.LowDelay.{slice_bytes}
use Rattle.unit.specs.Predict.{mean}

-- -n
abbrev pub minus : ℕ → ℤ
minus n = neg_ℤ (pos n)

-- ---- one-slice 4:4:4 low delay
-- both wavelets 1, both depths 0, default matrix, not extended, target 51; the other settings are those of r
unfoldable pub one_slice : Settings → Settings
one_slice r = record {
  kind = LowDelay;
  wavelet_index = 1;
  wavelet_index_ho = 1;
  dwt_depth = 0;
  dwt_depth_ho = 0;
  slices_x = 1;
  slices_y = 1;
  slice_prefix_bytes = r.slice_prefix_bytes;
  slice_size_scaler = r.slice_size_scaler;
  rate = PictureBytes 51;
  frame_width = r.frame_width;
  frame_height = r.frame_height;
  color_diff_format = 0;
  picture_coding_mode = r.picture_coding_mode;
  luma_excursion = r.luma_excursion;
  color_diff_excursion = r.color_diff_excursion;
  extended = false;
  custom_matrix = false;
  picture_number = r.picture_number;
  prev_unit_len = r.prev_unit_len;
}

-- two slices across, and a band of width 5
abbrev pub halves : Grid
halves = record { down = 1; across = 2 }

abbrev pub five : Size
five = record { width = 5; height = 1 }

pub record MarkedExamples : Type 0 where
  -- factors 0 to 5; factor 243 is below 2^63 - 1, factor 244 equals it
  pub factors : span quant_factor 0 6 ≡ 4 ∷ 5 ∷ 6 ∷ 7 ∷ 8 ∷ 10 ∷ []
  pub factor_243 : quant_factor 243 < 2 ^ 63 - 1
  pub factor_244 : quant_factor 244 ≡ 2 ^ 63 - 1
  -- offsets 0, 1, 2
  pub offsets : span quant_offset 0 3 ≡ 1 ∷ 2 ∷ 3 ∷ []
  -- -7 at index 2 becomes -4, rebuilt -7; 5 at index 4 becomes 2, rebuilt 5; -2^63 at index 0 becomes -(2^63 - 1)
  pub minus_7 : forward_quant (minus 7) 2 ≡ minus 4
  pub minus_4 : inverse_quant (minus 4) 2 ≡ minus 7
  pub plus_5 : forward_quant (pos 5) 4 ≡ pos 2
  pub plus_2 : inverse_quant (pos 2) 4 ≡ pos 5
  pub least : forward_quant (minus (2 ^ 63)) 0 ≡ minus (2 ^ 63 - 1)
  -- code lengths of 0, 1, 3, -2^63
  pub code_lengths : map (λ (z : ℤ). length (code_s z)) (pos 0 ∷ pos 1 ∷ pos 3 ∷ minus (2 ^ 63) ∷ []) ≡ 1 ∷ 4 ∷ 6 ∷ 128 ∷ []
  -- LeGall row 1, 2, with and without wrap; a row of one number, by every filter
  pub row-of-two : analysis_by wrap 1 (pos 1 ∷ pos 2 ∷ []) ≡ pos 2 ∷ pos 1 ∷ []
  pub row-of-two-exact : analysis_by exact 1 (pos 1 ∷ pos 2 ∷ []) ≡ pos 2 ∷ pos 1 ∷ []
  pub row-of-one : (wr : ℤ → ℤ) (i : ℕ) (z : ℤ) → analysis_by wr i (z ∷ []) ≡ z ∷ []
  -- numerator 10, 3 slices
  pub slice_bytes_lem : span (slice_bytes 10 3) 0 3 ≡ 3 ∷ 3 ∷ 4 ∷ []
  -- the mean of -1, -1, -1
  pub mean-of-three : mean (minus 1) (minus 1) (minus 1) ≡ minus 1
  -- band width 5 in two slices: 0 to 2, 2 to 5
  pub slice_0 : (left halves five 0 ≡ 0) × (right halves five 0 ≡ 2)
  pub slice_1 : (left halves five 1 ≡ 2) × (right halves five 1 ≡ 5)
  -- one-slice 4:4:4 low delay, target 51: numerator 31, and 52 bytes for every picture
  pub one_slice_numerator : (r : Settings) (m : List ℕ) → numerator_of (one_slice r) m ≡ 31
  pub one_slice_length : (r : Settings) (m : List ℕ) (p : Three (List ℕ)) → length_of (one_slice r) (plan_of (one_slice r) m p) ≡ 52
