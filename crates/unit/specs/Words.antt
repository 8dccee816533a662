-- Settings as 21 words, in the job program's order: document 01, "Table of marked examples", its last part.
use Rattle.std.specs.Prelude.{Bool, ◌&&◌, List, ℕ, zero, suc, eqb, ltb, length, get_or}
use Rattle.unit.specs.declared.Settings.{Settings}
use Rattle.unit.specs.declared.PictureKind.{PictureKind}
use Rattle.unit.specs.declared.PictureKind.TheVariants.{LowDelay, HighQuality}
use Rattle.unit.specs.declared.RateControl.{RateControl}
use Rattle.unit.specs.declared.RateControl.TheVariants.{Lossless, FixedQuantIndex, PictureBytes}

abbrev pub word_at : List ℕ → ℕ → ℕ
word_at ws n = get_or ws n 0

-- 21 words, of which kind, rate, extended and custom are among their values
unfoldable pub known : List ℕ → Bool
known ws = eqb (length ws) 21 && (ltb (word_at ws 0) 2 && (ltb (word_at ws 9) 3 && (ltb (word_at ws 17) 2 && ltb (word_at ws 18) 2)))

-- 0 low delay, 1 high quality
abbrev pub kind_in : ℕ → PictureKind
kind_in zero = LowDelay
kind_in (suc n) = HighQuality

-- 0 lossless, 1 index, 2 bytes; n is the rate number
abbrev pub rate_in : ℕ → ℕ → RateControl
rate_in zero n = Lossless
rate_in (suc zero) n = FixedQuantIndex n
rate_in (suc (suc r)) n = PictureBytes n

unfoldable pub settings_of : List ℕ → Settings
settings_of ws = record {
  kind = kind_in (word_at ws 0);
  wavelet_index = word_at ws 1;
  wavelet_index_ho = word_at ws 2;
  dwt_depth = word_at ws 3;
  dwt_depth_ho = word_at ws 4;
  slices_x = word_at ws 5;
  slices_y = word_at ws 6;
  slice_prefix_bytes = word_at ws 7;
  slice_size_scaler = word_at ws 8;
  rate = rate_in (word_at ws 9) (word_at ws 10);
  frame_width = word_at ws 11;
  frame_height = word_at ws 12;
  color_diff_format = word_at ws 13;
  picture_coding_mode = word_at ws 14;
  luma_excursion = word_at ws 15;
  color_diff_excursion = word_at ws 16;
  extended = eqb (word_at ws 17) 1;
  custom_matrix = eqb (word_at ws 18) 1;
  picture_number = word_at ws 19;
  prev_unit_len = word_at ws 20;
}
