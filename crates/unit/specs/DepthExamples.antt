-- Document 02, (iii): what refusal 2 turns away, by example, proved together.
use Rattle.std.specs.Prelude.{◌≡◌, refl, Bool, true, false, List, [], ◌∷◌, ℕ, ◌+◌, ◌-◌, ◌^◌, pos, replicate}
use Rattle.laws.specs.Rows.{span}
use Rattle.quantiser.specs.AnnexD.{default_matrix, table_d2}
use Rattle.wavelet.specs.Depth.{depth_limit}
use Rattle.unit.specs.declared.Settings.{Settings}
use Rattle.unit.specs.declared.PictureKind.TheVariants.{HighQuality}
use Rattle.unit.specs.declared.RateControl.TheVariants.{Lossless}
use Rattle.unit.specs.Sizes.{luma_size, colour_size}
use Rattle.unit.specs.Subbands.{padded_size, subband_count, work_needed}
use Rattle.unit.specs.Refusal.{refusal_of}

-- a lossless picture of one grey sample in each component, by wavelet, horizontal-only wavelet, depth and
-- horizontal-only depth, with a custom matrix or the default
abbrev pub one_sample : Bool → ℕ → ℕ → ℕ → ℕ → Settings
one_sample custom w h d k = record {
  kind = HighQuality;
  wavelet_index = w;
  wavelet_index_ho = h;
  dwt_depth = d;
  dwt_depth_ho = k;
  slices_x = 1;
  slices_y = 1;
  slice_prefix_bytes = 0;
  slice_size_scaler = 1;
  rate = Lossless;
  frame_width = 1;
  frame_height = 1;
  color_diff_format = 0;
  picture_coding_mode = 0;
  luma_excursion = 255;
  color_diff_excursion = 255;
  extended = false;
  custom_matrix = custom;
  picture_number = 0;
  prev_unit_len = 0;
}

-- the number that turns it away, where its matrix has n values more than it must; 0 where none does
unfoldable pub turned_away : Bool → ℕ → ℕ → ℕ → ℕ → ℕ → ℕ
turned_away custom n w h d k =
    let s = one_sample custom w h d k in
    let grey : List ℕ = 128 ∷ [] in
    refusal_of s (replicate (subband_count k d + n) 0) (record { y = grey; c1 = grey; c2 = grey }) (replicate (work_needed s) (pos 0))

pub record DepthExamples : Type 0 where
  -- the limits of the seven wavelets: 8 where both indices are 1, 3 or 4, else 5
  pub limits : span (λ w. span (depth_limit w) 0 7) 0 7
      ≡ (5 ∷ 5 ∷ 5 ∷ 5 ∷ 5 ∷ 5 ∷ 5 ∷ [])
      ∷ (5 ∷ 8 ∷ 5 ∷ 8 ∷ 8 ∷ 5 ∷ 5 ∷ [])
      ∷ (5 ∷ 5 ∷ 5 ∷ 5 ∷ 5 ∷ 5 ∷ 5 ∷ [])
      ∷ (5 ∷ 8 ∷ 5 ∷ 8 ∷ 8 ∷ 5 ∷ 5 ∷ [])
      ∷ (5 ∷ 8 ∷ 5 ∷ 8 ∷ 8 ∷ 5 ∷ 5 ∷ [])
      ∷ (5 ∷ 5 ∷ 5 ∷ 5 ∷ 5 ∷ 5 ∷ 5 ∷ [])
      ∷ (5 ∷ 5 ∷ 5 ∷ 5 ∷ 5 ∷ 5 ∷ 5 ∷ [])
      ∷ []
  -- LeGall for both wavelets, depth 0, horizontal-only depths 5 to 9
  pub legall : span (turned_away true 0 1 1 0) 5 5 ≡ 0 ∷ 0 ∷ 0 ∷ 0 ∷ 2 ∷ []
  -- Haar without and with a shift, depth 1, horizontal-only depths 5 to 8
  pub haar : span (turned_away true 0 3 4 1) 5 4 ≡ 0 ∷ 0 ∷ 0 ∷ 2 ∷ []
  -- one of the two indices is not 1, 3 or 4, whichever it is, and also where no level uses its filter: 5
  pub other_columns : span (turned_away true 0 0 1 0) 5 2 ≡ 0 ∷ 2 ∷ []
  pub other_rows : span (turned_away true 0 1 0 0) 5 2 ≡ 0 ∷ 2 ∷ []
  -- a sum that is 8 in 32 bits
  pub wrapped : turned_away true 0 1 1 (2 ^ 32 - 1) 9 ≡ 2
  -- a matrix value too many at horizontal-only depth 8
  pub one_more : turned_away true 1 1 1 0 8 ≡ 9
  -- the default, at horizontal-only depths 4 to 9
  pub default : span (turned_away false 0 1 1 0) 4 6 ≡ 0 ∷ 10 ∷ 10 ∷ 10 ∷ 10 ∷ 2 ∷ []

pub depth_examples : DepthExamples
unfolding default_matrix table_d2 depth_limit luma_size colour_size padded_size work_needed refusal_of turned_away
depth_examples = record {
  limits = refl;
  legall = refl;
  haar = refl;
  other_columns = refl;
  other_rows = refl;
  wrapped = refl;
  one_more = refl;
  default = refl;
}
