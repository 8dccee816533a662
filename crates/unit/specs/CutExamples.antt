-- Document 02, (iv): which slices count as cut, by example, proved together.
use Rattle.std.specs.Prelude.{◌≡◌, refl, ℕ, pos, length, replicate, drop}
use mathlib.Core.List.{List, [], ◌∷◌, flatten}
use Rattle.codewords.specs.Bit.{lit}
use Rattle.codewords.specs.Bytes.{pack}
use Rattle.codewords.specs.CodeWord.{log2_in, log2, interleaved, code_u, code_s, codes, zero_filled}
use Rattle.quantiser.specs.Standard.{factor}
use Rattle.quantiser.specs.Quant.{cap, quant_factor, quant_offset, forward_by, forward_quant, inverse_by, inverse_quant}
use Rattle.wavelet.specs.Depth.{depth_limit}
use Rattle.wavelet.specs.Planes.{dwt_h, dwt}
use Rattle.unit.specs.Sizes.{luma_size, colour_size, intlog2, depths_of}
use Rattle.unit.specs.Subbands.{padded_size, work_needed}
use Rattle.unit.specs.Slices.{region}
use Rattle.unit.specs.Matrix.{matrix_values, carried_matrix}
use Rattle.unit.specs.Refusal.{refusal_of}
use Rattle.unit.specs.Parameters.{codes_u, parameter_bits, parameter_bytes}
use Rattle.unit.specs.Predict.{predict, first_row, scan_rows, scan}
use Rattle.unit.specs.Trim.{trimmed, trimmed_cost, fit_prefix}
use Rattle.unit.specs.Elect.{halve, upward, elect}
use Rattle.unit.specs.Coefficients.{bands_of, coefficients_of}
use Rattle.unit.specs.Quantised.{numbers_from, rebuilt, numbers_ld, left_ld}
use Rattle.unit.specs.LowDelay.{slice_bytes, numerator, alternated, evens, odds, low_bits, kept_runs, low_index, low_plan, low_slices}
use Rattle.unit.specs.HighQuality.{component_bits, high_bits, high_numbers, high_index, index_by, high_plan, largest_need, scaler_from}
use Rattle.unit.specs.Unit.{major_version, numerator_of, scaler_of, plan_of, head_bits, length_of, unit_of}
use Rattle.unit.specs.Cut.{any_lost, is_cut, cut_count}
use Rattle.unit.specs.Outcome.{Outcome, tells, coded_of, outcome_of}
use Rattle.unit.specs.Words.{settings_of}

-- a picture of one row, no level, every matrix value 126, picture number 7, by kind, slices, rate with its number, and
-- the samples of luma and the two colours
unfoldable pub outcome : ℕ → ℕ → ℕ → ℕ → List ℕ → List ℕ → List ℕ → Outcome
outcome kind across rate number y c1 c2 =
    let s = settings_of (kind ∷ 1 ∷ 1 ∷ 0 ∷ 0 ∷ across ∷ 1 ∷ 0 ∷ 1 ∷ rate ∷ number ∷ length y ∷ 1 ∷ 0 ∷ 0 ∷ 255 ∷ 255 ∷ 0 ∷ 1 ∷ 7 ∷ 0 ∷ []) in
    outcome_of s (126 ∷ []) (record { y = y; c1 = c1; c2 = c2 }) (replicate 27 0) (replicate (work_needed s) (pos 0))

-- low delay, a target of so many bytes: what the answer tells
abbrev pub low : ℕ → ℕ → List ℕ → List ℕ → List ℕ → List ℕ
low across target y c1 c2 = tells (outcome 0 across 2 target y c1 c2).answer

-- the bytes from place 21 on, where the slices begin
abbrev pub slices : ℕ → ℕ → List ℕ → List ℕ → List ℕ → List ℕ
slices across target y c1 c2 = drop 21 (outcome 0 across 2 target y c1 c2).output

abbrev grey : List ℕ
grey = 128 ∷ []

-- answer, length, cut slices, scaler
pub record CutExamples : Type 0 where
  -- one slice of one byte: at index 127 luma 129 becomes 0, and 131 a number that is not written
  pub fits : low 1 0 (129 ∷ []) grey grey ≡ 0 ∷ 22 ∷ 0 ∷ 1 ∷ []
  pub lost : low 1 0 (131 ∷ []) grey grey ≡ 0 ∷ 22 ∷ 1 ∷ 1 ∷ []
  -- the units are the same: index 127 and a 1
  pub same_bytes : (outcome 0 1 2 0 (129 ∷ []) grey grey).output ≡ (outcome 0 1 2 0 (131 ∷ []) grey grey).output
  pub last_index_lem : slices 1 0 (129 ∷ []) grey grey ≡ 0xFF ∷ 0 ∷ 0 ∷ 0 ∷ 0 ∷ 0 ∷ []
  -- a slowly changing ramp in two slices, both of index 127, and both fit
  pub ramp : low 2 25 (129 ∷ 130 ∷ 131 ∷ 132 ∷ []) (replicate 4 128) (replicate 4 128) ≡ 0 ∷ 25 ∷ 0 ∷ 1 ∷ []
  pub ramp_slices : slices 2 25 (129 ∷ 130 ∷ 131 ∷ 132 ∷ []) (replicate 4 128) (replicate 4 128) ≡ 0xFE ∷ 0xB2 ∷ 0xFE ∷ 0xB2 ∷ 0 ∷ 0 ∷ []
  -- a number of one colour is not written
  pub first-colour : low 1 0 grey (131 ∷ []) grey ≡ 0 ∷ 22 ∷ 1 ∷ 1 ∷ []
  pub second_colour : low 1 0 grey grey (131 ∷ []) ≡ 0 ∷ 22 ∷ 1 ∷ 1 ∷ []
  -- one slice of two bytes: luma 0 is written, in one bit, and the number behind it is not
  pub zero-kept : low 1 23 (128 ∷ 228 ∷ []) (128 ∷ grey) (128 ∷ grey) ≡ 0 ∷ 23 ∷ 1 ∷ 1 ∷ []
  pub zero_written : slices 1 23 (128 ∷ 228 ∷ []) (128 ∷ grey) (128 ∷ grey) ≡ 0xFE ∷ 0x3F ∷ 0 ∷ 0 ∷ 0 ∷ 0 ∷ []
  -- two slices of two bytes, both of index 127: of the first luma is written and the colour is not, the second fits
  pub one_of_two : low 2 25 (130 ∷ 131 ∷ []) (131 ∷ 131 ∷ []) (128 ∷ 131 ∷ []) ≡ 0 ∷ 25 ∷ 1 ∷ 1 ∷ []
  pub two-slices : slices 2 25 (130 ∷ 131 ∷ []) (131 ∷ 131 ∷ []) (128 ∷ 131 ∷ []) ≡ 0xFE ∷ 0x85 ∷ 0xFE ∷ 0x16 ∷ 0 ∷ 0 ∷ []
  -- the same of one byte each: both are cut; of three bytes each: neither is
  pub both : low 2 22 (130 ∷ 131 ∷ []) (131 ∷ 131 ∷ []) (128 ∷ 131 ∷ []) ≡ 0 ∷ 23 ∷ 2 ∷ 1 ∷ []
  pub neither : low 2 27 (130 ∷ 131 ∷ []) (131 ∷ 131 ∷ []) (128 ∷ 131 ∷ []) ≡ 0 ∷ 27 ∷ 0 ∷ 1 ∷ []
  -- high quality at index 127
  pub high : tells (outcome 1 1 1 127 (131 ∷ []) grey grey).answer ≡ 0 ∷ 26 ∷ 0 ∷ 1 ∷ []

pub cut_examples : CutExamples
unfolding outcome settings_of outcome_of refusal_of work_needed coded_of any_lost is_cut cut_count unit_of flatten head_bits length_of plan_of scaler_of numerator_of major_version matrix_values carried_matrix codes_u parameter_bits parameter_bytes luma_size colour_size intlog2 depths_of padded_size region coefficients_of bands_of predict first_row scan_rows scan trimmed trimmed_cost fit_prefix halve upward elect numbers_from rebuilt numbers_ld left_ld slice_bytes numerator alternated evens odds low_bits kept_runs low_index low_plan low_slices component_bits high_bits high_numbers high_index index_by high_plan largest_need scaler_from lit pack log2_in log2 interleaved code_u code_s codes zero_filled factor cap quant_factor quant_offset forward_by forward_quant inverse_by inverse_quant depth_limit dwt_h dwt
cut_examples = record {
  fits = refl;
  lost = refl;
  same_bytes = refl;
  last_index_lem = refl;
  ramp = refl;
  ramp_slices = refl;
  first-colour = refl;
  second_colour = refl;
  zero-kept = refl;
  zero_written = refl;
  one_of_two = refl;
  two-slices = refl;
  both = refl;
  neither = refl;
  high = refl;
}
