-- Wrong encoders, each shut out by what one small call comes to. The picture call's answer, output and work slice equal
-- what `outcome_of` gives (Encoded), and those of the row call what `answer_of` and `analysis_by` give
-- (wavelet/RowCall), so an encoder that leaves anything else at one of these calls breaks that contract. At each call
-- stands what the definition gives (`right`), and that it is not what wrong encoders left there (`apart`): each
-- was built without proof from edited code, and run at that call.
use Rattle.std.specs.Prelude.{◌≡◌, refl, Bool, true, false, ◌&&◌, ◌||◌, ℕ, ◌+◌, eqb, pos, length, replicate, set, Ok, Err}
use mathlib.Core.List.{List, [], ◌∷◌, ◌++◌, map, flatten}
use Rattle.laws.specs.Wrap.{wrap}
use Rattle.codewords.specs.Bit.{lit}
use Rattle.codewords.specs.Bytes.{pack}
use Rattle.codewords.specs.CodeWord.{log2_in, log2, interleaved, code_u, code_s, codes, zero_filled}
use Rattle.quantiser.specs.Standard.{factor}
use Rattle.quantiser.specs.Quant.{cap, quant_factor, quant_offset, forward_by, forward_quant, inverse_by, inverse_quant}
use Rattle.quantiser.specs.AnnexD.{table_d2, table_d4, table_d7, default_matrix}
use Rattle.wavelet.specs.Depth.{depth_limit}
use Rattle.wavelet.specs.Lifting.{within, dot, delta, lifted, analysis}
use Rattle.wavelet.specs.Filters.{legall, haar0, fidelity, analysis_by}
use Rattle.wavelet.specs.Planes.{rows_by, dwt_h, dwt}
use Rattle.wavelet.specs.RowCall.{answer_of}
use Rattle.refusals.specs.declared.Refusal.TheVariants as refused
use Rattle.unit.specs.Three.{Three, planes}
use Rattle.unit.specs.Sizes.{luma_size, colour_size, intlog2, depths_of}
use Rattle.unit.specs.Subbands.{padded_size, work_needed}
use Rattle.unit.specs.Slices.{region}
use Rattle.unit.specs.Matrix.{matrix_values, carried_matrix}
use Rattle.unit.specs.Refusal.{refusal_of}
use Rattle.unit.specs.Parameters.{extended_bits, codes_u, parameter_bits, parameter_bytes}
use Rattle.unit.specs.Predict.{predict, first_row, rest_row, next_row, next_rows, scan_rows, scan}
use Rattle.unit.specs.Trim.{trimmed, trimmed_cost, fit_prefix}
use Rattle.unit.specs.Elect.{halve, upward, elect}
use Rattle.unit.specs.Coefficients.{bands_of, coefficients_of}
use Rattle.unit.specs.Quantised.{numbers_from, rebuilt, numbers_ld, left_ld}
use Rattle.unit.specs.LowDelay.{slice_bytes, numerator, alternated, evens, odds, low_bits, kept_runs, low_index, low_plan, low_slices}
use Rattle.unit.specs.HighQuality.{component_bits, high_bits, slice_size, share_of, high_numbers, high_index, index_by, high_plan, largest_need, scaler_from}
use Rattle.unit.specs.Unit.{major_version, numerator_of, scaler_of, plan_of, head_bits, length_of, unit_of}
use Rattle.unit.specs.Cut.{any_lost, is_cut, cut_count}
use Rattle.unit.specs.Outcome.{Outcome, coding_refusal, coded_of, outcome_of, tells}
use Rattle.unit.specs.Words.{settings_of}

-- ---- settings, as the job program's words
-- document 01's job: high quality, lossless, one sample of each component in one slice, LeGall wavelet, no depth,
-- scaler 1, picture number 7
abbrev job : List ℕ
job = 1 ∷ 1 ∷ 1 ∷ 0 ∷ 0 ∷ 1 ∷ 1 ∷ 0 ∷ 1 ∷ 0 ∷ 0 ∷ 1 ∷ 1 ∷ 0 ∷ 0 ∷ 255 ∷ 255 ∷ 0 ∷ 0 ∷ 7 ∷ 0 ∷ []

-- what differs from it
abbrev wavelet : ℕ → List ℕ → List ℕ
wavelet n ws = set (set ws 1 n) 2 n

abbrev depth : ℕ → List ℕ → List ℕ
depth n ws = set ws 3 n

abbrev depth_ho : ℕ → List ℕ → List ℕ
depth_ho n ws = set ws 4 n

abbrev across : ℕ → List ℕ → List ℕ
across n ws = set ws 5 n

abbrev scaler : ℕ → List ℕ → List ℕ
scaler n ws = set ws 8 n

abbrev index : ℕ → List ℕ → List ℕ
index n ws = set (set ws 9 1) 10 n

abbrev target : ℕ → List ℕ → List ℕ
target n ws = set (set ws 9 2) 10 n

abbrev wide : ℕ → List ℕ → List ℕ
wide n ws = set ws 11 n

abbrev high : ℕ → List ℕ → List ℕ
high n ws = set ws 12 n

abbrev excursion : ℕ → List ℕ → List ℕ
excursion n ws = set (set ws 15 n) 16 n

abbrev extended : List ℕ → List ℕ
extended ws = set ws 17 1

abbrev custom : List ℕ → List ℕ
custom ws = set ws 18 1

-- low delay with a target of n bytes
abbrev low : ℕ → List ℕ
low n = set (target n job) 0 0

-- ---- calls
-- grey colours
abbrev luma : List ℕ → Three (List ℕ)
luma y = let c = replicate {A = ℕ} (length y) 128 in planes y c c

-- Of settings ws, lent matrix m and planes p; n bytes AA are lent for the output, and for the work slice as many
-- numbers 5 as it needs.
abbrev outcome : List ℕ → List ℕ → Three (List ℕ) → ℕ → Outcome
outcome ws m p n = let s = settings_of ws in outcome_of s m p (replicate n 0xAA) (replicate (work_needed s) (pos 5))

-- parse information with parse code c, next length n and previous length 0, picture number 7, and then bs
abbrev headed : ℕ → ℕ → List ℕ → List ℕ
headed c n bs = 0x42 ∷ 0x42 ∷ 0x43 ∷ 0x44 ∷ c ∷ 0 ∷ 0 ∷ 0 ∷ n ∷ 0 ∷ 0 ∷ 0 ∷ 0 ∷ 0 ∷ 0 ∷ 0 ∷ 7 ∷ bs

-- a unit: bs are the bytes from the transform parameters on
abbrev unit : ℕ → List ℕ → List ℕ
unit c bs = headed c (17 + length bs) bs

-- ---- what wrong encoders left
-- what an accepted call told, and left in the output
abbrev left : ℕ → ℕ → ℕ → ℕ → List ℕ → List ℕ
left n cut scaler c bs = 0 ∷ n ∷ cut ∷ scaler ∷ headed c n bs

-- whether two lists are the same
abbrev same : List ℕ → List ℕ → Bool
same [] [] = true
same [] (y ∷ ys) = false
same (x ∷ xs) [] = false
same (x ∷ xs) (y ∷ ys) = eqb x y && same xs ys

-- whether a list is one of the others
abbrev among : List ℕ → List (List ℕ) → Bool
among xs [] = false
among xs (ys ∷ yss) = same xs ys || among xs yss

-- ---- what a call gives, and that it is nothing of what wrong encoders left there
-- The call is accepted, with so many cut slices and this scaler; the unit just fills the output, and the work slice is
-- zeros.
pub record Gives (c : ℕ) (ws m : List ℕ) (p : Three (List ℕ)) (cut scaler : ℕ) (bs : List ℕ) (wrong : List (List ℕ)) : Type 0 where
  pub right : outcome ws m p (17 + length bs)
      ≡ record {
        answer = Ok (record { written = 17 + length bs; cut_slices = cut; slice_size_scaler = scaler });
        output = unit c bs;
        work = replicate (work_needed (settings_of ws)) (pos 0);
      }
  pub apart : among (0 ∷ (17 + length bs) ∷ cut ∷ scaler ∷ unit c bs) wrong ≡ false

abbrev GivesHigh : List ℕ → Three (List ℕ) → List ℕ → List (List ℕ) → Type 0
GivesHigh ws p bs wrong = Gives 0xE8 ws [] p 0 1 bs wrong

abbrev GivesLow : List ℕ → Three (List ℕ) → List ℕ → List (List ℕ) → Type 0
GivesLow ws p bs wrong = Gives 0xC8 ws [] p 0 1 bs wrong

-- a whole outcome; of the wrong ones what they told, and the output
pub record Leaves (o r : Outcome) (wrong : List (List ℕ)) : Type 0 where
  pub right : o ≡ r
  pub apart : among (tells r.answer ++ r.output) wrong ≡ false

-- what is told, or the output alone
pub record GivesList (given stated : List ℕ) (wrong : List (List ℕ)) : Type 0 where
  pub right : given ≡ stated
  pub apart : among stated wrong ≡ false

-- a row of numbers that are not below 0, by filter i
pub record Becomes (i : ℕ) (xs ys : List ℕ) (wrong : List (List ℕ)) : Type 0 where
  pub right : analysis_by wrap i (map pos xs) ≡ map pos ys
  pub apart : among ys wrong ≡ false

pub record WrongEncoders : Type 0 where
  -- ---- high quality
  -- Also work_as_left: it leaves the work slice as it used it, 2, -3, 0, 2, 0, -3, 0, 1, 4.
  pub one_sample_lem :
      GivesHigh job (planes (130 ∷ []) (128 ∷ []) (125 ∷ []))
      (0x32 ∷ 0x64 ∷ 0x00 ∷ 0x01 ∷ 0x6F ∷ 0x00 ∷ 0x01 ∷ 0x0F ∷ [])
      -- all_refused turns everything away
      ((13 ∷ replicate 25 0xAA)
      -- too_long_with_space says 14 where the unit just fills the output; says_14 says 14 with space enough
      ∷ (14 ∷ replicate 25 0)
      -- output_as_it_came writes no slice
      ∷ left 25 0 1 0xE8 (0x32 ∷ 0x64 ∷ 0xAA ∷ 0xAA ∷ 0xAA ∷ 0xAA ∷ 0xAA ∷ 0xAA ∷ [])
      -- output_untouched writes nothing
      ∷ (0 ∷ 25 ∷ 0 ∷ 1 ∷ replicate 25 0xAA)
      -- grey_unit sends the same grey unit for all pictures
      ∷ left 23 0 1 0xE8 (0x32 ∷ 0x64 ∷ 0x00 ∷ 0x00 ∷ 0x00 ∷ 0x00 ∷ 0xAA ∷ 0xAA ∷ [])
      -- lossless_255 takes lossless for index 255
      ∷ left 23 0 1 0xE8 (0x32 ∷ 0x64 ∷ 0xFF ∷ 0x00 ∷ 0x00 ∷ 0x00 ∷ 0xAA ∷ 0xAA ∷ [])
      -- ones_high writes every number as 1
      ∷ left 25 0 1 0xE8 (0x32 ∷ 0x64 ∷ 0x00 ∷ 0x01 ∷ 0x2F ∷ 0x00 ∷ 0x01 ∷ 0xAA ∷ [])
      -- cut_high counts a cut slice in high quality
      ∷ left 25 1 1 0xE8 (0x32 ∷ 0x64 ∷ 0x00 ∷ 0x01 ∷ 0x6F ∷ 0x00 ∷ 0x01 ∷ 0x0F ∷ [])
      ∷ [])
  pub longer_output :
      GivesList (outcome job [] (luma (128 ∷ [])) 25).output
      (unit 0xE8 (0x32 ∷ 0x64 ∷ 0 ∷ 0 ∷ 0 ∷ 0 ∷ []) ++ (0xAA ∷ 0xAA ∷ []))
      -- says_14 says 14 with space enough
      ((replicate 25 0)
      -- clears_output_first clears the output behind the unit
      ∷ headed 0xE8 23 (0x32 ∷ 0x64 ∷ 0x00 ∷ 0x00 ∷ 0x00 ∷ 0x00 ∷ 0x00 ∷ 0x00 ∷ [])
      ∷ [])
  pub short_output :
      Leaves (outcome job [] (luma (128 ∷ [])) 22)
      (record { answer = Err refused.Unit; output = replicate 22 0; work = replicate 9 (pos 0) })
      -- never_14 writes what there is room for of a unit longer than the output
      (left 23 0 1 0xE8 (0x32 ∷ 0x64 ∷ 0x00 ∷ 0x00 ∷ 0x00 ∷ [])
      -- leaves_output_at_14 says 14 and leaves the output as it came
      ∷ (14 ∷ replicate 22 0xAA)
      ∷ [])
  pub two-slices :
      GivesHigh (target 28 (across 2 (wide 2 job))) (luma (101 ∷ 101 ∷ []))
      (0x36 ∷ 0x64 ∷ 0x04 ∷ 0x01 ∷ 0x53 ∷ 0x00 ∷ 0x00 ∷ 0x14 ∷ 0x00 ∷ 0x00 ∷ 0x00 ∷ [])
      -- last_index sets every slice to its last index
      (left 27 0 1 0xE8 (0x36 ∷ 0x64 ∷ 0xFF ∷ 0x00 ∷ 0x00 ∷ 0x00 ∷ 0xFF ∷ 0x00 ∷ 0x00 ∷ 0x00 ∷ 0xAA ∷ [])
      -- first_slice_only codes the first slice only
      ∷ left 28 0 1 0xE8 (0x36 ∷ 0x64 ∷ 0x04 ∷ 0x01 ∷ 0x53 ∷ 0x00 ∷ 0x00 ∷ 0x00 ∷ 0x00 ∷ 0x00 ∷ 0x00 ∷ [])
      -- larger_shares_last gives the later slices the larger shares
      ∷ left 28 0 1 0xE8 (0x36 ∷ 0x64 ∷ 0x14 ∷ 0x00 ∷ 0x00 ∷ 0x00 ∷ 0x04 ∷ 0x01 ∷ 0x53 ∷ 0x00 ∷ 0x00 ∷ [])
      -- turned_round searches above an index that fits; fit_without_4 forgets the slice's own four bytes
      ∷ (14 ∷ replicate 28 0)
      ∷ [])
  pub trimmed_share :
      GivesHigh (target 24 job) (luma (160 ∷ []))
      (0x32 ∷ 0x64 ∷ 0x05 ∷ 0x01 ∷ 0x46 ∷ 0x00 ∷ 0x00 ∷ [])
      -- untrimmed_fit_high compares the budget with the untrimmed cost
      (left 23 0 1 0xE8 (0x32 ∷ 0x64 ∷ 0xFF ∷ 0x00 ∷ 0x00 ∷ 0x00 ∷ 0xAA ∷ [])
      ∷ [])
  pub two-zeros :
      GivesHigh (wide 3 job) (luma (128 ∷ 128 ∷ 127 ∷ []))
      (0x32 ∷ 0x64 ∷ 0x00 ∷ 0x01 ∷ 0xCF ∷ 0x00 ∷ 0x00 ∷ [])
      -- zero_more packs a run of zeros as one zero more
      (left 24 0 1 0xE8 (0x32 ∷ 0x64 ∷ 0x00 ∷ 0x01 ∷ 0xE7 ∷ 0x80 ∷ 0x00 ∷ [])
      -- one_zero packs a run of zeros as one
      ∷ left 24 0 1 0xE8 (0x32 ∷ 0x64 ∷ 0x00 ∷ 0x01 ∷ 0x9E ∷ 0x00 ∷ 0xAA ∷ [])
      -- zero_as_two packs each zero before a number as two
      ∷ left 24 0 1 0xE8 (0x32 ∷ 0x64 ∷ 0x00 ∷ 0x01 ∷ 0xF3 ∷ 0x00 ∷ 0x00 ∷ [])
      ∷ [])
  pub fixed_index :
      GivesHigh (index 4 job) (luma (128 ∷ []))
      (0x32 ∷ 0x64 ∷ 0x04 ∷ 0x00 ∷ 0x00 ∷ 0x00 ∷ [])
      -- fixed_as_0 takes a fixed index for 0
      (left 23 0 1 0xE8 (0x32 ∷ 0x64 ∷ 0x00 ∷ 0x00 ∷ 0x00 ∷ 0x00 ∷ [])
      ∷ [])
  pub one_shift :
      GivesHigh (depth 1 job) (luma (130 ∷ []))
      (0x24 ∷ 0x99 ∷ 0x00 ∷ 0x00 ∷ 0x01 ∷ 0x1B ∷ 0x00 ∷ 0x00 ∷ [])
      -- shift_added adds the column filter's shift
      (left 25 0 1 0xE8 (0x24 ∷ 0x99 ∷ 0x00 ∷ 0x00 ∷ 0x01 ∷ 0x06 ∷ 0x00 ∷ 0x00 ∷ [])
      ∷ [])
  -- Luma needs 256 bytes.
  pub final_scaler :
      GivesList (tells (outcome (excursion 1 (wide 64 job)) [] (planes (replicate 64 65535) (replicate 64 1) (replicate 64 1)) 279).answer)
      (0 ∷ 279 ∷ 0 ∷ 2 ∷ [])
      -- setting_scaler tells the setting's scaler; scaler_never_grows keeps the setting's scaler
      ((0 ∷ 279 ∷ 0 ∷ 1 ∷ [])
      ∷ [])
  -- With scaler 2 the slice no longer fits at index 0.
  pub chosen_anew :
      GivesList (tells (outcome (excursion 1 (wide 64 (target 280 job))) [] (planes (replicate 64 65535) (2 ∷ replicate 63 1) (replicate 64 1)) 281).answer)
      (0 ∷ 279 ∷ 0 ∷ 2 ∷ [])
      -- choices_kept keeps the indices of scaler 1
      ((0 ∷ 281 ∷ 0 ∷ 2 ∷ [])
      ∷ [])
  -- A longer work slice has room for notes.
  pub longer_work :
      GivesList (outcome_of (settings_of (across 2 (wide 2 job))) [] (planes (130 ∷ 127 ∷ []) (129 ∷ 128 ∷ []) (128 ∷ 126 ∷ [])) (replicate 31 0xAA)
      (replicate 26 (pos 5))).output
      (unit 0xE8 (0x36 ∷ 0x64 ∷ 0x00 ∷ 0x01 ∷ 0x6F ∷ 0x01 ∷ 0x2F ∷ 0x00 ∷ 0x00 ∷ 0x01 ∷ 0x3F ∷ 0x00 ∷ 0x01 ∷ 0x7F ∷ []))
      -- first_words_always writes every slice from the first one's words
      (headed 0xE8 31 (0x36 ∷ 0x64 ∷ 0x00 ∷ 0x01 ∷ 0x6F ∷ 0x01 ∷ 0x2F ∷ 0x00 ∷ 0x00 ∷ 0x01 ∷ 0x6F ∷ 0x00 ∷ 0x01 ∷ 0x2F ∷ [])
      -- other_component takes the second colour's run for the first one's
      ∷ headed 0xE8 31 (0x36 ∷ 0x64 ∷ 0x00 ∷ 0x01 ∷ 0x6F ∷ 0x00 ∷ 0x00 ∷ 0x00 ∷ 0x01 ∷ 0x2F ∷ 0x01 ∷ 0x3F ∷ 0x01 ∷ 0x7F ∷ [])
      ∷ [])
  -- ---- low delay
  pub two_parts :
      GivesLow (across 2 (wide 2 (low 25))) (luma (121 ∷ 128 ∷ []))
      (0x36 ∷ 0x52 ∷ 0xC0 ∷ 0x0A ∷ 0x8F ∷ 0x00 ∷ 0x65 ∷ 0xBF ∷ [])
      -- all_refused turns everything away
      ((13 ∷ replicate 25 0xAA)
      -- too_long_with_space says 14 where the unit just fills the output; says_14 says 14 with space enough
      ∷ (14 ∷ replicate 25 0)
      -- output_as_it_came writes no slice
      ∷ left 25 0 1 0xC8 (0x36 ∷ 0x52 ∷ 0xC0 ∷ 0xAA ∷ 0xAA ∷ 0xAA ∷ 0xAA ∷ 0xAA ∷ [])
      -- output_untouched writes nothing
      ∷ (0 ∷ 25 ∷ 0 ∷ 1 ∷ replicate 25 0xAA)
      -- grey_unit sends the same grey unit for all pictures
      ∷ left 25 0 1 0xC8 (0x36 ∷ 0x52 ∷ 0xC0 ∷ 0x00 ∷ 0x1F ∷ 0x00 ∷ 0x0F ∷ 0xFF ∷ [])
      -- ones_low writes every number as 1
      ∷ left 25 0 1 0xC8 (0x36 ∷ 0x52 ∷ 0xC0 ∷ 0x0A ∷ 0x85 ∷ 0x00 ∷ 0x62 ∷ 0xAA ∷ [])
      -- last_index sets every slice to its last index; turned_round searches above an index that fits
      ∷ left 25 0 1 0xC8 (0x36 ∷ 0x52 ∷ 0xC0 ∷ 0xFE ∷ 0x1F ∷ 0xFE ∷ 0x0F ∷ 0xFF ∷ [])
      -- first_slice_only codes the first slice only; last_candidate leaves the planes as the last index rebuilds them
      ∷ left 25 0 1 0xC8 (0x36 ∷ 0x52 ∷ 0xC0 ∷ 0x0A ∷ 0x8F ∷ 0x00 ∷ 0x0F ∷ 0xFF ∷ [])
      -- untrimmed_fit compares the budget with the untrimmed cost
      ∷ left 25 0 1 0xC8 (0x36 ∷ 0x52 ∷ 0xC0 ∷ 0x18 ∷ 0x00 ∷ 0x1F ∷ 0xAA ∷ 0xAA ∷ [])
      -- cut_all counts every slice as cut
      ∷ left 25 2 1 0xC8 (0x36 ∷ 0x52 ∷ 0xC0 ∷ 0x0A ∷ 0x8F ∷ 0x00 ∷ 0x65 ∷ 0xBF ∷ [])
      -- larger_first_low gives the earlier slices the larger parts
      ∷ left 25 0 1 0xC8 (0x36 ∷ 0x52 ∷ 0xC0 ∷ 0x00 ∷ 0x80 ∷ 0x3F ∷ 0x0A ∷ 0x8D ∷ [])
      -- predict_from_source predicts from the coefficients
      ∷ left 25 0 1 0xC8 (0x36 ∷ 0x52 ∷ 0xC0 ∷ 0x0A ∷ 0x8F ∷ 0x00 ∷ 0x80 ∷ 0x2F ∷ [])
      -- fit_without_length_bits forgets the bits of the luma length
      ∷ left 25 1 1 0xC8 (0x36 ∷ 0x52 ∷ 0xC0 ∷ 0x00 ∷ 0x1F ∷ 0x00 ∷ 0x80 ∷ 0x2F ∷ [])
      ∷ [])
  -- The first slice is cut: its luma is written, and its first colour is not.
  pub first-cut :
      Gives 0xC8 (custom (across 2 (wide 2 (low 27)))) (127 ∷ []) (planes (129 ∷ 128 ∷ []) (129 ∷ 128 ∷ []) (128 ∷ 128 ∷ [])) 1 1
      (0x36 ∷ 0x52 ∷ 0xE0 ∷ 0x00 ∷ 0x40 ∷ 0xFE ∷ 0x85 ∷ 0x00 ∷ 0x43 ∷ 0x3F ∷ [])
      -- none_cut counts no slice as cut
      (left 27 0 1 0xC8 (0x36 ∷ 0x52 ∷ 0xE0 ∷ 0x00 ∷ 0x40 ∷ 0xFE ∷ 0x85 ∷ 0x00 ∷ 0x43 ∷ 0x3F ∷ [])
      -- colour_first cuts luma and keeps the colours
      ∷ left 27 1 1 0xC8 (0x36 ∷ 0x52 ∷ 0xE0 ∷ 0x00 ∷ 0x40 ∷ 0xFE ∷ 0x05 ∷ 0x00 ∷ 0x43 ∷ 0x3F ∷ [])
      -- predict_from_cut predicts from what a cut has left
      ∷ left 27 1 1 0xC8 (0x36 ∷ 0x52 ∷ 0xE0 ∷ 0x00 ∷ 0x40 ∷ 0xFE ∷ 0x85 ∷ 0x00 ∷ 0x43 ∷ 0xFF ∷ [])
      -- colours_apart swaps the colours
      ∷ left 27 1 1 0xC8 (0x36 ∷ 0x52 ∷ 0xE0 ∷ 0x00 ∷ 0x40 ∷ 0xFE ∷ 0x85 ∷ 0x00 ∷ 0x43 ∷ 0xAA ∷ [])
      ∷ [])
  -- One slice of one byte: at index 127 all of its numbers are 0, so that it is not cut.
  pub last_fits :
      Gives 0xC8 (custom (low 0)) (126 ∷ []) (luma (129 ∷ [])) 0 1 (0x32 ∷ 0x49 ∷ 0xAA ∷ 0xAC ∷ 0xFF ∷ [])
      -- cut_at_last_index counts every slice of index 127 as cut
      (left 22 1 1 0xC8 (0x32 ∷ 0x49 ∷ 0xAA ∷ 0xAC ∷ 0xFF ∷ [])
      ∷ [])
  -- Index 5 fits; halving ends at 8.
  pub not_the_least :
      GivesLow (high 2 (low 23)) (luma (76 ∷ 79 ∷ []))
      (0x32 ∷ 0x42 ∷ 0x40 ∷ 0x10 ∷ 0xC5 ∷ 0x32 ∷ [])
      -- least_fit_low elects the least index that fits
      (left 23 0 1 0xC8 (0x32 ∷ 0x42 ∷ 0x40 ∷ 0x0A ∷ 0xA1 ∷ 0x1F ∷ [])
      ∷ [])
  -- Once it is 6, twice 7, and then 6 again, and so on.
  pub numerator_twice :
      GivesLow (extended (wavelet 3 (low 27))) (luma (130 ∷ []))
      (0x0C ∷ 0x24 ∷ 0x09 ∷ 0x00 ∷ 0x00 ∷ 0x23 ∷ 0x7F ∷ 0xFF ∷ 0xFF ∷ 0xFF ∷ 0xFF ∷ [])
      -- numerator_once works out the numerator once; numerator_stable works out the numerator until it is stable, in
      -- at most 1,001 turns
      (left 26 0 1 0xC8 (0x0C ∷ 0x25 ∷ 0x64 ∷ 0x00 ∷ 0x23 ∷ 0x7F ∷ 0xFF ∷ 0xFF ∷ 0xFF ∷ 0xAA ∷ 0xAA ∷ [])
      ∷ [])
  pub mean_floors :
      GivesLow (high 2 (wide 2 (low 24))) (luma (127 ∷ 127 ∷ 127 ∷ 127 ∷ []))
      (0x32 ∷ 0x46 ∷ 0x40 ∷ 0x00 ∷ 0x43 ∷ 0xFF ∷ 0xFF ∷ [])
      -- prediction_truncates truncates the mean of three
      (left 24 0 1 0xC8 (0x32 ∷ 0x46 ∷ 0x40 ∷ 0x00 ∷ 0xA3 ∷ 0xCF ∷ 0xFF ∷ [])
      ∷ [])
  pub colours_alternate :
      GivesLow (wide 2 (low 23)) (planes (128 ∷ 128 ∷ []) (129 ∷ 130 ∷ []) (128 ∷ 128 ∷ []))
      (0x32 ∷ 0x42 ∷ 0x40 ∷ 0x00 ∷ 0x02 ∷ 0x97 ∷ [])
      -- colours_in_turn writes the first colour and then the second
      (left 23 0 1 0xC8 (0x32 ∷ 0x42 ∷ 0x40 ∷ 0x00 ∷ 0x02 ∷ 0x2F ∷ [])
      -- colours_apart swaps the colours
      ∷ left 23 0 1 0xC8 (0x32 ∷ 0x42 ∷ 0x40 ∷ 0x00 ∷ 0x09 ∷ 0xAA ∷ [])
      ∷ [])
  pub one_shift_low :
      GivesLow (depth 1 (low 24)) (luma (130 ∷ []))
      (0x24 ∷ 0x91 ∷ 0x90 ∷ 0x00 ∷ 0x61 ∷ 0xBF ∷ 0xFF ∷ [])
      -- shift_added adds the column filter's shift
      (left 24 0 1 0xC8 (0x24 ∷ 0x91 ∷ 0x90 ∷ 0x00 ∷ 0x80 ∷ 0x6F ∷ 0xFF ∷ [])
      ∷ [])
  pub setting_scaler :
      Gives 0xC8 (scaler 2 (low 21)) [] (luma (128 ∷ [])) 0 2 (0x32 ∷ 0x49 ∷ 0x00 ∷ 0x01 ∷ [])
      -- scaler_low_one tells scaler 1
      (left 21 0 1 0xC8 (0x32 ∷ 0x49 ∷ 0x00 ∷ 0x01 ∷ [])
      ∷ [])
  -- ---- wavelet
  pub first_shift :
      GivesHigh (wavelet 3 (depth 1 job)) (luma (129 ∷ []))
      (0x09 ∷ 0x26 ∷ 0x40 ∷ 0x00 ∷ 0x01 ∷ 0x2F ∷ 0x00 ∷ 0x00 ∷ [])
      -- first_shift raises the first level of a filter that has no shift
      (left 25 0 1 0xE8 (0x09 ∷ 0x26 ∷ 0x40 ∷ 0x00 ∷ 0x01 ∷ 0x6F ∷ 0x00 ∷ 0x00 ∷ [])
      ∷ [])
  pub rows-first :
      GivesHigh (high 2 (depth 1 job)) (luma (129 ∷ 128 ∷ []))
      (0x24 ∷ 0x99 ∷ 0x00 ∷ 0x00 ∷ 0x02 ∷ 0x2B ∷ 0xFF ∷ 0x00 ∷ 0x00 ∷ [])
      -- columns_first analyses columns before rows
      (left 26 0 1 0xE8 (0x24 ∷ 0x99 ∷ 0x00 ∷ 0x00 ∷ 0x02 ∷ 0x6B ∷ 0xFF ∷ 0x00 ∷ 0x00 ∷ [])
      ∷ [])
  -- Two levels both ways, and one horizontal-only.
  pub height_halved :
      Gives 0xE8 (custom (wide 2 (wavelet 3 (depth_ho 1 (depth 2 job))))) (replicate 8 0) (luma (129 ∷ 128 ∷ [])) 0 1
      (0x0B ∷ 0x49 ∷ 0x33 ∷ 0xFF ∷ 0x00 ∷ 0x04 ∷ 0x23 ∷ 0x3F ∷ 0x9F ∷ 0x3F ∷ 0x00 ∷ 0x00 ∷ [])
      -- height_kept takes the next level as high as this one
      (left 29 0 1 0xE8 (0x0B ∷ 0x49 ∷ 0x33 ∷ 0xFF ∷ 0x00 ∷ 0x04 ∷ 0x29 ∷ 0x97 ∷ 0x9F ∷ 0x3F ∷ 0x00 ∷ 0x00 ∷ [])
      ∷ [])
  -- ---- refusals
  -- clears_when_refused answers 13 too, and clears the work slice.
  pub short_work_lem :
      outcome_of (settings_of job) [] (luma (128 ∷ [])) (0xAA ∷ []) (replicate 8 (pos 5))
      ≡ record { answer = Err refused.Work; output = 0xAA ∷ []; work = replicate 8 (pos 5) }
  -- The first rule that each of these calls breaks.
  pub numbers :
      GivesList
      (flatten
      (map (λ ws. tells (outcome_of (settings_of ws) [] (luma (128 ∷ [])) [] (replicate 9 (pos 5))).answer)
      (wavelet 7 job ∷ depth 9 job ∷ across 0 job ∷ scaler 0 job ∷ set job 0 0 ∷ index 256 job ∷ target 1073741825 job ∷ wide 0 job ∷ custom job
      ∷ depth 5 job ∷ wide 65535 (high 65535 job) ∷ wide 2 job ∷ [])))
      (1 ∷ 2 ∷ 3 ∷ 4 ∷ 5 ∷ 6 ∷ 7 ∷ 8 ∷ 9 ∷ 10 ∷ 11 ∷ 12 ∷ [])
      -- number_12_for_11 gives 12 for 11
      ((1 ∷ 2 ∷ 3 ∷ 4 ∷ 5 ∷ 6 ∷ 7 ∷ 8 ∷ 9 ∷ 10 ∷ 12 ∷ 12 ∷ [])
      ∷ [])

-- ---- the number of the first rule that a call breaks
-- with planes p, and a work slice of n numbers
abbrev first : ℕ → Three (List ℕ) → List ℕ → List ℕ → ℕ
first n p m ws = refusal_of (settings_of ws) m p (replicate n (pos 5))

-- without planes, so that a call that breaks no rule before 12 breaks this one; without a matrix
abbrev firsts : List (List ℕ) → List ℕ
firsts wss = map (first 0 (planes [] [] []) []) wss

abbrev format : ℕ → List ℕ → List ℕ
format n ws = set ws 13 n

abbrev mode : ℕ → List ℕ → List ℕ
mode n ws = set ws 14 n

-- two samples across and two down
abbrev frame : List ℕ
frame = wide 2 (high 2 job)

pub record Numbers : Type 0 where
  -- each limit and one more: both wavelets, the depths, slices across, down and all, scaler, prefix bytes
  pub shape : firsts
      (wavelet 6 job ∷ set job 1 7 ∷ set job 2 7
      ∷ depth 8 job ∷ depth 9 job ∷ depth_ho 8 job ∷ depth_ho 9 job
      ∷ across 65535 job ∷ across 65536 job ∷ across 0 job ∷ set job 6 65535 ∷ set job 6 65536 ∷ set job 6 0
      ∷ set (across 1024 job) 6 1024 ∷ set (across 1025 job) 6 1024
      ∷ scaler 65535 job ∷ scaler 65536 job ∷ scaler 0 job ∷ set job 7 255 ∷ set job 7 256 ∷ [])
      ≡ 12 ∷ 1 ∷ 1 ∷ 10 ∷ 2 ∷ 10 ∷ 2 ∷ 12 ∷ 3 ∷ 3 ∷ 12 ∷ 3 ∷ 3 ∷ 12 ∷ 3 ∷ 12 ∷ 4 ∷ 4 ∷ 12 ∷ 4 ∷ []
  -- low delay by rate, the fixed index, the target
  pub rate : firsts
      (set job 0 0 ∷ set (index 1 job) 0 0 ∷ low 1 ∷ index 255 job ∷ index 256 job ∷ target 1073741824 job ∷ target 1073741825 job ∷ [])
      ≡ 5 ∷ 5 ∷ 12 ∷ 12 ∷ 6 ∷ 12 ∷ 7 ∷ []
  -- format, mode, sides, excursions, a colour without samples, a field without rows
  pub frame-kept : firsts
      (format 2 frame ∷ format 3 frame ∷ mode 1 frame ∷ mode 2 frame ∷ wide 65535 job ∷ wide 65536 job ∷ wide 0 job ∷ high 65535 job ∷ high 65536 job
      ∷ high 0 job ∷ excursion 65535 job ∷ set job 15 65536 ∷ set job 15 0 ∷ set job 16 65536 ∷ set job 16 0 ∷ format 1 job ∷ mode 1 job ∷ [])
      ≡ 12 ∷ 8 ∷ 12 ∷ 8 ∷ 12 ∷ 8 ∷ 8 ∷ 12 ∷ 8 ∷ 8 ∷ 12 ∷ 8 ∷ 8 ∷ 8 ∷ 8 ∷ 8 ∷ 8 ∷ []
  -- a custom matrix by its values, the default by its depth
  pub matrix : map (λ m. first 0 (planes [] [] []) m (custom job)) ((255 ∷ []) ∷ (256 ∷ []) ∷ [] ∷ (0 ∷ 0 ∷ []) ∷ []) ≡ 12 ∷ 9 ∷ 9 ∷ 9 ∷ []
  pub default : firsts (depth 4 job ∷ depth 5 job ∷ []) ≡ 12 ∷ 10 ∷ []
  -- the padded area, each plane, the work slice
  pub area : firsts (wide 8192 (high 8192 job) ∷ wide 8193 (high 8192 job) ∷ []) ≡ 12 ∷ 11 ∷ []
  pub lent : first 9 (luma (128 ∷ [])) [] job ∷ first 8 (luma (128 ∷ [])) [] job ∷ first 9 (planes [] (128 ∷ []) (128 ∷ [])) [] job
      ∷ first 9 (planes (128 ∷ []) [] (128 ∷ [])) [] job ∷ first 9 (planes (128 ∷ []) (128 ∷ []) []) [] job ∷ []
      ≡ 0 ∷ 13 ∷ 12 ∷ 12 ∷ 12 ∷ []
  -- an output as long as the unit and one byte shorter, the longest unit and one byte more
  pub coding : coding_refusal 21 21 ∷ coding_refusal 20 21 ∷ coding_refusal 4294967296 4294967295 ∷ coding_refusal 4294967296 4294967296 ∷ []
      ≡ 0 ∷ 14 ∷ 0 ∷ 14 ∷ []
  -- two rules that can be broken together, one behind the other: the first one counts
  pub order : firsts
      (wavelet 7 (depth 9 job) ∷ depth 9 (across 0 job) ∷ across 0 (scaler 0 job) ∷ scaler 0 (set job 0 0) ∷ set (index 256 job) 0 0
      ∷ index 256 (wide 0 job) ∷ target 1073741825 (wide 0 job) ∷ wide 0 (custom job) ∷ custom (wide 8193 (high 8192 job))
      ∷ depth 5 (wide 8193 (high 8192 job)) ∷ wide 8193 (high 8192 job) ∷ job ∷ [])
      ≡ 1 ∷ 2 ∷ 3 ∷ 4 ∷ 5 ∷ 6 ∷ 7 ∷ 8 ∷ 9 ∷ 10 ∷ 11 ∷ 12 ∷ []

pub record WrongRows : Type 0 where
  pub legall-row :
      Becomes 1 (0 ∷ 1 ∷ []) (1 ∷ 1 ∷ [])
      -- clamp_end clamps to the last place of the parity that is updated
      ((0 ∷ 0 ∷ [])
      -- no_rounding does not round
      ∷ (0 ∷ 1 ∷ [])
      ∷ [])
  pub fidelity-row :
      Becomes 5 (0 ∷ 2 ∷ []) (2 ∷ 1 ∷ [])
      -- tap_sign has another sign of one tap
      ((3 ∷ 0 ∷ [])
      ∷ [])
  -- the row call's refusals, and the row of 65,536 numbers, which is not refused
  pub row_numbers_lem : answer_of 6 [] ∷ answer_of 7 [] ∷ answer_of 1 (replicate 65537 (pos 0)) ∷ answer_of 7 (replicate 65537 (pos 0)) ∷ [] ≡ 0 ∷ 1 ∷ 15 ∷ 1 ∷ []
  pub longest_row :
      GivesList (answer_of 1 (replicate 65536 (pos 0)) ∷ []) (0 ∷ [])
      -- longest_refused refuses a row of 65,536 numbers
      ((15 ∷ [])
      ∷ [])

pub wrong_encoders : WrongEncoders
unfolding settings_of outcome_of refusal_of work_needed coded_of any_lost is_cut cut_count unit_of head_bits length_of flatten plan_of scaler_of numerator_of major_version matrix_values carried_matrix extended_bits codes_u parameter_bits parameter_bytes luma_size colour_size intlog2 depths_of padded_size region coefficients_of bands_of predict first_row rest_row next_row next_rows scan_rows scan trimmed trimmed_cost fit_prefix halve upward elect numbers_from rebuilt numbers_ld left_ld slice_bytes numerator alternated low_bits kept_runs low_index low_plan low_slices component_bits high_bits slice_size share_of high_numbers high_index index_by high_plan largest_need scaler_from lit pack log2_in log2 interleaved code_u code_s codes zero_filled factor cap quant_factor quant_offset forward_by forward_quant inverse_by inverse_quant table_d2 table_d4 default_matrix within dot delta lifted analysis legall rows_by dwt_h dwt depth_limit evens odds haar0
wrong_encoders = record {
  one_sample_lem = record { right = refl; apart = refl };
  longer_output = record { right = refl; apart = refl };
  short_output = record { right = refl; apart = refl };
  two-slices = record { right = refl; apart = refl };
  trimmed_share = record { right = refl; apart = refl };
  two-zeros = record { right = refl; apart = refl };
  fixed_index = record { right = refl; apart = refl };
  one_shift = record { right = refl; apart = refl };
  final_scaler = record { right = refl; apart = refl };
  chosen_anew = record { right = refl; apart = refl };
  longer_work = record { right = refl; apart = refl };
  two_parts = record { right = refl; apart = refl };
  first-cut = record { right = refl; apart = refl };
  last_fits = record { right = refl; apart = refl };
  not_the_least = record { right = refl; apart = refl };
  numerator_twice = record { right = refl; apart = refl };
  mean_floors = record { right = refl; apart = refl };
  colours_alternate = record { right = refl; apart = refl };
  one_shift_low = record { right = refl; apart = refl };
  setting_scaler = record { right = refl; apart = refl };
  first_shift = record { right = refl; apart = refl };
  rows-first = record { right = refl; apart = refl };
  height_halved = record { right = refl; apart = refl };
  short_work_lem = refl;
  numbers = record { right = refl; apart = refl };
}

pub wrong_rows : WrongRows
unfolding analysis legall fidelity within dot delta lifted answer_of wrap
wrong_rows = record {
  legall-row = record { right = refl; apart = refl };
  fidelity-row = record { right = refl; apart = refl };
  row_numbers_lem = refl;
  longest_row = record { right = refl; apart = refl };
}

pub call_numbers : Numbers
unfolding settings_of refusal_of work_needed depth_limit luma_size colour_size padded_size default_matrix table_d2 table_d4 table_d7
call_numbers = record {
  shape = refl;
  rate = refl;
  frame-kept = refl;
  matrix = refl;
  default = refl;
  area = refl;
  lent = refl;
  coding = refl;
  order = refl;
}
