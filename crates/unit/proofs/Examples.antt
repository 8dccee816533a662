-- Document 01's table of marked examples, proved together.
use Rattle.std.specs.Prelude.{◌≡◌, refl, Bool, not, ℕ, ◌/◌, ◌≤◌, eqb, ℤ, length}
use Rattle.std.proofs.Common.{ap, ◌∙◌, arith, lit<}
use Rattle.std.proofs.Math.Bool.{and-false}
use mathlib.Core.List.{List, [], ◌∷◌, append-nil, flatten}
use Rattle.laws.specs.Wrap.{wrap}
use Rattle.codewords.specs.Bit.{lit}
use Rattle.codewords.specs.Bytes.{to_bytes}
use Rattle.codewords.specs.Laws.Byte.{length-to_bytes}
use Rattle.codewords.specs.CodeWord.{log2_in, log2, interleaved, code_u, code_s}
use Rattle.quantiser.specs.Standard.{factor}
use Rattle.quantiser.specs.Quant.{cap, quant_factor, quant_offset, forward_by, forward_quant, inverse_by, inverse_quant}
use Rattle.wavelet.specs.Lifting.{Stage, within, dot, delta, lifted, analysis}
use Rattle.wavelet.specs.Planes.{Band}
use Rattle.wavelet.specs.Filters.{legall, filter_of}
use Rattle.unit.specs.declared.Settings.{Settings}
use Rattle.unit.specs.Matrix.{matrix_values, carried_matrix}
use Rattle.unit.specs.Parameters.{extended_bits, parameter_bits, parameter_bytes}
use Rattle.unit.specs.Unit.{major_version, grid_of, numerator_of, plan_of, length_of}
use Rattle.unit.specs.Coefficients.{coefficients_of}
use Rattle.unit.proofs.Laws.LowDelay.{runs_fit, length-low}
use Rattle.unit.specs.Three.{Three}
use Rattle.unit.specs.Slices.{Grid}
use Rattle.unit.specs.LowDelay.{slice_bytes, numerator, room_of, alternated, low_bits, kept_runs, low_numbers, low_index, low_plan_of, low_plan, low_slices, zero_planes}
use Rattle.unit.specs.Examples.{one_slice, MarkedExamples}

-- ---- a row of one number, by any stages
one-stage : (wr : ℤ → ℤ) (st : Stage) (plus : Bool) (z : ℤ) → lifted wr st plus (length (z ∷ []) / 2) (z ∷ []) ≡ z ∷ []
unfolding lifted
one-stage wr st plus z = rw (and-false (eqb 0 st.to))

one_number : (wr : ℤ → ℤ) (ss : List Stage) (z : ℤ) → analysis wr ss (z ∷ []) ≡ z ∷ []
unfolding analysis
one_number wr [] z = refl
one_number wr (st ∷ ss) z = rw (one_number wr ss z) (one-stage wr st (not st.adds) z)

-- a low-delay slice takes its n bytes, whatever its numbers are
low_bytes : (g : Grid) (m : List ℕ) (b : Three (List Band)) (n q : ℕ) (z : Three (List ℤ)) → 1 ≤ n → length (to_bytes (low_plan_of g m b n q z).bits) ≡ n
low_bytes g m b n q z some =
    let w = kept_runs (room_of n) z.y (alternated z.c1 z.c2) in
    length-to_bytes (low_bits n q w.luma w.colour)
    ∙ omega (arith, length-low n q w.luma w.colour (runs_fit (room_of n) z.y (alternated z.c1 z.c2)) some)

-- the unit's length, for a picture of any size and any planes
one_slice_lem : (r : Settings) (m : List ℕ) (p : Three (List ℕ)) → length_of (one_slice r) (plan_of (one_slice r) m p) ≡ 52
unfolding one_slice length_of plan_of flatten low_slices low_plan numerator_of numerator major_version carried_matrix parameter_bytes parameter_bits extended_bits log2_in log2 lit interleaved code_u slice_bytes
one_slice_lem r m p =
    let g = grid_of (one_slice r) in
    let v = matrix_values (one_slice r) m in
    let b = coefficients_of (one_slice r) p in
    let q = low_index g v b 31 zero_planes 0 in
    let z = low_numbers g v b zero_planes 0 q in
    omega (arith, low_bytes g v b 31 q z (omega arith), ap length (append-nil (to_bytes (low_plan_of g v b 31 q z).bits)))

pub marked_examples : MarkedExamples
unfolding factor cap quant_factor quant_offset forward_by forward_quant inverse_by inverse_quant log2_in log2 lit interleaved code_u code_s within dot delta lifted analysis legall wrap slice_bytes one_slice numerator_of numerator major_version carried_matrix parameter_bytes parameter_bits extended_bits
marked_examples = record {
  factors = refl;
  factor_243 = lit< tt;
  factor_244 = refl;
  offsets = refl;
  minus_7 = refl;
  minus_4 = refl;
  plus_5 = refl;
  plus_2 = refl;
  least = refl;
  code_lengths = refl;
  row-of-two = refl;
  row-of-two-exact = refl;
  row-of-one = λ wr i z. one_number wr (filter_of i).stages z;
  slice_bytes_lem = refl;
  mean-of-three = refl;
  slice_0 = (refl, refl);
  slice_1 = (refl, refl);
  one_slice_numerator = λ r m. refl;
  one_slice_length = one_slice_lem;
}
