-- The unit that a call writes: document 01, "Slices and unit".
use Rattle.std.specs.Prelude.{Bool, true, false, not, ◌||◌, ℕ, ◌+◌, ◌*◌, ◌-◌, eqb, length}
use mathlib.Core.List.{List, ◌++◌, map, flatten}
use Rattle.codewords.specs.Bit.{Bits, lit}
use Rattle.codewords.specs.Bytes.{to_bytes}
use Rattle.wavelet.specs.Planes.{Band}
use Rattle.unit.specs.declared.Settings.{Settings}
use Rattle.unit.specs.declared.PictureKind.{PictureKind}
use Rattle.unit.specs.declared.PictureKind.TheVariants.{LowDelay, HighQuality}
use Rattle.unit.specs.declared.RateControl.{RateControl}
use Rattle.unit.specs.declared.RateControl.TheVariants.{Lossless, FixedQuantIndex, PictureBytes}
use Rattle.unit.specs.Three.{Three}
use Rattle.unit.specs.Sizes.{luma_size}
use Rattle.unit.specs.Slices.{Grid, slice_count}
use Rattle.unit.specs.Subbands.{padded_area}
use Rattle.unit.specs.Matrix.{matrix_values, carried_matrix}
use Rattle.unit.specs.Parameters.{SliceParameters, low_delay, high_quality, Parameters, parameter_bits, overhead, fill}
use Rattle.unit.specs.Coefficients.{coefficients_of}
use Rattle.unit.specs.Plan.{SlicePlan, Plan}
use Rattle.unit.specs.LowDelay.{numerator, low_slices, zero_planes}
use Rattle.unit.specs.HighQuality.{high_slices, scaler_from}

-- document 01's asymmetric: the wavelet indices differ, or the horizontal-only depth is not 0
abbrev pub asymmetric : Settings → Bool
asymmetric s = not (eqb s.wavelet_index s.wavelet_index_ho) || not (eqb s.dwt_depth_ho 0)

abbrev pub version_by : Bool → PictureKind → ℕ
version_by true k = 3
version_by false HighQuality = 2
version_by false LowDelay = 1

-- major_version: 3 if extended or asymmetric, else 2 for high quality, else 1
unfoldable pub major_version : Settings → ℕ
major_version s = version_by (s.extended || asymmetric s) s.kind

-- the slices across and down
abbrev pub grid_of : Settings → Grid
grid_of s = record { down = s.slices_y; across = s.slices_x }

-- the transform parameters of a call, by its slice parameters; m is the lent matrix
abbrev pub parameters_by : Settings → List ℕ → SliceParameters → Parameters
parameters_by s m p = record {
  wavelet = s.wavelet_index;
  depth = s.dwt_depth;
  wavelet_ho = s.wavelet_index_ho;
  depth_ho = s.dwt_depth_ho;
  across = s.slices_x;
  down = s.slices_y;
  slice_parameters = p;
  matrix = carried_matrix s m;
}

-- the byte target: a picture's bytes, 0 for other rates
abbrev pub target_of : RateControl → ℕ
target_of Lossless = 0
target_of (FixedQuantIndex q) = 0
target_of (PictureBytes n) = n

module _ (s : Settings) (m : List ℕ) where
  abbrev pub low_parameters : ℕ → Parameters
  low_parameters n = parameters_by s m (low_delay n (slice_count (grid_of s)))

  abbrev pub high_parameters : ℕ → Parameters
  high_parameters c = parameters_by s m (high_quality s.slice_prefix_bytes c)

  -- the low-delay numerator
  unfoldable pub numerator_of : ℕ
  numerator_of = numerator (major_version s) (target_of s.rate) (slice_count (grid_of s)) low_parameters

  -- the bytes for all high-quality slices: the target less overhead, or 0 below that
  abbrev pub high_bytes : ℕ → ℕ
  high_bytes c = target_of s.rate - (overhead (major_version s) (high_parameters c))

  abbrev pub high_slices_of : Three (List Band) → ℕ → List SlicePlan
  high_slices_of b c = high_slices (grid_of s) (matrix_values s m) b s.slice_prefix_bytes s.rate c (high_bytes c)

  -- the final scaler; a component needs at most 16 bytes for each of its numbers
  unfoldable pub scaler_of : Three (List Band) → ℕ
  scaler_of b = scaler_from (high_slices_of b) (16 * padded_area s (luma_size s)) s.slice_size_scaler

  -- the plan of a picture whose coefficients are b
  abbrev pub plan_by : PictureKind → Three (List Band) → Plan
  plan_by LowDelay b =
      let n = numerator_of in
      record { parameters = low_parameters n; slices = low_slices (grid_of s) (matrix_values s m) b n zero_planes 0 (slice_count (grid_of s)) }
  plan_by HighQuality b = let c = scaler_of b in record { parameters = high_parameters c; slices = high_slices_of b c }

-- the plan of a call: s are the settings, m the lent matrix, p the planes
unfoldable pub plan_of : Settings → List ℕ → Three (List ℕ) → Plan
plan_of s m p = let b = coefficients_of s p in plan_by s m s.kind b

-- the parse code of a picture of this kind
abbrev pub parse_code : PictureKind → ℕ
parse_code LowDelay = 0xC8
parse_code HighQuality = 0xE8

-- the bytes of the slices, one run for each
abbrev pub slice_runs : List SlicePlan → List (List ℕ)
slice_runs ss = map (λ p. to_bytes p.bits) ss

-- parse information (the next length is the unit's), picture number and transform parameters
unfoldable pub head_bits : Settings → ℕ → Parameters → Bits
head_bits s n t =
    let b = parameter_bits (major_version s) t in
    lit 32 0x42424344 ++ (lit 8 (parse_code s.kind) ++ (lit 32 n ++ (lit 32 s.prev_unit_len ++ (lit 32 s.picture_number
    ++ (b ++ fill (length b))))))

-- the length of the unit
unfoldable pub length_of : Settings → Plan → ℕ
length_of s a = overhead (major_version s) a.parameters + length (flatten (slice_runs a.slices))

-- the unit: its head, and the slices' bytes
unfoldable pub unit_of : Settings → Plan → List ℕ
unit_of s a = let rs = flatten (slice_runs a.slices) in to_bytes (head_bits s (length_of s a) a.parameters) ++ rs
