-- The header's slice parameters as the definitions have them, its parts, and what writing it asks.
use Rattle.std.specs.Prelude.{not, cond, List, [], ◌++◌, ℕ, ◌≤◌, eqb, leb, length}
use Rattle.codewords.specs.Bit.{Bits, lit}
use Rattle.codewords.specs.CodeWord.{code_u}
use Rattle.unit.specs.declared.Settings.{Settings}
use Rattle.unit.specs.declared.PictureKind.{PictureKind}
use Rattle.unit.specs.Slices.{slice_count}
use Rattle.unit.specs.Parameters.{flagged, Parameters, SliceParameters, low_delay, high_quality, overhead}
use Rattle.unit.specs.LowDelay.{numerator_by}
use Rattle.unit.specs.Unit.{major_version, grid_of, target_of, low_parameters, parse_code, parameters_by}
use Rattle.picture.specs.declared.front.header.SliceParameters as code
use Rattle.picture.specs.declared.front.header.SliceParameters.TheVariants.{LowDelay, HighQuality}
use Rattle.picture.specs.declared.front.matrix.Carried.{Carried}
use Rattle.picture.specs.declared.front.matrix.Call.{Call}
use Rattle.unit.specs.Code.Valid.{Shaped}
use Rattle.picture.specs.Code.Matrix.{lent_in, Carries}

-- ---- the parts
-- 12.4.4, if the version has it
unfoldable pub extension_of : Settings → Bits
extension_of s =
    cond (leb 3 (major_version s))
    (flagged (not (eqb s.wavelet_index_ho s.wavelet_index)) s.wavelet_index_ho ++ flagged (not (eqb s.dwt_depth_ho 0)) s.dwt_depth_ho)
    []

-- what stands before the slice parameters
unfoldable pub shape_bits : Settings → Bits
shape_bits s = (code_u s.wavelet_index ++ code_u s.dwt_depth) ++ (extension_of s ++ (code_u s.slices_x ++ code_u s.slices_y))

-- parse information
unfoldable pub info_of : PictureKind → ℕ → ℕ → Bits
info_of k n prev = lit 32 0x42424344 ++ (lit 8 (parse_code k) ++ (lit 32 n ++ lit 32 prev))

-- the numerator where the parameters that are taken off the target have numerator n
abbrev pub numerator_after : Settings → List ℕ → ℕ → ℕ
numerator_after s m n = numerator_by (major_version s) (target_of s.rate) (slice_count (grid_of s)) (low_parameters s m) n

abbrev pub slice_in : code.SliceParameters → SliceParameters
slice_in (LowDelay n d) = low_delay n d
slice_in (HighQuality p c) = high_quality p c

-- the matrix of a call, and its shape
pub record CanCarry (s : Settings) (c : Carried) : Type 0 where
  pub carries : Carries s c
  pub shape : Shaped s

-- the parameters of a call with slice parameters p
abbrev pub parameters_in : Call → code.SliceParameters → Parameters
parameters_in k p = parameters_by k.settings (lent_in k.matrix) (slice_in p)

-- how many bytes stand before the first slice
abbrev pub overhead_in : Call → code.SliceParameters → ℕ
overhead_in k p = overhead (major_version k.settings) (parameters_in k p)

-- where the slices begin with scaler c
abbrev pub slices_from : Call → ℕ → ℕ
slices_from k c = overhead_in k (HighQuality k.settings.slice_prefix_bytes c)

-- the head fits the output
abbrev pub HeadRoom : Call → code.SliceParameters → List ℕ → Type 0
HeadRoom k p out = overhead_in k p ≤ length out
