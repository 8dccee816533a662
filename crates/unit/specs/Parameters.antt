-- The transform parameters and their bits: ST 2042-1, 12.4.
use Rattle.std.specs.Prelude.{Bool, true, false, not, cond, List, [], ◌∷◌, ◌++◌, ℕ, ◌+◌, eqb, leb, length}
use Rattle.std.proofs.Math.Option.{Option, none, some}
use Rattle.laws.specs.Ceiling.{ceiling}
use Rattle.codewords.specs.Bit.{Bits, zero_bits}
use Rattle.codewords.specs.Bytes.{padding}
use Rattle.codewords.specs.CodeWord.{code_u}

-- 12.4.5.2: what slices are sized by
pub data SliceParameters : Type 0 where
  low_delay : (numerator denominator : ℕ) → SliceParameters
  high_quality : (prefix scaler : ℕ) → SliceParameters

pub record Parameters : Type 0 where
  pub wavelet : ℕ
  pub depth : ℕ
  pub wavelet_ho : ℕ
  pub depth_ho : ℕ
  pub across : ℕ
  pub down : ℕ
  pub slice_parameters : SliceParameters
  -- a custom matrix, if one is carried
  pub matrix : Option (List ℕ)

-- a flag, and the number if it is set
abbrev pub flagged : Bool → ℕ → Bits
flagged true n = true ∷ code_u n
flagged false n = false ∷ []

-- 12.4.4: the extended parameters, from version 3 on
unfoldable pub extended_bits : Parameters → Bits
extended_bits t = flagged (not (eqb t.wavelet_ho t.wavelet)) t.wavelet_ho ++ flagged (not (eqb t.depth_ho 0)) t.depth_ho

-- 12.4.5.2: the slice parameters
abbrev pub slice_parameter_bits : SliceParameters → Bits
slice_parameter_bits (low_delay n d) = code_u n ++ code_u d
slice_parameter_bits (high_quality p c) = code_u p ++ code_u c

-- unsigned code words, one after the other
unfoldable pub codes_u : List ℕ → Bits
codes_u [] = []
codes_u (v ∷ vs) = code_u v ++ codes_u vs

-- 12.4.5.3: a flag, and a custom matrix if one is carried
abbrev pub matrix_bits : Option (List ℕ) → Bits
matrix_bits none = false ∷ []
matrix_bits (some vs) = true ∷ codes_u vs

-- 12.4.1: the transform parameters; version is the major version
unfoldable pub parameter_bits : ℕ → Parameters → Bits
parameter_bits version t =
    code_u t.wavelet ++ (code_u t.depth ++ (cond (leb 3 version) (extended_bits t) [] ++ (code_u t.across ++ (code_u t.down
    ++ (slice_parameter_bits t.slice_parameters ++ matrix_bits t.matrix)))))

-- zeros that fill the last byte of n bits
abbrev pub fill : ℕ → Bits
fill n = zero_bits (padding n)

-- how many bytes the transform parameters take
unfoldable pub parameter_bytes : ℕ → Parameters → ℕ
parameter_bytes version t = ceiling (length (parameter_bits version t)) 8

-- the bytes of a unit before its slices: parse information and picture number, 17 bytes, and the transform parameters
abbrev pub overhead : ℕ → Parameters → ℕ
overhead version t = 17 + parameter_bytes version t
