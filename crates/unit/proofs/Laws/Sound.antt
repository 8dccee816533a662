-- What the reading of a unit needs of the plan that it was made of.
use Rattle.std.specs.Prelude.{◌≡◌, List, [], ◌∷◌, ℕ, suc, ◌^◌, ◌≤◌, ◌<◌, length}
use Rattle.std.proofs.Math.Option.{Option, none, some}
use Rattle.codewords.specs.Laws.Byte.{Full}
use Rattle.codewords.specs.Laws.Read.{Reads}
use Rattle.quantiser.specs.AnnexD.{default_matrix}
use Rattle.unit.specs.declared.Settings.{Settings}
use Rattle.unit.specs.declared.PictureKind.{PictureKind}
use Rattle.unit.specs.declared.PictureKind.TheVariants.{LowDelay, HighQuality}
use Rattle.unit.specs.Three.{Three}
use Rattle.unit.specs.Sizes.{Size, sizes_of}
use Rattle.unit.specs.Subbands.{subband_count}
use Rattle.unit.specs.Slices.{slice_count}
use Rattle.unit.specs.Parameters.{SliceParameters, low_delay, high_quality, Parameters}
use Rattle.unit.specs.Plan.{SlicePlan, Plan}
use Rattle.unit.specs.Unit.{major_version, length_of}
use Rattle.unit.specs.Reader.{read_slice_by, grid_in, counts_in}

-- slice parameters of the kind, with values that the standard allows
abbrev pub SliceFits : PictureKind → SliceParameters → Type 0
SliceFits LowDelay (low_delay n d) = (1 ≤ d) × (d ≤ n)
SliceFits LowDelay (high_quality p c) = ⊥
SliceFits HighQuality (low_delay n d) = ⊥
SliceFits HighQuality (high_quality p c) = 1 ≤ c

abbrev pub CarriedFits : ℕ → Option (List ℕ) → Option (List ℕ) → Type 0
CarriedFits n (some vs) d = length vs ≡ n
CarriedFits n none none = ⊥
CarriedFits n none (some vs) = Unit {0}

-- parameters that a unit of this version and kind can carry
pub record Legal (version : ℕ) (kind : PictureKind) (t : Parameters) : Type 0 where
  pub wavelet : t.wavelet ≤ 6
  pub wavelet-ho : t.wavelet_ho ≤ 6
  pub plain : version < 3 → (t.wavelet_ho ≡ t.wavelet) × (t.depth_ho ≡ 0)
  pub across : 1 ≤ t.across
  pub down : 1 ≤ t.down
  pub slice_parameters : SliceFits kind t.slice_parameters
  pub matrix : CarriedFits (subband_count t.depth_ho t.depth) t.matrix (default_matrix t.wavelet t.wavelet_ho t.depth t.depth_ho)

-- slice k: whole bytes, from which its index and what is kept of its numbers are read
pub record SoundSlice (z : Three Size) (t : Parameters) (k : ℕ) (a : SlicePlan) : Type 0 where
  pub full : Full a.bits
  pub reads : Reads (read_slice_by t.slice_parameters k (counts_in z t k)) a.bits (record { index = a.index; numbers = a.kept })

-- the slices from slice k on
abbrev pub SoundSlices : Three Size → Parameters → ℕ → List SlicePlan → Type 0
SoundSlices z t k [] = Unit {0}
SoundSlices z t k (a ∷ more) = SoundSlice z t k a × SoundSlices z t (suc k) more

pub record Sound (s : Settings) (a : Plan) : Type 0 where
  pub number : s.picture_number < 2 ^ 32
  pub previous : s.prev_unit_len < 2 ^ 32
  pub long : length_of s a < 2 ^ 32
  pub legal : Legal (major_version s) s.kind a.parameters
  pub many : length a.slices ≡ slice_count (grid_in a.parameters)
  pub slices : SoundSlices (sizes_of s) a.parameters 0 a.slices
