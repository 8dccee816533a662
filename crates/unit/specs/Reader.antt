-- How a unit is read: ST 2042-1, and document 01, "How demand 3 reads a unit". The reader is fed the unit, the
-- component sizes, the sample depths and the major version. With the encoder's definitions it shares rules of the
-- standard alone: the form of the parameters and Annex D, the subbands' sizes, the slices' windows and bytes, the bits
-- of the luma length, the order of the colours, the prediction, the factor without caps, the filters and the offset.
use Rattle.std.specs.Prelude.{Bool, true, false, ◌||◌, ◌&&◌, List, [], ◌∷◌, ℕ, zero, suc, ◌+◌, ◌*◌, ◌-◌, ◌/◌, eqb, leb, ℤ, pos, ◌+ℤ◌, length, get_or, drop}
use Rattle.std.proofs.Math.Option.{Option, none, some}
use Rattle.codewords.specs.Bytes.{from_bytes}
use Rattle.codewords.specs.Read.{Read, got, stop, Parser, give, such, ◌⊳◌, read_nbits, read_bool, read_uint, byte_align, read_bits, sintsb}
use Rattle.laws.specs.Plane.{Plane}
use Rattle.quantiser.specs.Standard.{inverse}
use Rattle.quantiser.specs.AnnexD.{default_matrix}
use Rattle.wavelet.specs.Planes.{Band, idwt}
use Rattle.unit.specs.declared.PictureKind.{PictureKind}
use Rattle.unit.specs.declared.PictureKind.TheVariants.{LowDelay, HighQuality}
use Rattle.unit.specs.Three.{Three}
use Rattle.unit.specs.Sizes.{Size, offset_of}
use Rattle.unit.specs.Subbands.{subband_sizes, subband_count}
use Rattle.unit.specs.Slices.{Grid, slice_count, part_size, slice_of, place_in}
use Rattle.unit.specs.Parameters.{SliceParameters, low_delay, high_quality, Parameters}
use Rattle.unit.specs.LowDelay.{slice_bytes, length_bits, room_of, evens, odds}
use Rattle.unit.specs.Predict.{scan}

-- ---- what is read
pub record SliceRead : Type 0 where
  -- where the slice begins, in bytes from the unit's start, and how many bytes it takes
  pub offset : ℕ
  pub byte_count : ℕ
  pub index : ℕ
  pub numbers : Three (List ℤ)

pub record Reading : Type 0 where
  pub kind : PictureKind
  pub number : ℕ
  pub parameters : Parameters
  pub slices : List SliceRead

-- ---- transform parameters, 12.4
-- a number that is there if a flag is set
unfoldable pub read_flagged : (ℕ → Bool) → ℕ → Parser ℕ
read_flagged test n = read_bool ⊳ λ f. elim f [ true ↦ such read_uint test | false ↦ give n ]

abbrev pub any_number : ℕ → Bool
any_number n = true

-- 12.4.4: the horizontal-only wavelet and depth
pub record Extended : Type 0 where
  pub wavelet : ℕ
  pub depth : ℕ

unfoldable pub read_extended : ℕ → ℕ → Parser Extended
read_extended version w =
    elim (leb 3 version) [
      | true ↦ read_flagged (λ n. leb n 6) w ⊳ λ h. read_flagged any_number 0 ⊳ λ k. give (record { wavelet = h; depth = k })
      | false ↦ give (record { wavelet = w; depth = 0 })
    ]

-- 12.4.5.2: the slice parameters
abbrev pub read_slice_parameters : PictureKind → Parser SliceParameters
read_slice_parameters LowDelay = read_uint ⊳ λ n. such read_uint (λ d. leb 1 d && leb d n) ⊳ λ d. give (low_delay n d)
read_slice_parameters HighQuality = read_uint ⊳ λ p. such read_uint (leb 1) ⊳ λ c. give (high_quality p c)

-- n unsigned numbers
unfoldable pub read_uints : ℕ → Parser (List ℕ)
read_uints zero = give []
read_uints (suc n) = read_uint ⊳ λ v. read_uints n ⊳ λ vs. give (v ∷ vs)

abbrev pub is_some : {A : Type 0} → Option A → Bool
is_some none = false
is_some (some x) = true

-- 12.4.5.3: n values, or the default, which must be there
unfoldable pub read_matrix : Bool → ℕ → Parser (Option (List ℕ))
read_matrix default n =
    such read_bool (λ f. f || default) ⊳ λ f. elim f [ true ↦ read_uints n ⊳ λ vs. give (some vs) | false ↦ give none ]

-- 12.4.1: the transform parameters
unfoldable pub read_parameters : PictureKind → ℕ → Parser Parameters
read_parameters kind version =
    such read_uint (λ n. leb n 6) ⊳ λ w.
    read_uint ⊳ λ d.
    read_extended version w ⊳ λ e.
    such read_uint (leb 1) ⊳ λ a.
    such read_uint (leb 1) ⊳ λ b.
    read_slice_parameters kind ⊳ λ p.
    read_matrix (is_some (default_matrix w e.wavelet d e.depth)) (subband_count e.depth d) ⊳ λ m.
    give (record { wavelet = w; depth = d; wavelet_ho = e.wavelet; depth_ho = e.depth; across = a; down = b; slice_parameters = p; matrix = m })

-- ---- slices, 13.5
abbrev pub grid_in : Parameters → Grid
grid_in t = record { down = t.down; across = t.across }

-- how many numbers slice k has of subbands of these sizes
unfoldable pub number_count : Grid → List Size → ℕ → ℕ
number_count g [] k = 0
number_count g (z ∷ zs) k = part_size g z k + number_count g zs k

pub record SliceNumbers : Type 0 where
  pub index : ℕ
  pub numbers : Three (List ℤ)

-- 13.5.3: n bytes; luma in its length, the colours in the bits left
unfoldable pub read_low : ℕ → Three ℕ → Parser SliceNumbers
read_low n c =
    read_nbits 7 ⊳ λ q.
    such (read_nbits (length_bits n)) (λ l. leb l (room_of n)) ⊳ λ l.
    read_bits l ⊳ λ a.
    read_bits (room_of n - l) ⊳ λ b.
    give (let z = sintsb (c.c1 + c.c2) b in record { index = q; numbers = record { y = sintsb c.y a; c1 = evens z; c2 = odds z } })

-- 13.5.4: a byte that counts scalers, and that many bytes
unfoldable pub read_component : ℕ → ℕ → Parser (List ℤ)
read_component scaler n = read_nbits 8 ⊳ λ l. read_bits (8 * (l * scaler)) ⊳ λ b. give (sintsb n b)

unfoldable pub read_high : ℕ → ℕ → Three ℕ → Parser SliceNumbers
read_high prefix scaler c =
    read_bits (8 * prefix) ⊳ λ skipped.
    read_nbits 8 ⊳ λ q.
    read_component scaler c.y ⊳ λ y.
    read_component scaler c.c1 ⊳ λ u.
    read_component scaler c.c2 ⊳ λ v.
    give (record { index = q; numbers = record { y = y; c1 = u; c2 = v } })

-- slice k, which has c numbers of each component
abbrev pub read_slice_by : SliceParameters → ℕ → Three ℕ → Parser SliceNumbers
read_slice_by (low_delay n d) k c = read_low (slice_bytes n d k) c
read_slice_by (high_quality p s) k c = read_high p s c

-- the bits that are left
unfoldable pub bits_left : Parser ℕ
bits_left s = got (length s) s

-- slice k of a unit of so many bits, with its place and its bytes
unfoldable pub read_slice : ℕ → SliceParameters → ℕ → Three ℕ → Parser SliceRead
read_slice bits p k c =
    bits_left ⊳ λ a.
    read_slice_by p k c ⊳ λ r.
    bits_left ⊳ λ b.
    give (record { offset = (bits - a) / 8; byte_count = (a - b) / 8; index = r.index; numbers = r.numbers })

unfoldable pub read_each : {A : Type 0} → (ℕ → Parser A) → ℕ → ℕ → Parser (List A)
read_each p k zero = give []
read_each p k (suc n) = p k ⊳ λ x. read_each p (suc k) n ⊳ λ xs. give (x ∷ xs)

-- the sizes of the subbands of the components
abbrev pub band_sizes_in : Three Size → Parameters → Three (List Size)
band_sizes_in z t = record {
  y = subband_sizes t.depth_ho t.depth z.y;
  c1 = subband_sizes t.depth_ho t.depth z.c1;
  c2 = subband_sizes t.depth_ho t.depth z.c2;
}

abbrev pub counts_in : Three Size → Parameters → ℕ → Three ℕ
counts_in z t k = let b = band_sizes_in z t in record {
  y = number_count (grid_in t) b.y k;
  c1 = number_count (grid_in t) b.c1 k;
  c2 = number_count (grid_in t) b.c2 k;
}

-- ---- the unit, 10.5.1 and 12.1
abbrev pub kind_of : ℕ → PictureKind
kind_of c = elim (eqb c 0xC8) [ true ↦ LowDelay | false ↦ HighQuality ]

-- no bit is left
unfoldable pub read_end : Parser (Unit {0})
read_end [] = got tt []
read_end (b ∷ s) = stop (b ∷ s)

-- a picture unit of so many bytes: parse information, picture number, transform parameters, slices
unfoldable pub read_picture : Three Size → ℕ → ℕ → Parser Reading
read_picture z version bytes =
    such (read_nbits 32) (eqb 0x42424344) ⊳ λ prefix.
    such (read_nbits 8) (λ c. eqb c 0xC8 || eqb c 0xE8) ⊳ λ c.
    such (read_nbits 32) (λ n. eqb n 0 || eqb n bytes) ⊳ λ next.
    read_nbits 32 ⊳ λ previous.
    read_nbits 32 ⊳ λ number.
    read_parameters (kind_of c) version ⊳ λ t.
    byte_align ⊳ λ aligned.
    read_each (λ k. read_slice (8 * bytes) t.slice_parameters k (counts_in z t k)) 0 (slice_count (grid_in t)) ⊳ λ ss.
    read_end ⊳ λ end.
    give (record { kind = kind_of c; number = number; parameters = t; slices = ss })

-- the reading of a unit, by the component sizes and the major version
unfoldable pub read_unit : Three Size → ℕ → List ℕ → Read Reading
read_unit z version bytes = read_picture z version (length bytes) (from_bytes bytes)

-- ---- coefficients, 13.5.5 and 13.5.6
abbrev pub empty_slice : SliceRead
empty_slice = record { offset = 0; byte_count = 0; index = 0; numbers = record { y = []; c1 = []; c2 = [] } }

abbrev pub slice_at : Reading → ℕ → SliceRead
slice_at r k = get_or r.slices k empty_slice

-- the matrix values: those that the unit carries, or Annex D's
abbrev pub values_by : Option (List ℕ) → Option (List ℕ) → List ℕ
values_by (some vs) d = vs
values_by none (some vs) = vs
values_by none none = []

abbrev pub values_in : Parameters → List ℕ
values_in t = values_by t.matrix (default_matrix t.wavelet t.wavelet_ho t.depth t.depth_ho)

-- the numbers of a subband: each from its own slice, at its own place there; s gives the slices' numbers from this
-- subband on
abbrev pub number_plane : Grid → Size → (ℕ → List ℤ) → Plane
number_plane g z s y x = get_or (s (slice_of g z y x)) (place_in g z y x) (pos 0)

module _ (g : Grid) (m : List ℕ) (index : ℕ → ℕ) where
  -- a subband's index at a place: its slice's less the n-th matrix value
  abbrev pub index_at : ℕ → Size → ℕ → ℕ → ℕ
  index_at n z y x = index (slice_of g z y x) - get_or m n 0

  -- 13.3: the values of a subband, each rebuilt at its band's index
  abbrev pub inverse_plane : ℕ → Size → (ℕ → List ℤ) → Plane
  inverse_plane n z s y x = inverse (number_plane g z s y x) (index_at n z y x)

  abbrev pub plain_band : ℕ → Size → (ℕ → List ℤ) → Band
  plain_band n z s = record { high = z.height; wide = z.width; plane = inverse_plane n z s }

  -- the subbands from the n-th on
  unfoldable pub plain_bands : ℕ → List Size → (ℕ → List ℤ) → List Band
  plain_bands n [] s = []
  plain_bands n (z ∷ zs) s = plain_band n z s ∷ plain_bands (suc n) zs (λ k. drop (part_size g z k) (s k))

  -- low delay adds the prediction from rebuilt neighbours to level 0, 13.4
  abbrev pub predicted_band : Size → (ℕ → List ℤ) → Band
  predicted_band z s = record {
    high = z.height;
    wide = z.width;
    plane = scan (λ y x p. p +ℤ inverse_plane 0 z s y x) z.height z.width;
  }

  abbrev pub read_bands_by : PictureKind → List Size → (ℕ → List ℤ) → List Band
  read_bands_by kind [] s = []
  read_bands_by HighQuality (z ∷ zs) s = plain_bands 0 (z ∷ zs) s
  read_bands_by LowDelay (z ∷ zs) s = predicted_band z s ∷ plain_bands 1 zs (λ k. drop (part_size g z k) (s k))

module _ (z : Three Size) (r : Reading) where
  abbrev pub read_bands_of : List Size → (SliceRead → List ℤ) → List Band
  read_bands_of zs part = read_bands_by (grid_in r.parameters) (values_in r.parameters) (λ k. (slice_at r k).index) r.kind zs (λ k. part (slice_at r k))

  -- the coefficients of the components
  unfoldable pub read_bands : Three (List Band)
  read_bands = let b = band_sizes_in z r.parameters in record {
    y = read_bands_of b.y (λ s. s.numbers.y);
    c1 = read_bands_of b.c1 (λ s. s.numbers.c1);
    c2 = read_bands_of b.c2 (λ s. s.numbers.c2);
  }

  -- synthesis, 15.4, and the offset, 15.5: samples before clipping. Rows and columns of the padding are not looked at
  abbrev pub read_samples_of : List Band → ℕ → Plane
  read_samples_of bs d y x =
      idwt r.parameters.wavelet_ho r.parameters.wavelet bs r.parameters.depth_ho r.parameters.depth y x +ℤ pos (offset_of d)

  unfoldable pub read_samples : Three ℕ → Three Plane
  read_samples d = let b = read_bands in record {
    y = read_samples_of b.y d.y;
    c1 = read_samples_of b.c1 d.c1;
    c2 = read_samples_of b.c2 d.c2;
  }
