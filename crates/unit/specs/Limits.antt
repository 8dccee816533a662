-- The limits of a call: document 01, "Answers that turn a call away"; document 02, (iii). That of the two depths, by
-- the wavelets, is `depth_limit`, and that of wavelet indices `last_wavelet`.
use Rattle.std.specs.Prelude.{ℕ}
use Rattle.unit.specs.declared.PictureKind.{PictureKind}
use Rattle.unit.specs.declared.PictureKind.TheVariants.{LowDelay, HighQuality}
pub use Rattle.wavelet.specs.Depth.{depth_limit, deepest}
pub use Rattle.wavelet.specs.Filters.{last_wavelet}

-- slices across and down, the scaler, the frame's sides and the excursions are from 1 to this: rules 3, 4 and 8
abbrev pub side_limit : ℕ
side_limit = 65535

-- the slices of a picture: rule 3
abbrev pub slice_limit : ℕ
slice_limit = 1048576

-- a slice's prefix bytes: rule 4
abbrev pub prefix_limit : ℕ
prefix_limit = 255

-- the last index of a kind, where its elections end: rule 6 and document 01, "Slices and unit"
abbrev pub last_index : PictureKind → ℕ
last_index LowDelay = 127
last_index HighQuality = 255

-- the index where an election begins: document 01, "Slices and unit"
abbrev pub lowest_index : ℕ
lowest_index = 0

-- the byte target: rule 7
abbrev pub target_limit : ℕ
target_limit = 1073741824

-- the last colour format and the last picture coding mode: rule 8
abbrev pub last_format : ℕ
last_format = 2

abbrev pub last_mode : ℕ
last_mode = 1

-- a value of the matrix: rule 9
abbrev pub value_limit : ℕ
value_limit = 255

-- the padded area of luma: rule 11
abbrev pub area_limit : ℕ
area_limit = 67108864

-- the bytes of a unit: rule 14
abbrev pub unit_limit : ℕ
unit_limit = 4294967295
