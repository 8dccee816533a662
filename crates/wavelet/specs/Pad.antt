-- The padded plane of a component: document 01, "Coefficients" and the sample offset of
-- "Settings"; ST 2042-1, 13.2.3 and 15.5.
use Rattle.std.specs.Prelude.{ℕ, ◌+◌, ◌-◌, ◌*◌, ◌^◌, min, List, ℤ, pos, ◌-ℤ◌, slice_index}
use Rattle.laws.specs.Ceiling.{rounded_up}
use Rattle.laws.specs.Plane.{Plane}

-- a sample less the offset
abbrev pub centred : ℕ → ℕ → ℤ
centred o s = pos s -ℤ pos o

-- h rows of w samples as a plane, the last column and the last row repeated
abbrev pub padded : List ℕ → ℕ → ℕ → ℕ → Plane
padded s o w h y x = centred o (slice_index s (min y (h - 1) * w + min x (w - 1)))

-- a side, padded up to a multiple of 2 ^ n
abbrev pub padded_side : ℕ → ℕ → ℕ
padded_side n side = rounded_up (2 ^ n) side
