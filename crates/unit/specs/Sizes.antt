-- Component sizes and sample depths: document 01, "Settings the box is given"; ST 2042-1, set_coding_parameters.
use Rattle.std.specs.Prelude.{Bool, true, false, ℕ, zero, suc, ◌+◌, ◌*◌, ◌/◌, ◌^◌, eqb, leb, ltb}
use Rattle.unit.specs.declared.Settings.{Settings}
use Rattle.unit.specs.Three.{Three}

pub record Size : Type 0 where
  pub width : ℕ
  pub height : ℕ

abbrev pub area : Size → ℕ
area z = z.width * z.height

abbrev pub halved_if : Bool → ℕ → ℕ
halved_if true n = n / 2
halved_if false n = n

-- coding mode 1: a picture is a field
abbrev pub fields : Settings → Bool
fields s = eqb s.picture_coding_mode 1

-- luma has the frame's width, and in fields half of its height
unfoldable pub luma_size : Settings → Size
luma_size s = record { width = s.frame_width; height = halved_if (fields s) s.frame_height }

-- formats 1 and 2 halve the width, format 2 the height
unfoldable pub colour_size : Settings → Size
colour_size s = record {
  width = halved_if (ltb 0 s.color_diff_format) s.frame_width;
  height = halved_if (fields s) (halved_if (eqb s.color_diff_format 2) s.frame_height);
}

abbrev pub sizes_of : Settings → Three Size
sizes_of s = record { y = luma_size s; c1 = colour_size s; c2 = colour_size s }

-- the least m from k on with n at most 2^m; f bounds the steps
abbrev pub least_from : ℕ → ℕ → ℕ → ℕ
least_from zero k n = k
least_from (suc f) k n = elim (leb n (2 ^ k)) [ true ↦ k | false ↦ least_from f (suc k) n ]

-- ST 2042-1, intlog2: the least m with n at most 2^m
unfoldable pub intlog2 : ℕ → ℕ
intlog2 n = least_from n 0 n

-- the sample depths: the least d where 2^d is at least the excursion and one
unfoldable pub depths_of : Settings → Three ℕ
depths_of s =
    let l = intlog2 (s.luma_excursion + 1) in
    let c = intlog2 (s.color_diff_excursion + 1) in
    record { y = l; c1 = c; c2 = c }

-- the offset of samples of depth d: 2^(d - 1)
abbrev pub offset_of : ℕ → ℕ
offset_of d = 2 ^ d / 2
