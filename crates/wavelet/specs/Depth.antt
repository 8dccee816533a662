-- How deep a transform may be: document 01, refusal 2; document 02, (iii).
use Rattle.std.specs.Prelude.{ℕ, ◌+◌, Bool, true, false, ◌&&◌, ◌||◌, ◌==◌, nat_lt}

-- LeGall (1), and Haar without and with a shift (3, 4)
abbrev pub deep_filter : ℕ → Bool
deep_filter i = i == 1 || (i == 3 || i == 4)

-- the most that the two depths may sum to, by whether both wavelet indices are 1, 3 or 4
abbrev pub limit_by : Bool → ℕ
limit_by true = 8
limit_by false = 5

-- the most that they may sum to, by the two wavelet indices, also where no level uses one of the filters
unfoldable pub depth_limit : ℕ → ℕ → ℕ
depth_limit i j = limit_by (deep_filter i && deep_filter j)

-- the largest of the limits
abbrev pub deepest : ℕ
deepest = limit_by true

-- refusal 2, asked with the four numbers by which Annex D is asked: wavelet, horizontal-only wavelet, depth,
-- horizontal-only depth
abbrev pub too_deep : ℕ → ℕ → ℕ → ℕ → Bool
too_deep w h d k = nat_lt (depth_limit h w) (d + k)
