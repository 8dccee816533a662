-- The default matrix as the code hands it out.
use Rattle.std.specs.Prelude.{List, ◌++◌, ℕ, ◌-◌, length, replicate, Option, None, Some}
use Rattle.std.proofs.Math.Option as option
use Rattle.quantiser.specs.AnnexD.{default_matrix}

-- the places for a matrix: as many as the largest one has, whose two depths sum to 8, 1 + 3 * 8
abbrev pub matrix_places : ℕ
matrix_places = 25

-- a matrix in its places: the values, and zeros after them
abbrev pub places : List ℕ → List ℕ
places vs = vs ++ replicate (matrix_places - length vs) 0

-- the code's option of a matrix in its places
abbrev pub handed : option.Option (List ℕ) → Option (List ℕ)
handed option.none = None
handed (option.some vs) = Some (places vs)

-- the default matrix for a wavelet, a horizontal-only wavelet, a depth and a horizontal-only depth
unfoldable pub default_of : ℕ → ℕ → ℕ → ℕ → Option (List ℕ)
default_of w h d k = handed (default_matrix w h d k)
