-- What a lifting stage of every column asks.
use Rattle.std.specs.Prelude.{◌≡◌, ℕ, ◌*◌, ◌≤◌, List, length, ℤ}
use Rattle.wavelet.specs.RowCall.{row_limit}

-- a list that is a plane of h rows of w
pub record PlaneIn (l : List ℤ) (h w : ℕ) : Type 0 where
  pub long : length l ≡ h * w
  pub h_le : h ≤ row_limit
  pub w_le : w ≤ row_limit
