-- What the walk over the levels asks.
use Rattle.std.specs.Prelude.{ℕ, ◌≤◌}
use Rattle.wavelet.specs.Planes.{Padded}
use Rattle.wavelet.specs.RowCall.{row_limit}

-- what the walk asks of depths, sides and filters
pub record Deep (k d h w ih iv : ℕ) : Type 0 where
  pub sides : Padded k d h w
  pub h_le : h ≤ row_limit
  pub w_le : w ≤ row_limit
  pub ih_le : ih ≤ 6
  pub iv_le : iv ≤ 6
