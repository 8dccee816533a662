-- The code's sides as the definitions have them, and sides that are small enough to be measured.
use Rattle.std.specs.Prelude.{◌≤◌}
use Rattle.unit.specs.Sizes.{Size}
use Rattle.unit.specs.Code.Valid.{Shaped, Framed}
use Rattle.unit.specs.declared.Settings.{Settings}
use Rattle.picture.specs.declared.front.sizes.Sides.{Sides}

abbrev pub size_in : Sides → Size
size_in z = record { width = z.width; height = z.height }

-- ---- areas
-- the depths and the frame are small enough for padded areas to be worked out
pub record Measured (s : Settings) : Type 0 where
  pub shape : Shaped s
  pub frame : Framed s

-- z is no larger than the frame
pub record InFrame (s : Settings) (z : Size) : Type 0 where
  pub width : z.width ≤ s.frame_width
  pub height : z.height ≤ s.frame_height
