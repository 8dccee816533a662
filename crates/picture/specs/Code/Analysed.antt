-- A call's picture in its work slice: where the components stand, and what analysis leaves there.
use Rattle.std.specs.Prelude.{◌≡◌, List, Bool, true, false, ℕ, ◌+◌, ◌<◌, ℤ, pos, length}
use Rattle.laws.specs.Rows.{at}
use Rattle.quantiser.specs.Code.Default.{places}
use Rattle.wavelet.specs.Planes.{Band, coefficients}
use Rattle.unit.specs.declared.Settings.{Settings}
use Rattle.unit.specs.declared.PictureKind.{PictureKind}
use Rattle.unit.specs.declared.PictureKind.TheVariants.{LowDelay, HighQuality}
use Rattle.unit.specs.Three.{Three}
use Rattle.unit.specs.Sizes.{Size, luma_size, colour_size}
use Rattle.unit.specs.Subbands.{padded_size, padded_area}
use Rattle.unit.specs.Matrix.{default_of, matrix_values}
use Rattle.unit.specs.Coefficients.{coefficients_of}
use Rattle.unit.specs.Code.Valid.{Shaped, Framed, Lent, RateFits, MatrixFits, Sized}
use Rattle.picture.specs.declared.slices.layout.Component.{Component}
use Rattle.picture.specs.declared.slices.layout.Layout.{Layout}
use Rattle.picture.specs.declared.slices.layout.Picture.{Picture}
use Rattle.picture.specs.Code.Strip.{Small}

-- ---- coefficients in the work slice
-- w has the coefficients of bs from base on
pub record Holds (w : List ℤ) (base : ℕ) (bs : List Band) : Type 0 where
  pub holds : (i : ℕ) → i < length (coefficients bs) → at w (base + i) ≡ at (coefficients bs) i

-- level 0 is predicted in low delay
abbrev pub is_low : PictureKind → Bool
is_low LowDelay = true
is_low HighQuality = false

module _ (s : Settings) where
  abbrev pub luma_area : ℕ
  luma_area = padded_area s (luma_size s)

  abbrev pub colour_area : ℕ
  colour_area = padded_area s (colour_size s)

  -- the sum of the three padded areas: the coefficients begin there
  abbrev pub front_of : ℕ
  front_of = luma_area + colour_area + colour_area

  -- a component of size z
  abbrev pub component_at : Size → ℕ → ℕ → Component
  component_at z coefs rebuilt =
      let p = padded_size s.dwt_depth_ho s.dwt_depth z in
      record { coefs = coefs; rebuilt = rebuilt; width = p.width; height = p.height }

unfoldable pub layout_of : Settings → List ℕ → Layout
layout_of s m = record {
  depth_ho = s.dwt_depth_ho;
  depth = s.dwt_depth;
  across = s.slices_x;
  down = s.slices_y;
  values = places (matrix_values s m);
  predicted = is_low s.kind;
}

-- luma and the two colours one behind the other, rebuilt planes as well as coefficients
unfoldable pub picture_of : Settings → List ℕ → Picture
picture_of s m = record {
  layout = layout_of s m;
  y = component_at s (luma_size s) (front_of s) 0;
  c1 = component_at s (colour_size s) (front_of s + luma_area s) (luma_area s);
  c2 = component_at s (colour_size s) (front_of s + (luma_area s + colour_area s)) (luma_area s + colour_area s);
  front = front_of s;
  end = front_of s + front_of s;
}

-- what is known of an accepted call's settings and matrix
pub record Called (s : Settings) (m : List ℕ) : Type 0 where
  pub shape : Shaped s
  pub rate : RateFits s.kind s.rate
  pub matrix : MatrixFits s m s.custom_matrix (default_of s)
  pub luma : Sized s (luma_size s)
  pub colour : Sized s (colour_size s)

-- what is known of its settings, planes and work slice, which analysis asks
pub record Ready (s : Settings) (p : Three (List ℕ)) (w : List ℤ) : Type 0 where
  pub shape : Shaped s
  pub frame : Framed s
  pub lent : Lent s p w
  pub luma : Sized s (luma_size s)
  pub colour : Sized s (colour_size s)

-- the coefficients stand behind a front of zeros
pub record Analysed (s : Settings) (p : Three (List ℕ)) (w : List ℤ) : Type 0 where
  pub small : Small (front_of s) (front_of s + front_of s) w
  pub y : Holds w (front_of s) (coefficients_of s p).y
  pub c1 : Holds w (front_of s + luma_area s) (coefficients_of s p).c1
  pub c2 : Holds w (front_of s + (luma_area s + colour_area s)) (coefficients_of s p).c2
  pub front : (k : ℕ) → k < front_of s → at w k ≡ pos 0
