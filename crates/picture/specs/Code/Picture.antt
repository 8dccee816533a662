-- A picture in the work slice, and a slice's numbers there.
use Rattle.std.specs.Prelude.{◌≡◌, false, List, ℕ, ◌+◌, ◌*◌, ◌≤◌, ◌<◌, ℤ, None, Some}
use Rattle.unit.specs.Limits.{area_limit, slice_limit}
use Rattle.unit.specs.Three.{Three}
use Rattle.unit.specs.Slices.{slice_count}
use Rattle.picture.specs.declared.slices.layout.Component.{Component}
use Rattle.picture.specs.declared.slices.layout.Picture.{Picture}
use Rattle.picture.specs.declared.slices.layout.Run.{Run}
use Rattle.picture.specs.Code.Strip.{Small}
use Rattle.picture.specs.Code.Layout.{band_count, grid_in, run_numbers, LayoutIn, ComponentIn}

-- how many slices there are
abbrev pub slices_in : Picture → ℕ
slices_in p = slice_count (grid_in p.layout)

-- slice k's run of a component, and of the two colours together, at index q
abbrev pub run_in : Picture → Component → ℕ → ℕ → Run
run_in p c k q = record { layout = p.layout; first = c; second = None; slice = k; index = q }

abbrev pub colours_in : Picture → ℕ → ℕ → Run
colours_in p k q = record { layout = p.layout; first = p.c1; second = Some p.c2; slice = k; index = q }

-- slice k's numbers of a component at index q
abbrev pub run_of : List ℤ → Picture → Component → ℕ → ℕ → List ℤ
run_of w p c k q = run_numbers w p.layout c c false k q (band_count p.layout)

-- slice k's numbers of the three components at index q
unfoldable pub numbers_in : List ℤ → Picture → ℕ → ℕ → Three (List ℤ)
numbers_in w p k q = record { y = run_of w p p.y k q; c1 = run_of w p p.c1 k q; c2 = run_of w p p.c2 k q }

-- ---- conditions
-- a component lies in the picture's parts
pub record Placed (p : Picture) (c : Component) : Type 0 where
  pub fits : ComponentIn c
  pub area : c.width * c.height ≤ area_limit
  pub coefs : (p.front ≤ c.coefs) × (c.coefs + c.width * c.height ≤ p.end)
  pub rebuilt : c.rebuilt + c.width * c.height ≤ p.front

-- the components lie in the picture's parts, their rebuilt planes one behind the other, and the two colours are alike
pub record Arranged (p : Picture) : Type 0 where
  pub layout : LayoutIn p.layout
  pub slices : slices_in p ≤ slice_limit
  pub y : Placed p p.y
  pub c1 : Placed p p.c1
  pub c2 : Placed p p.c2
  pub wide : p.c2.width ≡ p.c1.width
  pub high : p.c2.height ≡ p.c1.height
  pub behind_y : p.y.rebuilt + p.y.width * p.y.height ≤ p.c1.rebuilt
  pub behind_c1 : p.c1.rebuilt + p.c1.width * p.c1.height ≤ p.c2.rebuilt

-- slice k at index q can be read
pub record SliceIn (p : Picture) (w : List ℤ) (k q : ℕ) : Type 0 where
  pub arranged : Arranged p
  pub small : Small p.front p.end w
  pub slice : k < slices_in p
  pub index : q ≤ 255
