-- Where the subbands of a component stand in the work slice, what a slice has of each, and its numbers of all of them.
use Rattle.std.specs.Prelude.{◌≡◌, Bool, cond, ◌&&◌, List, [], ◌++◌, ℕ, zero, suc, ◌+◌, ◌*◌, ◌-◌, ◌/◌, ◌^◌, ◌≤◌, ◌<◌, eqb, leb, ℤ, length, get_or, unwrap_or, is_some, Some, None}
use Rattle.quantiser.specs.Quant.{quant_factor, quant_offset, band_index}
use Rattle.wavelet.specs.Depth.{deepest}
use Rattle.unit.specs.Limits.{side_limit}
use Rattle.unit.specs.Sizes.{Size, area}
use Rattle.unit.specs.Subbands.{level_size, subband_count}
use Rattle.unit.specs.Slices.{Grid, slice_count, top, bottom, left, right}
use Rattle.picture.specs.declared.slices.strip.Origin.{Origin}
use Rattle.picture.specs.declared.slices.strip.Strip.{Strip}
use Rattle.picture.specs.declared.slices.layout.Component.{Component}
use Rattle.picture.specs.declared.slices.layout.Layout.{Layout}
use Rattle.picture.specs.declared.slices.layout.Window.{Window}
use Rattle.picture.specs.declared.slices.layout.Run.{Run}
use Rattle.picture.specs.Code.Strip.{Small, Bounds, strip_numbers}
use Rattle.wavelet.specs.RowCall.{row_limit}
use Rattle.quantiser.specs.Code.Default.{matrix_places}

-- the level of the n-th subband: 0, the horizontal-only levels, then three to a level
unfoldable pub level_of : ℕ → ℕ → ℕ
level_of k n = cond (leb n k) n (k + 1 + (n - 1 - k) / 3)

abbrev pub band_count : Layout → ℕ
band_count l = subband_count l.depth_ho l.depth

abbrev pub grid_in : Layout → Grid
grid_in l = record { down = l.down; across = l.across }

-- the sides of the n-th subband of a component, whose sides are padded
unfoldable pub band_size : Layout → Component → ℕ → Size
band_size l c n = level_size l.depth_ho l.depth (record { width = c.width; height = c.height }) (level_of l.depth_ho n)

-- how far behind the component's the coefficients of the n-th subband begin
unfoldable pub start_of : Layout → Component → ℕ → ℕ
start_of l c zero = 0
start_of l c (suc n) = start_of l c n + area (band_size l c n)

-- what slice k has of the n-th subband: its rows and columns
unfoldable pub window_of : Layout → Component → ℕ → ℕ → Window
window_of l c n k =
    let z = band_size l c n in
    record {
      width = z.width;
      height = z.height;
      top = top (grid_in l) z k;
      bottom = bottom (grid_in l) z k;
      left = left (grid_in l) z k;
      right = right (grid_in l) z k;
    }

-- where a component's coefficients begin, start places behind its first, and its rebuilt plane
abbrev pub origin_of : Component → ℕ → Origin
origin_of c start = record { coefs = c.coefs + start; rebuilt = c.rebuilt }

-- what slice k has of the n-th subband at index q
unfoldable pub strip_of : Layout → Component → Component → Bool → ℕ → ℕ → ℕ → ℕ → Strip
strip_of l c second pair n start k q =
    let z = band_size l c n in
    let i = band_index q (get_or l.values n 0) in
    record {
      coefs = c.coefs + start;
      rebuilt = c.rebuilt;
      second = cond pair (Some (origin_of second start)) None;
      width = z.width;
      height = z.height;
      top = top (grid_in l) z k;
      bottom = bottom (grid_in l) z k;
      left = left (grid_in l) z k;
      right = right (grid_in l) z k;
      index = i;
      factor = quant_factor i;
      offset = quant_offset i;
      predicted = l.predicted && eqb n 0;
    }

-- slice k's numbers of the first n subbands
unfoldable pub run_numbers : List ℤ → Layout → Component → Component → Bool → ℕ → ℕ → ℕ → List ℤ
run_numbers w l c second pair k q zero = []
run_numbers w l c second pair k q (suc n) =
    run_numbers w l c second pair k q n ++ strip_numbers w (strip_of l c second pair n (start_of l c n) k q)

-- a slice's numbers of n subbands behind the first
unfoldable pub rest_numbers : List ℤ → Layout → Component → Component → Bool → ℕ → ℕ → ℕ → List ℤ
rest_numbers w l c second pair k q zero = []
rest_numbers w l c second pair k q (suc n) =
    rest_numbers w l c second pair k q n ++ strip_numbers w (strip_of l c second pair (suc n) (start_of l c (suc n)) k q)

-- ---- a run
-- its second component, or the first where there is none, and whether there is one
abbrev pub second_of : Run → Component
second_of r = unwrap_or r.second r.first

abbrev pub pair_of : Run → Bool
pair_of r = is_some r.second

-- what its slice has of the n-th subband: rows and columns, and the strip
abbrev pub run_window : Run → ℕ → Window
run_window r n = window_of r.layout r.first n r.slice

abbrev pub run_strip : Run → ℕ → ℕ → Strip
run_strip r n start = strip_of r.layout r.first (second_of r) (pair_of r) n start r.slice r.index

-- its numbers of all subbands, and of those behind the first
abbrev pub numbers_of : List ℤ → Run → List ℤ
numbers_of w r = run_numbers w r.layout r.first (second_of r) (pair_of r) r.slice r.index (band_count r.layout)

abbrev pub rest_of : List ℤ → Run → List ℤ
rest_of w r = rest_numbers w r.layout r.first (second_of r) (pair_of r) r.slice r.index (band_count r.layout - 1)

-- ---- conditions
-- a layout that can be read: few levels, slices and values
pub record LayoutIn (l : Layout) : Type 0 where
  pub depths : l.depth + l.depth_ho ≤ deepest
  pub across : (1 ≤ l.across) × (l.across ≤ side_limit)
  pub down : (1 ≤ l.down) × (l.down ≤ side_limit)
  -- as many as the largest matrix has, 1 + 3 * deepest
  pub values : length l.values ≡ matrix_places

-- a component whose sides and places are small
pub record ComponentIn (c : Component) : Type 0 where
  pub width : c.width ≤ row_limit
  pub height : c.height ≤ row_limit
  pub coefs : c.coefs < 2 ^ 30
  pub rebuilt : c.rebuilt < 2 ^ 30

-- what is asked of a window of slice k
pub record WindowIn (l : Layout) (c : Component) (n k : ℕ) : Type 0 where
  pub layout : LayoutIn l
  pub first : ComponentIn c
  pub band : n < band_count l
  pub slice : k < slice_count (grid_in l)

-- what is asked of a strip of slice k at index q
pub record StripIn (l : Layout) (c second : Component) (n from k q : ℕ) : Type 0 where
  pub layout : LayoutIn l
  pub first : ComponentIn c
  pub other : ComponentIn second
  pub band : n < band_count l
  pub start : from ≤ 2 ^ 32
  pub slice : k < slice_count (grid_in l)
  pub index : q ≤ 255

-- components whose numbers of slice k at index q can be read from the work slice w: rebuilt planes in its first a
-- numbers, coefficients behind them up to e, the second's with the sides of the first
pub record RunIn (l : Layout) (c second : Component) (a e k q : ℕ) (w : List ℤ) : Type 0 where
  pub layout : LayoutIn l
  pub first : ComponentIn c
  pub other : ComponentIn second
  pub slice : k < slice_count (grid_in l)
  pub index : q ≤ 255
  pub small : Small a e w
  pub coefs : (a ≤ c.coefs) × (c.coefs + c.width * c.height ≤ e)
  pub coefs2 : (a ≤ second.coefs) × (second.coefs + c.width * c.height ≤ e)
  pub rebuilt : c.rebuilt + c.width * c.height ≤ a
  pub rebuilt2 : second.rebuilt + c.width * c.height ≤ a

-- components of which a slice's run lies in the work slice
abbrev pub RunLies : Layout → Component → Component → ℕ → ℕ → List ℤ → Type 0
RunLies l c second k q w = Bounds (λ a e. RunIn l c second a e k q w)

-- a run that lies in the work slice
abbrev pub Lying : Run → List ℤ → Type 0
Lying r = RunLies r.layout r.first (second_of r) r.slice r.index
