-- Laws of how many numbers slices have: as many as a slice's run, those of one more slice, and within the component's
-- padded area.
use Rattle.std.specs.Prelude.{◌≡◌, List, ℤ}
use Rattle.std.proofs.Math.Path.{ap, ap₂}
use Rattle.std.proofs.Common.{◌∙◌, add-mul, mul_comm, suc-mul, mul-le-mul_left, mul-le-mul_right, add-sub_of_le, div-add-mod', mod-lt}
use Rattle.std.proofs.Math.Bool.{false}
use Prim.Native.Nat.{ℕ, zero, suc, ◌+◌, ◌*◌, ◌-◌, ◌/◌, ◌%◌, ◌≤◌, ◌<◌}
use Rattle.std.proofs.Math.Nat.{mul-sub}
use native.Mathlib.Omega.{arith}
use Rattle.std.proofs.Math.Decide.{dec_le}
use Rattle.std.proofs.Math.Arith.{digits_div, digits_mod}
use Rattle.std.proofs.Math.ListN.{length, length-append}
use Rattle.unit.specs.Sizes.{Size, area}
use Rattle.unit.specs.Slices.{bound, slice_count, part_size}
use Rattle.unit.proofs.Laws.Slice.{bound_rises, bound-most}
use Rattle.picture.specs.declared.slices.layout.Component.{Component}
use Rattle.picture.specs.declared.slices.layout.Layout.{Layout}
use Rattle.picture.specs.Code.Layout.{band_count, grid_in, band_size, start_of, run_numbers, LayoutIn}
use Rattle.picture.specs.Code.Counts.{band_numbers_of, count_of}
use Rattle.picture.specs.Laws.Layout.{start-next, band-fits, row_of, band_numbers, run_none, run-next}
use Rattle.picture.specs.Laws.HighIndex.{band_many}

-- ---- as many as a slice's run
module _ (w : List ℤ) (l : Layout) (c : Component) (k q : ℕ) where
  bands_count : (n : ℕ) → length (run_numbers w l c c false k q n) ≡ band_numbers_of l c k n
  unfolding band_numbers_of
  bands_count zero = ap length (run_none w l c c false k q)
  bands_count (suc n) =
      ap length (run-next w l c c false k q n) ∙ length-append (run_numbers w l c c false k q n) (band_numbers w l c c false k q n)
      ∙ ap₂ ◌+◌ (bands_count n) (band_many w l c k q n)

  pub run_count : length (run_numbers w l c c false k q (band_count l)) ≡ count_of l c k
  run_count = bands_count (band_count l)

-- ---- of one subband
module _ {l : Layout} (h : LayoutIn l) (z : Size) where
  abbrev row : ℕ → ℕ
  row i = bound l.down z.height i

  abbrev column : ℕ → ℕ
  column j = bound l.across z.width j

  -- what stands above row i of slices, and in it left of column j
  abbrev up_to : ℕ → ℕ → ℕ
  up_to i j = row i * z.width + (row (suc i) - row i) * column j

  abbrev before : ℕ → ℕ
  before k = up_to (k / l.across) (k % l.across)

  column-next : (i j : ℕ) → up_to i j + (row (suc i) - row i) * (column (suc j) - column j) ≡ up_to i (suc j)
  column-next i j =
      let y : ℕ = row (suc i) - row i in
      omega (arith, mul-sub y (column (suc j)) (column j), mul-le-mul_left y (bound_rises l.across z.width {i = j} {j = suc j} (omega arith)))

  row-most : (i j : ℕ) → j ≤ l.across → up_to i j ≤ row (suc i) * z.width
  row-most i j b =
      let y : ℕ = row (suc i) - row i in
      let e : row i + y ≡ row (suc i) = add-sub_of_le (bound_rises l.down z.height {i = i} {j = suc i} (omega arith)) in
      omega (arith, mul-le-mul_left y (bound-most l.across z.width j b), add-mul (row i) y z.width, ap (λ (y : ℕ). y * z.width) e)

  before_is : (k i j : ℕ) → j < l.across → k ≡ i * l.across + j → before k ≡ up_to i j
  before_is k i j b e = ap₂ up_to (ap (λ (k : ℕ). k / l.across) e ∙ digits_div i b) (ap (λ (k : ℕ). k % l.across) e ∙ digits_mod i b)

  -- a slice stands before the next
  part-next : (k : ℕ) → before k + part_size (grid_in l) z k ≤ before (suc k)
  part-next k = by (dec_le (suc (suc j)) l.across)
    where
      i : ℕ
      i = k / l.across

      j : ℕ
      j = k % l.across

      by : Dec (suc j < l.across) → before k + part_size (grid_in l) z k ≤ before (suc k)
      by (yes b) = omega (arith, column-next i j, before_is (suc k) i (suc j) b (omega (arith, div-add-mod' k l.across)))
      by (no b) =
          let m = mod-lt k h.across.0 in
          omega (arith, column-next i j, row-most i (suc j) m, before_is (suc k) (suc i) 0 h.across.0 (omega (arith, div-add-mod' k l.across, m, suc-mul i l.across)))

  -- a slice's part lies within the subband
  part-within : (k : ℕ) → k < slice_count (grid_in l) → before k + part_size (grid_in l) z k ≤ area z
  part-within k b =
      let i : ℕ = k / l.across in
      let m = mul-le-mul_right z.width (bound-most l.down z.height (suc i) (row_of h b)) in
      omega (arith, column-next i (k % l.across), row-most i (suc (k % l.across)) (mod-lt k h.across.0), m, mul_comm z.width z.height)

-- ---- of a component
-- the numbers of its first k slices
unfoldable pub count_to : Layout → Component → ℕ → ℕ
count_to l c zero = 0
count_to l c (suc k) = count_to l c k + count_of l c k

module _ {l : Layout} (h : LayoutIn l) (c : Component) where
  -- what stands before slice k in the first n subbands
  unfoldable ahead : ℕ → ℕ → ℕ
  ahead k zero = 0
  ahead k (suc n) = ahead k n + before h (band_size l c n) k

  ahead-next : (k n : ℕ) → ahead k n + band_numbers_of l c k n ≤ ahead (suc k) n
  unfolding ahead band_numbers_of
  ahead-next k zero = omega arith
  ahead-next k (suc n) = omega (arith, ahead-next k n, part-next h (band_size l c n) k)

  ahead_within : (k n : ℕ) → k < slice_count (grid_in l) → ahead k n + band_numbers_of l c k n ≤ start_of l c n
  unfolding ahead band_numbers_of
  ahead_within k zero b = omega arith
  ahead_within k (suc n) b = omega (arith, ahead_within k n b, part-within h (band_size l c n) k b, start-next l c n)

  count_ahead : (k : ℕ) → count_to l c k ≤ ahead k (band_count l)
  unfolding count_to
  count_ahead zero = omega arith
  count_ahead (suc k) = omega (arith, count_ahead k, ahead-next k (band_count l))

-- the numbers of a component up to slice k's are no more than its coefficients
pub count_within : (l : Layout) (c : Component) (k : ℕ) → LayoutIn l → k < slice_count (grid_in l) → count_to l c k + count_of l c k ≤ c.width * c.height
count_within l c k h b =
    let n : ℕ = l.depth_ho + 3 * l.depth in
    let e : band_count l ≡ suc n = omega arith in
    omega (arith, count_ahead h c k, ahead_within h c k (band_count l) b, ap (start_of l c) e, start-next l c n, band-fits l c n (omega arith))
