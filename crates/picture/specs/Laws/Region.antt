-- Laws of a strip: its numbers are a region of a plane, those of the two colours together alternate, and what is
-- rebuilt in the work slice is the unit's rebuilt plane.
use Rattle.std.specs.Prelude.{◌≡◌, Bool, cond, Some, None, ℤ, pos, ◌+ℤ◌, ◌-ℤ◌, length, set}
use Rattle.std.proofs.Math.Path.{refl, sym, ap, ap₂}
use Rattle.std.proofs.Common.{◌∙◌, suc-mul, zero-mul, length-set, get_or-set_same, get_or-set_other}
use Rattle.std.proofs.Math.Bool.{true, false}
use mathlib.Core.List.{List, [], ◌∷◌, ◌++◌}
use Prim.Native.Nat.{ℕ, zero, suc, ◌+◌, ◌*◌, ◌-◌, ◌/◌, ◌%◌, ◌≤◌, ◌<◌}
use Rattle.std.proofs.Math.Nat.{mul-le-mul_right}
use native.Mathlib.Omega.{arith}
use Rattle.std.proofs.Math.Decide.{ℕ_discrete, dec_lt}
use Rattle.std.proofs.Math.Arith.{digits_div, digits_mod, digits_lt}
use Rattle.laws.specs.Rows.{at, span}
use Rattle.laws.specs.Laws.Rows.{length-span, span-suc, span_ext, span-append, area, length-area}
use Rattle.laws.specs.Plane.{Plane}
use Rattle.laws.specs.Laws.Plane.{Agree}
use Rattle.quantiser.specs.Quant.{quant_factor, quant_offset, forward_by, forward_quant, inverse_by, inverse_quant}
use Rattle.wavelet.specs.Planes.{Band}
use Rattle.unit.specs.Slices.{region, Grid, top, bottom, left, right}
use Rattle.unit.specs.Predict.{predict}
use Rattle.unit.specs.Quantised.{size_of, inside, number_at, rebuilt_at, rebuilt}
use Rattle.unit.specs.LowDelay.{alternated}
use Rattle.unit.proofs.Laws.Test.{no_truth}
use Rattle.unit.proofs.Laws.Scan.{Neighbours, neighbours, predict-same, scan_unique}
use Rattle.unit.proofs.Laws.Place.{inside→within, within→inside}
use Rattle.picture.specs.declared.slices.strip.Origin.{Origin}
use Rattle.picture.specs.declared.slices.strip.Strip.{Strip}
use Rattle.picture.specs.Code.Strip.{plane_from, prediction_in, number_in, place_numbers, row_numbers, rows_numbers, strip_numbers, value_in, rebuilt_row, rebuilt_rows, rebuilt_strip, Inside}
use Rattle.picture.specs.Laws.Strip.{prediction_yes}

-- ---- regions row by row
-- two spans of equal values are equal
span_move : (f g : ℕ → ℤ) (i j n : ℕ) → ((k : ℕ) → k < n → f (i + k) ≡ g (j + k)) → span f i n ≡ span g j n
span_move f g i j zero h = refl
span_move f g i j (suc n) h =
    ap₂ (λ (a : ℤ) (r : List ℤ). a ∷ r)
    (ap f (omega arith) ∙ h 0 (omega arith) ∙ ap g (omega arith))
    (span_move f g (suc i) (suc j) n (λ k l. ap f (omega arith) ∙ h (suc k) (omega arith) ∙ ap g (omega arith)))

area-span : (f : Plane) (t l m c : ℕ) → area f t l m c ≡ span (λ k. f (t + k / c) (l + k % c)) 0 (m * c)
unfolding area
area-span f t l zero c = ap (span (λ k. f (t + k / c) (l + k % c)) 0) (sym (zero-mul c))
area-span f t l (suc m) c =
    let g : ℕ → ℤ = λ k. f (t + k / c) (l + k % c) in
    ap₂ ◌++◌ (area-span f t l m c)
    (span_move (f (t + m)) g l (0 + m * c) c
    (λ k h. let e : 0 + m * c + k ≡ m * c + k = omega arith in rw (e, digits_div m h, digits_mod m h)))
    ∙ sym (span-append g 0 (m * c) c) ∙ ap (span g 0) (sym (suc-mul m c))

pub region-area : (f : Plane) (t b l r : ℕ) → region f t b l r ≡ area f t l (b - t) (r - l)
unfolding region
region-area f t b l r = sym (area-span f t l (b - t) (r - l))

area_cong : (f g : Plane) (t l m c : ℕ) → ((y x : ℕ) → t ≤ y → y < t + m → l ≤ x → x < l + c → f y x ≡ g y x) → area f t l m c ≡ area g t l m c
unfolding area
area_cong f g t l zero c e = refl
area_cong f g t l (suc m) c e =
    ap₂ ◌++◌ (area_cong f g t l m c (λ y x a b p q. e y x a (omega arith) p q))
    (span_ext (f (t + m)) (g (t + m)) l c (λ x p q. e (t + m) x (omega arith) (omega arith) p q))

-- planes that agree on the region
pub region_cong : (f g : Plane) (t b l r : ℕ) → ((y x : ℕ) → t ≤ y → y < b → l ≤ x → x < r → f y x ≡ g y x) → region f t b l r ≡ region g t b l r
region_cong f g t b l r e =
    region-area f t b l r
    ∙ area_cong f g t l (b - t) (r - l) (λ y x p q u v. e y x p (omega arith) u (omega arith))
    ∙ sym (region-area g t b l r)

-- ---- one component
module _ (w : List ℤ) (s : Strip) where
  -- the first component's numbers, and those of a component that stands at o
  abbrev pub firsts : Plane
  firsts y x = number_in w s s.coefs s.rebuilt y x

  abbrev pub seconds : Origin → Plane
  seconds o y x = number_in w s o.coefs o.rebuilt y x

  module _ (one : s.second ≡ None) where
    place-one : (y x : ℕ) → place_numbers w s y x ≡ firsts y x ∷ []
    unfolding place_numbers
    place-one y x = rw one

    row_one : (y x n : ℕ) → row_numbers w s y x n ≡ span (firsts y) x n
    unfolding row_numbers
    row_one y x zero = refl
    row_one y x (suc n) = ap₂ ◌++◌ (row_one y x n) (place-one y (x + n)) ∙ sym (span-suc (firsts y) x n)

    rows-one : (y n : ℕ) → rows_numbers w s y n ≡ area firsts y s.left n (s.right - s.left)
    unfolding rows_numbers area
    rows-one y zero = refl
    rows-one y (suc n) = ap₂ ◌++◌ (rows-one y n) (row_one (y + n) s.left (s.right - s.left))

    pub strip_part : strip_numbers w s ≡ region firsts s.top s.bottom s.left s.right
    strip_part = rows-one s.top (s.bottom - s.top) ∙ sym (region-area firsts s.top s.bottom s.left s.right)

-- ---- two colours
pub alternated-append : (us vs xs ys : List ℤ) → length us ≡ length vs → alternated (us ++ xs) (vs ++ ys) ≡ alternated us vs ++ alternated xs ys
unfolding alternated
alternated-append [] [] xs ys e = refl
alternated-append [] (v ∷ vs) xs ys e = absurd (omega arith)
alternated-append (u ∷ us) [] xs ys e = absurd (omega arith)
alternated-append (u ∷ us) (v ∷ vs) xs ys e = ap (λ (r : List ℤ). u ∷ v ∷ r) (alternated-append us vs xs ys (omega arith))

module _ (w : List ℤ) (s : Strip) (o : Origin) (two : s.second ≡ Some o) where
  place-two : (y x : ℕ) → place_numbers w s y x ≡ alternated (firsts w s y x ∷ []) (seconds w s o y x ∷ [])
  unfolding place_numbers alternated
  place-two y x = rw two

  row-two : (y x n : ℕ) → row_numbers w s y x n ≡ alternated (span (firsts w s y) x n) (span (seconds w s o y) x n)
  unfolding row_numbers
  row-two y x zero = unfold alternated in refl
  row-two y x (suc n) =
      let f = firsts w s y in
      let g = seconds w s o y in
      ap₂ ◌++◌ (row-two y x n) (place-two y (x + n))
      ∙ sym (alternated-append (span f x n) (span g x n) (f (x + n) ∷ []) (g (x + n) ∷ []) (length-span f x n ∙ sym (length-span g x n)))
      ∙ ap₂ alternated (sym (span-suc f x n)) (sym (span-suc g x n))

  rows-two : (y n : ℕ) → let c = s.right - s.left in
      rows_numbers w s y n ≡ alternated (area (firsts w s) y s.left n c) (area (seconds w s o) y s.left n c)
  unfolding rows_numbers area
  rows-two y zero = unfold alternated in refl
  rows-two y (suc n) =
      let f = firsts w s in
      let g = seconds w s o in
      let l = s.left in
      let c : ℕ = s.right - s.left in
      ap₂ ◌++◌ (rows-two y n) (row-two (y + n) l c)
      ∙ sym (alternated-append (area f y l n c) (area g y l n c) (span (f (y + n)) l c) (span (g (y + n)) l c) (length-area f y l n c ∙ sym (length-area g y l n c)))

  pub strip_pair : strip_numbers w s
      ≡ alternated (region (firsts w s) s.top s.bottom s.left s.right) (region (seconds w s o) s.top s.bottom s.left s.right)
  strip_pair =
      rows-two s.top (s.bottom - s.top)
      ∙ ap₂ alternated (sym (region-area (firsts w s) s.top s.bottom s.left s.right)) (sym (region-area (seconds w s o) s.top s.bottom s.left s.right))

-- ---- rebuilt values
-- the neighbours of a place come before it
before : (P : ℕ → ℕ → Type 0) (w y x : ℕ) → x < w → ((b a : ℕ) → b * w + a < y * w + x → P b a) → Neighbours P y x
before P w zero zero h f = tt
before P w zero (suc x) h f = f zero x (omega arith)
before P w (suc y) zero h f = f y zero (omega (arith, suc-mul y w))
before P w (suc y) (suc x) h f = (f (suc y) x (omega arith), f y x (omega (arith, suc-mul y w)), f y (suc x) (omega (arith, suc-mul y w)))

-- a place of a plane w wide by its number
pub same_row : (w y x b a : ℕ) → x < w → a < w → y * w + x ≡ b * w + a → y ≡ b
same_row w y x b a hx ha e = sym (digits_div y hx) ∙ ap (λ (k : ℕ). k / w) e ∙ digits_div b ha

pub same-column : (w y x b a : ℕ) → x < w → a < w → y * w + x ≡ b * w + a → x ≡ a
same-column w y x b a hx ha e = sym (digits_mod y hx) ∙ ap (λ (k : ℕ). k % w) e ∙ digits_mod b ha

-- the rebuilt plane is in l, and not behind where the coefficients begin
pub record Apart (l : List ℤ) (s : Strip) : Type 0 where
  pub rows : s.top ≤ s.bottom
  pub columns : s.left ≤ s.right
  pub wide : s.right ≤ s.width
  pub high : s.bottom ≤ s.height
  pub room : s.rebuilt + s.height * s.width ≤ length l
  pub ahead : s.rebuilt + s.height * s.width ≤ s.coefs

-- a value is made of its coefficient and of the places before it
value_same : (s : Strip) (l m : List ℤ) (y x : ℕ) → x < s.width → plane_from l s.coefs s.width y x ≡ plane_from m s.coefs s.width y x
    → ((i : ℕ) → i < y * s.width + x → at l (s.rebuilt + i) ≡ at m (s.rebuilt + i)) → value_in l s y x ≡ value_in m s y x
value_same s l m y x h e f =
    let p = plane_from l s.rebuilt s.width in
    let q = plane_from m s.rebuilt s.width in
    let d : prediction_in l s s.rebuilt y x ≡ prediction_in m s s.rebuilt y x =
    ap (λ (v : ℤ). cond s.predicted v (pos 0)) (predict-same p q y x (before (λ b a. p b a ≡ q b a) s.width y x h (λ b a o. f (b * s.width + a) o))) in
    ap₂ (λ (p c : ℤ). p +ℤ inverse_by s.factor s.offset (forward_by s.factor (c -ℤ p))) d e

-- m is l with the places of s whose number is below n rebuilt
record Done (l : List ℤ) (s : Strip) (m : List ℤ) (n : ℕ) : Type 0 where
  long : length m ≡ length l
  here : (y x : ℕ) → Inside s y x → y * s.width + x < n → plane_from m s.rebuilt s.width y x ≡ value_in m s y x
  other : (i : ℕ) → ((y x : ℕ) → Inside s y x → y * s.width + x < n → i ≡ s.rebuilt + (y * s.width + x) → ⊥) → at m i ≡ at l i

module _ (l : List ℤ) (s : Strip) (fits : Apart l s) where
  pub number_lt : (y x : ℕ) → Inside s y x → y * s.width + x < s.height * s.width
  number_lt y x i = digits_lt {q = y} {m = s.height} {r = x} {c = s.width} (omega (arith, i.above, fits.high)) (omega (arith, i.left-of, fits.wide))

  -- one place more is rebuilt
  done_place : (m : List ℤ) (y x : ℕ) → Inside s y x → Done l s m (y * s.width + x)
      → Done l s (set m (s.rebuilt + (y * s.width + x)) (value_in m s y x)) (y * s.width + x + 1)
  done_place m y x i d = record {
    long = length-set m p v ∙ d.long;
    here = λ b a j h. at_place b a j h (ℕ_discrete (b * s.width + a) (y * s.width + x));
    other = λ k out. get_or-set_other m p k v (pos 0) (λ e. out y x i (omega arith) e) ∙ d.other k (λ b a j h e. out b a j (omega arith) e);
  }
    where
      p : ℕ
      p = s.rebuilt + (y * s.width + x)

      v : ℤ
      v = value_in m s y x

      kept : (b a : ℕ) → Inside s b a → b * s.width + a ≤ y * s.width + x → value_in (set m p v) s b a ≡ value_in m s b a
      kept b a j h =
          value_same s (set m p v) m b a (omega (arith, j.left-of, fits.wide))
          (get_or-set_other m p (s.coefs + (b * s.width + a)) v (pos 0) (λ e. omega (arith, number_lt y x i, fits.ahead)))
          (λ k o. get_or-set_other m p (s.rebuilt + k) v (pos 0) (λ e. omega arith))

      at_place : (b a : ℕ) → Inside s b a → b * s.width + a < y * s.width + x + 1 → Dec (b * s.width + a ≡ y * s.width + x)
          → plane_from (set m p v) s.rebuilt s.width b a ≡ value_in (set m p v) s b a
      at_place b a j h (yes e) =
          let hx : x < s.width = omega (arith, i.left-of, fits.wide) in
          let ha : a < s.width = omega (arith, j.left-of, fits.wide) in
          rw (same_row s.width b a y x ha hx e, same-column s.width b a y x ha hx e)
          (get_or-set_same m p v (pos 0) (omega (arith, d.long, number_lt y x i, fits.room)) ∙ sym (kept y x i (omega arith)))
      at_place b a j h (no e) =
          get_or-set_other m p (s.rebuilt + (b * s.width + a)) v (pos 0) (λ q. e (omega arith)) ∙ d.here b a j (omega arith) ∙ sym (kept b a j (omega arith))

  done_row : (m : List ℤ) (y n : ℕ) → s.top ≤ y → y < s.bottom → s.left + n ≤ s.right → Done l s m (y * s.width + s.left)
      → Done l s (rebuilt_row m s y s.left n) (y * s.width + (s.left + n))
  unfolding rebuilt_row
  done_row m y zero ht hb h d = let e : y * s.width + (s.left + zero) ≡ y * s.width + s.left = omega arith in rw e d
  done_row m y (suc n) ht hb h d =
      let e : y * s.width + (s.left + suc n) ≡ y * s.width + (s.left + n) + 1 = omega arith in
      let i : Inside s y (s.left + n) = record { below = ht; above = hb; right_of = omega arith; left-of = omega arith } in
      rw e (done_place (rebuilt_row m s y s.left n) y (s.left + n) i (done_row m y n ht hb (omega arith) d))

  -- what is before the next row's window is before the end of this row's
  row_end : (y b a : ℕ) → Inside s b a → b * s.width + a < suc y * s.width + s.left → b * s.width + a < y * s.width + s.right
  row_end y b a i h = by (dec_lt b y) (dec_lt y b)
    where
      by : Dec (b < y) → Dec (y < b) → b * s.width + a < y * s.width + s.right
      by (yes o) q = omega (arith, mul-le-mul_right s.width o, suc-mul b s.width, i.left-of, fits.wide)
      by (no o) (yes q) = absurd (omega (arith, mul-le-mul_right s.width q, i.right_of))
      by (no o) (no q) = let e : b ≡ y = omega arith in rw e (omega (arith, i.left-of))

  done_next : (m : List ℤ) (y : ℕ) → Done l s m (y * s.width + s.right) → Done l s m (suc y * s.width + s.left)
  done_next m y d = record {
    long = d.long;
    here = λ b a i h. d.here b a i (row_end y b a i h);
    other = λ k out. d.other k (λ b a i h e. out b a i (omega (arith, suc-mul y s.width, fits.wide)) e);
  }

  done_rows : (n : ℕ) → s.top + n ≤ s.bottom → Done l s (rebuilt_rows l s s.top n) ((s.top + n) * s.width + s.left)
  unfolding rebuilt_rows
  done_rows zero h =
      let none : (b a : ℕ) → Inside s b a → b * s.width + a < (s.top + zero) * s.width + s.left → ⊥ =
      λ b a i o. let t : s.top + zero ≤ b = omega (arith, i.below) in omega (arith, mul-le-mul_right s.width t, i.right_of) in
      record { long = refl; here = λ b a i o. absurd (none b a i o); other = λ k out. refl }
  done_rows (suc n) h =
      let e : s.left + (s.right - s.left) ≡ s.right = omega (arith, fits.columns) in
      let f : s.top + suc n ≡ suc (s.top + n) = omega arith in
      let m = rebuilt_rows l s s.top n in
      let r = rebuilt_row m s (s.top + n) s.left (s.right - s.left) in
      let d : Done l s r ((s.top + n) * s.width + (s.left + (s.right - s.left))) =
      done_row m (s.top + n) (s.right - s.left) (omega arith) (omega arith) (omega arith) (done_rows n (omega arith)) in
      rw f (done_next r (s.top + n) (rw e at d))

  done_strip : Done l s (rebuilt_strip l s) (s.bottom * s.width + s.left)
  done_strip =
      let e : s.top + (s.bottom - s.top) ≡ s.bottom = omega (arith, fits.rows) in
      let d = done_rows (s.bottom - s.top) (omega arith) in
      rw e at d

  -- in the end each place of the strip has its value, made of what is there
  pub rebuilt_here : (y x : ℕ) → Inside s y x → plane_from (rebuilt_strip l s) s.rebuilt s.width y x ≡ value_in (rebuilt_strip l s) s y x
  rebuilt_here y x i =
      done_strip.here y x i (omega (arith, mul-le-mul_right s.width i.above, suc-mul y s.width, i.left-of, fits.wide))

  -- nothing else has changed
  pub rebuilt_other : (i : ℕ) → ((y x : ℕ) → Inside s y x → i ≡ s.rebuilt + (y * s.width + x) → ⊥) → at (rebuilt_strip l s) i ≡ at l i
  rebuilt_other i out = done_strip.other i (λ y x j h e. out y x j e)

  pub rebuilt-outside : (i : ℕ) → (s.rebuilt ≤ i → s.rebuilt + s.height * s.width ≤ i) → at (rebuilt_strip l s) i ≡ at l i
  rebuilt-outside i out = rebuilt_other i (λ y x j e. let o = out (omega arith) in omega (arith, number_lt y x j))

-- ---- the unit's rebuilt plane
-- s is slice k's strip of the band b at index i, predicted
pub record Predicted (g : Grid) (b : Band) (i k : ℕ) (s : Strip) : Type 0 where
  pub width : s.width ≡ b.wide
  pub height : s.height ≡ b.high
  pub first-row : s.top ≡ top g (size_of b) k
  pub last_row : s.bottom ≡ bottom g (size_of b) k
  pub first-column : s.left ≡ left g (size_of b) k
  pub last_column : s.right ≡ right g (size_of b) k
  pub factor : s.factor ≡ quant_factor i
  pub offset : s.offset ≡ quant_offset i
  pub predicted : s.predicted ≡ true

module _ (g : Grid) (b : Band) (i k : ℕ) (s : Strip) (of : Predicted g b i k s) where
  inside_yes : (y x : ℕ) → Inside s y x → inside g (size_of b) k y x ≡ true
  inside_yes y x j = within→inside g (size_of b) k y x (record {
    below_top = omega (arith, of.first-row, j.below);
    above_bottom = omega (arith, of.last_row, j.above);
    right_of = omega (arith, of.first-column, j.right_of);
    left-of = omega (arith, of.last_column, j.left-of);
  })

  yes_inside : (y x : ℕ) → inside g (size_of b) k y x ≡ true → Inside s y x
  yes_inside y x e =
      let j = inside→within g (size_of b) k y x e in
      record {
        below = omega (arith, of.first-row, j.below_top);
        above = omega (arith, of.last_row, j.above_bottom);
        right_of = omega (arith, of.first-column, j.right_of);
        left-of = omega (arith, of.last_column, j.left-of);
      }

  value_predicted : (m : List ℤ) (y x : ℕ) (v : ℤ) → plane_from m s.coefs s.width y x ≡ v
      → value_in m s y x ≡ rebuilt_at i v (predict (plane_from m s.rebuilt s.width) y x)
  unfolding forward_quant inverse_quant
  value_predicted m y x v e =
      let p = predict (plane_from m s.rebuilt s.width) y x in
      ap₂ (λ (p c : ℤ). p +ℤ inverse_by s.factor s.offset (forward_by s.factor (c -ℤ p))) (sym (prediction_yes m s s.rebuilt y x of.predicted)) e
      ∙ ap₂ (λ (f o : ℕ). p +ℤ inverse_by f o (forward_by f (v -ℤ p))) of.factor of.offset

  number_predicted : (m : List ℤ) (y x : ℕ) (v : ℤ) → plane_from m s.coefs s.width y x ≡ v
      → firsts m s y x ≡ number_at i v (predict (plane_from m s.rebuilt s.width) y x)
  unfolding forward_quant
  number_predicted m y x v e =
      let p = predict (plane_from m s.rebuilt s.width) y x in
      ap₂ (λ (p c : ℤ). forward_by s.factor (c -ℤ p)) (sym (prediction_yes m s s.rebuilt y x of.predicted)) e
      ∙ ap (λ (f : ℕ). forward_by f (v -ℤ p)) of.factor

  -- the strip's coefficients in l are the band's
  module _ (l : List ℤ) (has : (y x : ℕ) → Inside s y x → plane_from l s.coefs s.width y x ≡ b.plane y x) where
    -- from a plane that agrees with r the strip leaves r rebuilt
    pub rebuilt_is : (r : Plane) → Apart l s → Agree b.high b.wide (plane_from l s.rebuilt s.width) r
        → Agree b.high b.wide (plane_from (rebuilt_strip l s) s.rebuilt s.width) (rebuilt g b i k r)
    unfolding rebuilt
    rebuilt_is r fits old =
        scan_unique (λ y x p. elim (inside g (size_of b) k y x) [ true ↦ rebuilt_at i (b.plane y x) p | false ↦ r y x ]) b.high b.wide n
        (record { recurs = λ y x hy hx. by y x hy hx (inside g (size_of b) k y x) refl })
      where
        n : Plane
        n = plane_from (rebuilt_strip l s) s.rebuilt s.width

        by : (y x : ℕ) → y < b.high → x < b.wide → (t : Bool) → inside g (size_of b) k y x ≡ t
            → n y x ≡ elim t as (λ z. ℤ) [ true ↦ rebuilt_at i (b.plane y x) (predict n y x) | false ↦ r y x ]
        by y x hy hx true e =
            let j = yes_inside y x e in
            rebuilt_here l s fits y x j
            ∙ value_predicted (rebuilt_strip l s) y x (b.plane y x)
            (rebuilt-outside l s fits (s.coefs + (y * s.width + x)) (λ o. omega (arith, fits.ahead)) ∙ has y x j)
        by y x hy hx false e =
            rebuilt_other l s fits (s.rebuilt + (y * s.width + x))
            (λ v u j o.
            let f : y * s.width + x ≡ v * s.width + u = omega arith in
            let hx' : x < s.width = omega (arith, of.width) in
            let hu : u < s.width = omega (arith, j.left-of, fits.wide) in
            no_truth (sym (inside_yes v u j)
            ∙ ap₂ (λ (y x : ℕ). inside g (size_of b) k y x) (sym (same_row s.width y x v u hx' hu f)) (sym (same-column s.width y x v u hx' hu f)) ∙ e))
            ∙ old.same y x hy hx

    -- where the work slice has the rebuilt plane n, the strip's numbers are made against its predictions
    pub strip_predicted : (n : Plane) → s.second ≡ None → s.bottom ≤ s.height → s.right ≤ s.width
        → Agree b.high b.wide (plane_from l s.rebuilt s.width) n
        → strip_numbers l s ≡ region (λ y x. number_at i (b.plane y x) (predict n y x)) s.top s.bottom s.left s.right
    strip_predicted n one high wide same =
        let p = plane_from l s.rebuilt s.width in
        strip_part l s one
        ∙ region_cong (firsts l s) (λ y x. number_at i (b.plane y x) (predict n y x)) s.top s.bottom s.left s.right
        (λ y x ht hb hl hr.
        number_predicted l y x (b.plane y x) (has y x (record { below = ht; above = hb; right_of = hl; left-of = hr }))
        ∙ ap (number_at i (b.plane y x))
        (predict-same p n y x (neighbours (λ v u. p v u ≡ n v u) y x
        (λ v u hv hu. same.same v u (omega (arith, of.height)) (omega (arith, of.width))))))
