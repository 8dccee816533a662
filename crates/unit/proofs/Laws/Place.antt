-- Every place of a subband is in the window of one slice, its own, and its number stands at its own place there; the
-- standard's loop of stores, slice after slice, leaves that plane.
use Rattle.std.specs.Prelude.{◌≡◌, Bool, true, false, ◌&&◌, ◌≢◌, List, ◌++◌, length, drop, T, leb, ltb, eqb, ℤ, pos}
use Rattle.std.proofs.Math.Path.{refl, ap, ap₂}
use Rattle.std.proofs.Common.{sym, ◌∙◌, subst, zero-add, div-lt_iff_lt-mul, le-div_iff_mul-le, div-add-mod', not-suc-le-zero, drop_at, leb→le, ltb→lt, eqb→eq, le-leb, lt-ltb}
use Prim.Native.Nat.{ℕ, zero, suc, ◌+◌, ◌-◌, ◌*◌, ◌/◌, ◌%◌, ◌≤◌, ◌<◌}
use Rattle.std.proofs.Math.Nat.{mul_comm, mul-le-mul_right, div-mul-le_self, lt-div-mul-add, suc-mul, le_of_suc-le-suc}
use native.Mathlib.Omega.{arith}
use Rattle.std.proofs.Math.Decide.{ℕ_discrete}
use Rattle.std.proofs.Math.ListN.{get_or, get_or-append}
use Rattle.std.proofs.Math.Arith.{digits_div, digits_mod, digits_lt}
use Rattle.std.proofs.Math.Dec.{eqb_refl}
use Rattle.laws.specs.Laws.Rows.{get_or-span}
use Rattle.laws.specs.Plane.{Plane}
use Rattle.laws.specs.Laws.Plane.{row_lt, column-lt}
use Rattle.unit.specs.Sizes.{Size}
use Rattle.unit.specs.Slices.{bound, region, Grid, slice_count, top, bottom, left, right, part_size, part, part_of, slice_of, place_in}
use Rattle.unit.specs.Quantised.{inside}
use Rattle.unit.specs.Reader.{number_plane}
use Rattle.unit.proofs.Laws.Slice.{length_part}

-- ---- a side w cut into n parts
module _ (n w x : ℕ) (hn : 0 < n) (hx : x < w) where
  last_eq : suc (suc x * n - 1) ≡ suc x * n
  last_eq = omega (arith, suc-mul x n)

  pub part-lt : part_of n w x < n
  unfolding part_of
  part-lt = let hw : 0 < w = omega arith in (div-lt_iff_lt-mul hw).1 (omega (arith, last_eq, mul-le-mul_right n hx, mul_comm n w))

  -- the part that x is in holds x
  pub part_low : bound n w (part_of n w x) ≤ x
  unfolding part_of
  part_low =
      let k : ℕ = (suc x * n - 1) / w in
      le_of_suc-le-suc ((div-lt_iff_lt-mul hn).1 (omega (arith, last_eq, div-mul-le_self (suc x * n - 1) w, mul_comm w k)))

  pub part-high : x < bound n w (suc (part_of n w x))
  unfolding part_of
  part-high =
      let k : ℕ = (suc x * n - 1) / w in
      (le-div_iff_mul-le hn).1 (omega (arith, last_eq, lt-div-mul-add {a = suc x * n - 1} {b = w} (omega arith), mul_comm w (suc k), suc-mul k w))

  -- no other part has x
  pub part_unique : (k : ℕ) → bound n w k ≤ x → x < bound n w (suc k) → k ≡ part_of n w x
  unfolding part_of
  part_unique k lo hi =
      let hw : 0 < w = omega arith in
      let a : w * k < suc x * n = (div-lt_iff_lt-mul hn).0 (omega (arith, lo)) in
      let b : suc x * n ≤ w * suc k = (le-div_iff_mul-le hn).0 hi in
      let c : k ≤ (suc x * n - 1) / w = (le-div_iff_mul-le hw).1 (omega (arith, a, mul_comm w k)) in
      let d : (suc x * n - 1) / w < suc k = (div-lt_iff_lt-mul hw).1 (omega (arith, a, b, mul_comm w (suc k))) in
      omega arith

-- a later place is in no earlier part
pub part_mono : (n w a x : ℕ) → x < w → a ≤ x → part_of n w a ≤ part_of n w x
unfolding part_of
part_mono n w a x hx l =
    let hw : 0 < w = omega arith in
    (le-div_iff_mul-le hw).1 (omega (arith, div-mul-le_self (suc a * n - 1) w, mul-le-mul_right n l, suc-mul a n, suc-mul x n))

-- ---- the window of slice k in a subband of size z holds (y, x)
pub record Within (g : Grid) (z : Size) (k y x : ℕ) : Type 0 where
  pub below_top : top g z k ≤ y
  pub above_bottom : y < bottom g z k
  pub right_of : left g z k ≤ x
  pub left-of : x < right g z k

and_T : (a b : Bool) → T (a && b) → T a × T b
and_T true b h = (tt, h)
and_T false b h = absurd h

T_and : (a b : Bool) → T a → T b → a && b ≡ true
T_and true true g h = refl
T_and true false g h = absurd h
T_and false b g h = absurd g

module _ (g : Grid) (z : Size) (k y x : ℕ) where
  pub inside→within : inside g z k y x ≡ true → Within g z k y x
  inside→within e =
      let p = and_T (leb (top g z k) y) _ (subst T (sym e) tt) in
      let q = and_T (ltb y (bottom g z k)) _ p.1 in
      let s = and_T (leb (left g z k) x) _ q.1 in
      record {
        below_top = leb→le (top g z k) y p.0;
        above_bottom = ltb→lt y (bottom g z k) q.0;
        right_of = leb→le (left g z k) x s.0;
        left-of = ltb→lt x (right g z k) s.1;
      }

  pub within→inside : Within g z k y x → inside g z k y x ≡ true
  within→inside i =
      rw (
        le-leb (top g z k) y i.below_top,
        lt-ltb y (bottom g z k) i.above_bottom,
        le-leb (left g z k) x i.right_of,
      ) (lt-ltb x (right g z k) i.left-of)

-- a place not above or left of another is in no earlier slice: a prediction's neighbours are in no later slice
pub slice_mono : (g : Grid) (z : Size) (b a y x : ℕ) → y < z.height → x < z.width → b ≤ y → a ≤ x → slice_of g z b a ≤ slice_of g z y x
slice_mono g z b a y x hy hx hb ha =
    omega (arith, mul-le-mul_right g.across (part_mono g.down z.height b y hy hb), part_mono g.across z.width a x hx ha)

module _ (g : Grid) (z : Size) (hm : 0 < g.down) (hn : 0 < g.across) (y x : ℕ) (hy : y < z.height) (hx : x < z.width) where
  pub slice_lt : slice_of g z y x < slice_count g
  slice_lt = digits_lt (part-lt g.down z.height y hm hy) (part-lt g.across z.width x hn hx)

  slice_row : slice_of g z y x / g.across ≡ part_of g.down z.height y
  slice_row = digits_div (part_of g.down z.height y) (part-lt g.across z.width x hn hx)

  slice_column : slice_of g z y x % g.across ≡ part_of g.across z.width x
  slice_column = digits_mod (part_of g.down z.height y) (part-lt g.across z.width x hn hx)

  -- a place is in its own slice's window
  pub own : Within g z (slice_of g z y x) y x
  own = record {
    below_top = rw slice_row (part_low g.down z.height y hm hy);
    above_bottom = rw slice_row (part-high g.down z.height y hm hy);
    right_of = rw slice_column (part_low g.across z.width x hn hx);
    left-of = rw slice_column (part-high g.across z.width x hn hx);
  }

  -- a place lies in no other slice's window
  pub only : (k : ℕ) → Within g z k y x → k ≡ slice_of g z y x
  only k i =
      sym (div-add-mod' k g.across)
      ∙ ap₂ (λ (a c : ℕ). a * g.across + c)
      (part_unique g.down z.height y hm hy (k / g.across) i.below_top i.above_bottom)
      (part_unique g.across z.width x hn hx (k % g.across) i.right_of i.left-of)

  pub inside_own : inside g z (slice_of g z y x) y x ≡ true
  inside_own = within→inside g z (slice_of g z y x) y x own

  pub inside_other : (k : ℕ) → k ≢ slice_of g z y x → inside g z k y x ≡ false
  inside_other k ne = by (inside g z k y x) refl
    where
      by : (b : Bool) → inside g z k y x ≡ b → inside g z k y x ≡ false
      by true e = absurd (ne (only k (inside→within g z k y x e)))
      by false e = e

-- ---- regions
-- where (y, x) stands in rows from t on and columns l to r
abbrev pub place : ℕ → ℕ → ℕ → ℕ → ℕ → ℕ
place t l r y x = (y - t) * (r - l) + (x - l)

module _ (t b l r y x : ℕ) (ht : t ≤ y) (hb : y < b) (hl : l ≤ x) (hr : x < r) where
  pub place-lt : place t l r y x < (b - t) * (r - l)
  place-lt = digits_lt (omega arith) (omega arith)

  pub get_or-region : (f : Plane) → get_or (region f t b l r) (place t l r y x) (pos 0) ≡ f y x
  unfolding region
  get_or-region f =
      let c : ℕ = r - l in
      let small : x - l < c = omega arith in
      let e : t + (y - t) ≡ y = omega arith in
      let d : l + (x - l) ≡ x = omega arith in
      get_or-span (λ k. f (t + k / c) (l + k % c)) 0 ((b - t) * c) (place t l r y x) (pos 0) place-lt
      ∙ rw (zero-add (place t l r y x), digits_div (y - t) small, digits_mod (y - t) small, e, d)

-- what is behind a slice's part
pub drop-part : (g : Grid) (z : Size) (k : ℕ) (f : Plane) (rest : List ℤ) → drop (part_size g z k) (part g z k f ++ rest) ≡ rest
drop-part g z k f rest = drop_at (part g z k f) rest (part_size g z k) (length_part g z k f)

module _ (g : Grid) (z : Size) (hm : 0 < g.down) (hn : 0 < g.across) (y x : ℕ) (hy : y < z.height) (hx : x < z.width) where
  pub place_in-lt : place_in g z y x < part_size g z (slice_of g z y x)
  place_in-lt =
      let i = own g z hm hn y x hy hx in
      let k : ℕ = slice_of g z y x in
      place-lt (top g z k) (bottom g z k) (left g z k) (right g z k) y x i.below_top i.above_bottom i.right_of i.left-of

  -- a place's number in its own slice's part
  pub part_at : (f : Plane) → get_or (part g z (slice_of g z y x) f) (place_in g z y x) (pos 0) ≡ f y x
  part_at f =
      let i = own g z hm hn y x hy hx in
      let k : ℕ = slice_of g z y x in
      get_or-region (top g z k) (bottom g z k) (left g z k) (right g z k) y x i.below_top i.above_bottom i.right_of i.left-of f

  -- the number read at a place is its own slice's
  pub number_back : (s : ℕ → List ℤ) (f : Plane) (rest : List ℤ) → s (slice_of g z y x) ≡ part g z (slice_of g z y x) f ++ rest → number_plane g z s y x ≡ f y x
  number_back s f rest e =
      let k : ℕ = slice_of g z y x in
      let long : place_in g z y x < length (part g z k f) = rw (length_part g z k f) place_in-lt in
      ap (λ (l : List ℤ). get_or l (place_in g z y x) (pos 0)) e
      ∙ get_or-append (part g z k f) rest (pos 0) (place_in g z y x) long
      ∙ part_at f

-- ---- the standard's loop, 13.5.6: slice after slice, and in a slice's window number after number, row by row
-- the plane p with v stored at (b, a)
abbrev pub store : Plane → ℕ → ℕ → ℤ → Plane
store p b a v y x = elim (eqb b y && eqb a x) [ true ↦ v | false ↦ p y x ]

-- the first n of the numbers vs, in a window of c columns with its corner at (t, l)
unfoldable pub store_first : ℕ → ℕ → ℕ → List ℤ → Plane → ℕ → Plane
store_first t l c vs p zero = p
store_first t l c vs p (suc n) = store (store_first t l c vs p n) (t + n / c) (l + n % c) (get_or vs n (pos 0))

-- the plane p with slice k's numbers vs stored
abbrev pub put : Grid → Size → ℕ → List ℤ → Plane → Plane
put g z k vs p = store_first (top g z k) (left g z k) (right g z k - left g z k) vs p (part_size g z k)

-- the plane p with the numbers of the first k slices stored
unfoldable pub put_all : Grid → Size → (ℕ → List ℤ) → Plane → ℕ → Plane
put_all g z s p zero = p
put_all g z s p (suc k) = put g z k (s k) (put_all g z s p k)

store_by : (t : Bool) (v w u : ℤ) → (t ≡ true → v ≡ u) → (t ≡ false → w ≡ u) → elim t as (λ z. ℤ) [ true ↦ v | false ↦ w ] ≡ u
store_by true v w u a b = a refl
store_by false v w u a b = b refl

-- where (b, a) is (y, x) the value stored counts, elsewhere the old one
pub store_is : (p : Plane) (b a y x : ℕ) (v u : ℤ) → (b ≡ y → a ≡ x → v ≡ u) → ((b ≡ y → a ≡ x → ⊥) → p y x ≡ u) → store p b a v y x ≡ u
store_is p b a y x v u hit miss =
    store_by (eqb b y && eqb a x) v (p y x) u
    (λ e. let h = and_T (eqb b y) (eqb a x) (subst T (sym e) tt) in hit (eqb→eq b y h.0) (eqb→eq a x h.1))
    (λ e. miss (λ f g. subst T (sym (T_and (eqb b y) (eqb a x) (rw f (eqb_refl y)) (rw g (eqb_refl x))) ∙ e) tt))

module _ (t l r : ℕ) (vs : List ℤ) (p : Plane) (y x : ℕ) where
  -- a place of the window gets its number
  pub stored_in : t ≤ y → l ≤ x → x < r → (n : ℕ) → place t l r y x < n → store_first t l (r - l) vs p n y x ≡ get_or vs (place t l r y x) (pos 0)
  unfolding store_first
  stored_in ht hl hr zero h = absurd (not-suc-le-zero h)
  stored_in ht hl hr (suc n) h =
      let c : ℕ = r - l in
      let small : x - l < c = omega arith in
      store_is (store_first t l c vs p n) (t + n / c) (l + n % c) y x (get_or vs n (pos 0)) (get_or vs (place t l r y x) (pos 0))
      (λ e d.
      let f : n / c ≡ y - t = omega arith in
      let g : n % c ≡ x - l = omega arith in
      ap (λ (k : ℕ). get_or vs k (pos 0)) (sym (div-add-mod' n c) ∙ ap₂ (λ (i j : ℕ). i * c + j) f g))
      (λ no.
      let ne : place t l r y x ≢ n = λ e. no
      (rw (← e, digits_div (y - t) small) (omega arith))
      (rw (← e, digits_mod (y - t) small) (omega arith)) in
      stored_in ht hl hr n (omega arith))

  -- another place stays as it was
  pub stored_out : (b : ℕ) → (t ≤ y → y < b → l ≤ x → x < r → ⊥) → (n : ℕ) → n ≤ (b - t) * (r - l) → store_first t l (r - l) vs p n y x ≡ p y x
  unfolding store_first
  stored_out b out zero h = refl
  stored_out b out (suc n) h =
      let c : ℕ = r - l in
      let i = row_lt (b - t) c n h in
      let j = column-lt (b - t) c n h in
      store_is (store_first t l c vs p n) (t + n / c) (l + n % c) y x (get_or vs n (pos 0)) (p y x)
      (λ e d. absurd (out (omega arith) (omega arith) (omega arith) (omega arith)))
      (λ no. stored_out b out n (omega arith))

module _ (g : Grid) (z : Size) (s : ℕ → List ℤ) (p : Plane) (hm : 0 < g.down) (hn : 0 < g.across) (y x : ℕ) (hy : y < z.height) (hx : x < z.width) where
  put_own : (vs : List ℤ) (q : Plane) → put g z (slice_of g z y x) vs q y x ≡ get_or vs (place_in g z y x) (pos 0)
  put_own vs q =
      let i = own g z hm hn y x hy hx in
      let k : ℕ = slice_of g z y x in
      stored_in (top g z k) (left g z k) (right g z k) vs q y x i.below_top i.right_of i.left-of (part_size g z k)
      (place_in-lt g z hm hn y x hy hx)

  put_other : (k : ℕ) (vs : List ℤ) (q : Plane) → k ≢ slice_of g z y x → put g z k vs q y x ≡ q y x
  put_other k vs q ne =
      stored_out (top g z k) (left g z k) (right g z k) vs q y x (bottom g z k)
      (λ a b c d. ne (only g z hm hn y x hy hx k (record { below_top = a; above_bottom = b; right_of = c; left-of = d })))
      (part_size g z k) (omega arith)

  -- once its slice has been stored, a place keeps its number
  pub put-after : (k : ℕ) → slice_of g z y x < k → put_all g z s p k y x ≡ number_plane g z s y x
  unfolding put_all
  put-after zero h = absurd (not-suc-le-zero h)
  put-after (suc k) h = by (ℕ_discrete k (slice_of g z y x)) (put-after k)
    where
      by : Dec (k ≡ slice_of g z y x) → (slice_of g z y x < k → put_all g z s p k y x ≡ number_plane g z s y x)
          → put g z k (s k) (put_all g z s p k) y x ≡ number_plane g z s y x
      by (yes e) next =
          ap (λ (j : ℕ). put g z j (s j) (put_all g z s p k) y x) e ∙ put_own (s (slice_of g z y x)) (put_all g z s p k)
      by (no ne) next = put_other k (s k) (put_all g z s p k) ne ∙ next (omega arith)

  -- after all slices every place has its own slice's number, whatever stood there before
  pub put_plane : put_all g z s p (slice_count g) y x ≡ number_plane g z s y x
  put_plane = put-after (slice_count g) (slice_lt g z hm hn y x hy hx)
