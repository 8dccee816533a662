-- A plane whose values are made from their predictions, row by row: it satisfies the recurrence, and no other plane
-- does.
use Rattle.std.specs.Prelude.{◌≡◌, List, [], ℤ, pos, nat_abs, ◌+ℤ◌, get_or}
use Rattle.std.proofs.Math.Path.{refl, ap, ap₂}
use Rattle.std.proofs.Common.{sym, ◌∙◌, not-suc-le-zero, le_of_suc-le-suc}
use Prim.Native.Nat.{ℕ, zero, suc, ◌+◌, ◌≤◌, ◌<◌}
use native.Mathlib.Omega.{arith}
use Rattle.laws.specs.Rows.{at}
use Rattle.laws.specs.Plane.{Plane}
use Rattle.laws.specs.Laws.Plane.{Agree}
use Rattle.laws.specs.Laws.Integer.{parts, var, ◌⊞◌, Floor, floor_law}
use Rattle.unit.specs.Predict.{mean, predict, first_row, rest_row, next_row, next_rows, scan_rows, scan}

-- ---- neighbours
-- P holds at the neighbours from which (y, x) is predicted
abbrev pub Neighbours : (ℕ → ℕ → Type 0) → ℕ → ℕ → Type 0
Neighbours P zero zero = Unit {0}
Neighbours P zero (suc x) = P zero x
Neighbours P (suc y) zero = P y zero
Neighbours P (suc y) (suc x) = P (suc y) x × P y x × P y (suc x)

-- none of them is below or to the right
pub neighbours_map : (P Q : ℕ → ℕ → Type 0) (y x : ℕ) → ((b a : ℕ) → b ≤ y → a ≤ x → P b a → Q b a) → Neighbours P y x → Neighbours Q y x
neighbours_map P Q zero zero f n = tt
neighbours_map P Q zero (suc x) f n = f zero x (omega arith) (omega arith) n
neighbours_map P Q (suc y) zero f n = f y zero (omega arith) (omega arith) n
neighbours_map P Q (suc y) (suc x) f n =
    (f (suc y) x (omega arith) (omega arith) n.0, f y x (omega arith) (omega arith) n.1, f y (suc x) (omega arith) (omega arith) n.2)

pub neighbours : (P : ℕ → ℕ → Type 0) (y x : ℕ) → ((b a : ℕ) → b ≤ y → a ≤ x → P b a) → Neighbours P y x
neighbours P zero zero f = tt
neighbours P zero (suc x) f = f zero x (omega arith) (omega arith)
neighbours P (suc y) zero f = f y zero (omega arith) (omega arith)
neighbours P (suc y) (suc x) f =
    (f (suc y) x (omega arith) (omega arith), f y x (omega arith) (omega arith), f y (suc x) (omega arith) (omega arith))

-- the neighbours of a place come before it: what passes on from neighbours holds on h rows of w
pub by_neighbours : (h w : ℕ) (P : ℕ → ℕ → Type 0) → ((y x : ℕ) → y < h → x < w → Neighbours P y x → P y x) → (y x : ℕ) → y < h → x < w → P y x
by_neighbours h w P f zero zero hy hx = f zero zero hy hx tt
by_neighbours h w P f zero (suc x) hy hx = f zero (suc x) hy hx (by_neighbours h w P f zero x hy (omega arith))
by_neighbours h w P f (suc y) zero hy hx = f (suc y) zero hy hx (by_neighbours h w P f y zero (omega arith) hx)
by_neighbours h w P f (suc y) (suc x) hy hx =
    f (suc y) (suc x) hy hx (
      by_neighbours h w P f (suc y) x hy (omega arith),
      by_neighbours h w P f y x (omega arith) (omega arith),
      by_neighbours h w P f y (suc x) (omega arith) hx,
    )

-- a prediction depends on its neighbours alone
pub predict-same : (p q : Plane) (y x : ℕ) → Neighbours (λ b a. p b a ≡ q b a) y x → predict p y x ≡ predict q y x
unfolding predict
predict-same p q zero zero e = refl
predict-same p q zero (suc x) e = e
predict-same p q (suc y) zero e = e
predict-same p q (suc y) (suc x) e = rw (e.0, e.1, e.2)

-- the mean rounds down, below 0 too
pub mean_floor : (a b c : ℤ) → Floor (a +ℤ b +ℤ c +ℤ pos 1) (mean a b c) 3
mean_floor a b c = floor_law (a +ℤ b +ℤ c +ℤ pos 1) (omega arith)

mean-most : (a b c : ℤ) (n : ℕ) → nat_abs a ≤ n → nat_abs b ≤ n → nat_abs c ≤ n → nat_abs (mean a b c) ≤ n
mean-most a b c n ha hb hc =
    let v = var a ⊞ var b ⊞ var c ⊞ var (pos 1) in
    let f = mean_floor a b c in
    let m = parts (mean a b c) in
    omega (arith, v.law, f.low, f.high, (parts a).abs, (parts b).abs, (parts c).abs, m.abs, m.one_side)

-- a prediction is not larger than the neighbours are
pub predict-most : (p : Plane) (n y x : ℕ) → Neighbours (λ b a. nat_abs (p b a) ≤ n) y x → nat_abs (predict p y x) ≤ n
unfolding predict
predict-most p n zero zero e = omega arith
predict-most p n zero (suc x) e = e
predict-most p n (suc y) zero e = e
predict-most p n (suc y) (suc x) e = mean-most (p (suc y) x) (p y x) (p y (suc x)) n e.0 e.1 e.2

-- ---- the recurrence
-- on h rows of w, g makes each value from its place and its prediction
pub record Recurs (g : ℕ → ℕ → ℤ → ℤ) (h w : ℕ) (p : Plane) : Type 0 where
  pub recurs : (y x : ℕ) → y < h → x < w → p y x ≡ g y x (predict p y x)

module _ (g : ℕ → ℕ → ℤ → ℤ) where
  first-zero : (x : ℕ) (l : ℤ) (n : ℕ) → 0 < n → at (first_row g x l n) 0 ≡ g 0 x l
  unfolding first_row
  first-zero x l zero h = absurd (not-suc-le-zero h)
  first-zero x l (suc n) h = refl

  first-suc : (x : ℕ) (l : ℤ) (n k : ℕ) → suc k < n → at (first_row g x l n) (suc k) ≡ g 0 (x + suc k) (at (first_row g x l n) k)
  unfolding first_row
  first-suc x l zero k h = absurd (not-suc-le-zero h)
  first-suc x l (suc n) zero h = first-zero (suc x) (g 0 x l) n (le_of_suc-le-suc h) ∙ ap (λ (a : ℕ). g 0 a (g 0 x l)) (omega arith)
  first-suc x l (suc n) (suc k) h =
      first-suc (suc x) (g 0 x l) n k (le_of_suc-le-suc h) ∙ ap (λ (a : ℕ). g 0 a (at (first_row g (suc x) (g 0 x l) n) k)) (omega arith)

  rest_zero : (y : ℕ) (u : List ℤ) (x : ℕ) (l : ℤ) (n : ℕ) → 0 < n → at (rest_row g y u x l n) 0 ≡ g y (suc x) (mean l (at u x) (at u (suc x)))
  unfolding rest_row
  rest_zero y u x l zero h = absurd (not-suc-le-zero h)
  rest_zero y u x l (suc n) h = refl

  rest_suc : (y : ℕ) (u : List ℤ) (x : ℕ) (l : ℤ) (n k : ℕ) → suc k < n
      → at (rest_row g y u x l n) (suc k) ≡ g y (suc x + suc k) (mean (at (rest_row g y u x l n) k) (at u (x + suc k)) (at u (suc x + suc k)))
  unfolding rest_row
  rest_suc y u x l zero k h = absurd (not-suc-le-zero h)
  rest_suc y u x l (suc n) zero h =
      let v = g y (suc x) (mean l (at u x) (at u (suc x))) in
      let e : suc x ≡ x + 1 = omega arith in
      let d : suc (suc x) ≡ suc x + 1 = omega arith in
      rest_zero y u (suc x) v n (le_of_suc-le-suc h) ∙ ap₂ (λ (i j : ℕ). g y j (mean v (at u i) (at u j))) e d
  rest_suc y u x l (suc n) (suc k) h =
      let v = g y (suc x) (mean l (at u x) (at u (suc x))) in
      let e : suc x + suc k ≡ x + suc (suc k) = omega arith in
      let d : suc (suc x) + suc k ≡ suc x + suc (suc k) = omega arith in
      rest_suc y u (suc x) v n k (le_of_suc-le-suc h) ∙ ap₂ (λ (i j : ℕ). g y j (mean (at (rest_row g y u (suc x) v n) k) (at u i) (at u j))) e d

  next-zero : (y : ℕ) (u : List ℤ) (w : ℕ) → 0 < w → at (next_row g y u w) 0 ≡ g y 0 (at u 0)
  unfolding next_row
  next-zero y u zero h = absurd (not-suc-le-zero h)
  next-zero y u (suc w) h = refl

  next-suc : (y : ℕ) (u : List ℤ) (w k : ℕ) → suc k < w → at (next_row g y u w) (suc k) ≡ g y (suc k) (mean (at (next_row g y u w) k) (at u k) (at u (suc k)))
  unfolding next_row
  next-suc y u zero k h = absurd (not-suc-le-zero h)
  next-suc y u (suc w) zero h = rest_zero y u 0 (g y 0 (at u 0)) w (le_of_suc-le-suc h)
  next-suc y u (suc w) (suc k) h =
      let v = g y 0 (at u 0) in
      let e : 0 + suc k ≡ suc k = omega arith in
      let d : 1 + suc k ≡ suc (suc k) = omega arith in
      rest_suc y u 0 v w k (le_of_suc-le-suc h) ∙ ap₂ (λ (i j : ℕ). g y j (mean (at (rest_row g y u 0 v w) k) (at u i) (at u j))) e d

  rows-zero : (w y : ℕ) (u : List ℤ) (n : ℕ) → 0 < n → get_or (next_rows g w y u n) 0 [] ≡ next_row g y u w
  unfolding next_rows
  rows-zero w y u zero h = absurd (not-suc-le-zero h)
  rows-zero w y u (suc n) h = refl

  rows-suc : (w y : ℕ) (u : List ℤ) (n k : ℕ) → suc k < n → get_or (next_rows g w y u n) (suc k) [] ≡ next_row g (y + suc k) (get_or (next_rows g w y u n) k []) w
  unfolding next_rows
  rows-suc w y u zero k h = absurd (not-suc-le-zero h)
  rows-suc w y u (suc n) zero h =
      let e : suc y ≡ y + 1 = omega arith in
      rows-zero w (suc y) (next_row g y u w) n (le_of_suc-le-suc h) ∙ ap (λ (i : ℕ). next_row g i (next_row g y u w) w) e
  rows-suc w y u (suc n) (suc k) h =
      let r = next_row g y u w in
      let e : suc y + suc k ≡ y + suc (suc k) = omega arith in
      rows-suc w (suc y) r n k (le_of_suc-le-suc h) ∙ ap (λ (i : ℕ). next_row g i (get_or (next_rows g w (suc y) r n) k []) w) e

  scan-zero : (h w : ℕ) → 0 < h → get_or (scan_rows g h w) 0 [] ≡ first_row g 0 (pos 0) w
  unfolding scan_rows
  scan-zero zero w l = absurd (not-suc-le-zero l)
  scan-zero (suc h) w l = refl

  scan-suc : (h w y : ℕ) → suc y < h → get_or (scan_rows g h w) (suc y) [] ≡ next_row g (suc y) (get_or (scan_rows g h w) y []) w
  unfolding scan_rows
  scan-suc zero w y l = absurd (not-suc-le-zero l)
  scan-suc (suc h) w zero l = rows-zero w 1 (first_row g 0 (pos 0) w) h (le_of_suc-le-suc l)
  scan-suc (suc h) w (suc y) l =
      let r = first_row g 0 (pos 0) w in
      let e : 1 + suc y ≡ suc (suc y) = omega arith in
      rows-suc w 1 r h y (le_of_suc-le-suc l) ∙ ap (λ (i : ℕ). next_row g i (get_or (next_rows g w 1 r h) y []) w) e

  pub scan_recurs : (h w : ℕ) → Recurs g h w (scan g h w)
  unfolding scan predict
  scan_recurs h w = record { recurs = go }
    where
      go : (y x : ℕ) → y < h → x < w → scan g h w y x ≡ g y x (predict (scan g h w) y x)
      go zero zero hy hx = rw (scan-zero h w hy) (first-zero 0 (pos 0) w hx)
      go zero (suc x) hy hx = rw (scan-zero h w hy) (first-suc 0 (pos 0) w x hx ∙ ap (λ (i : ℕ). g 0 i (at (first_row g 0 (pos 0) w) x)) (omega arith))
      go (suc y) zero hy hx = rw (scan-suc h w y hy) (next-zero (suc y) (get_or (scan_rows g h w) y []) w hx)
      go (suc y) (suc x) hy hx = rw (scan-suc h w y hy) (next-suc (suc y) (get_or (scan_rows g h w) y []) w x hx)

-- ---- only one plane satisfies it
pub recurs_unique : (g : ℕ → ℕ → ℤ → ℤ) (h w : ℕ) (p q : Plane) → Recurs g h w p → Recurs g h w q → Agree h w p q
recurs_unique g h w p q e d =
    record {
      same = by_neighbours h w (λ y x. p y x ≡ q y x)
          (λ y x hy hx n. e.recurs y x hy hx ∙ ap (g y x) (predict-same p q y x n) ∙ sym (d.recurs y x hy hx));
    }

pub scan_unique : (g : ℕ → ℕ → ℤ → ℤ) (h w : ℕ) (p : Plane) → Recurs g h w p → Agree h w p (scan g h w)
scan_unique g h w p e = recurs_unique g h w p (scan g h w) e (scan_recurs g h w)
