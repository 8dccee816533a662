-- Laws of strips: predictions as the code reads them, what a place asks, how large its number and its rebuilt value
-- are, and the numbers of a strip place by place.
use Rattle.std.specs.Prelude.{◌≡◌, Some, None, Option, Bool, true, false, cond, ℤ, pos, nat_abs, ◌+ℤ◌, ◌-ℤ◌, length}
use Rattle.std.proofs.Math.Path.{refl, ap, ap₂}
use Rattle.std.proofs.Common.{sym, ◌∙◌, mul-le-mul_right, get_or-set_same, get_or-set_other, to_z, of_z, to_z-of_z}
use mathlib.Core.List.{List, [], ◌∷◌, ◌++◌}
use Prim.Native.Nat.{ℕ, zero, suc, ◌+◌, ◌*◌, ◌-◌, ◌^◌, ◌≤◌, ◌<◌}
use Rattle.std.proofs.Math.Nat.{suc-mul, zero-mul}
use native.Mathlib.Omega.{arith}
use Rattle.std.proofs.Math.Decide.{ℕ_discrete}
use Rattle.std.proofs.Math.Arith.{digits_lt}
use Rattle.std.proofs.Math.ListN.{set, length-append, length-set}
use Rattle.std.specs.Int.{w64}
use Rattle.laws.specs.Rows.{at}
use Rattle.laws.specs.Code.Chunks.{chunks}
use Rattle.laws.specs.Laws.Machine.{fit}
use Rattle.quantiser.specs.Quant.{quant_factor, quant_offset, forward_by, forward_quant, inverse_by, inverse_quant}
use Rattle.quantiser.specs.Laws.Quant.{quant_factor-least, quant_factor-lt, number-most}
use Rattle.unit.specs.Predict.{mean, predict}
use Rattle.unit.proofs.Laws.Scan.{neighbours, predict-most}
use Rattle.unit.proofs.Laws.Rebuilt.{step-most}
use Rattle.unit.proofs.Laws.Trim.{small_append}
use Rattle.unit.proofs.Laws.Trim as trim
use Rattle.picture.specs.declared.slices.strip.Origin.{Origin}
use Rattle.picture.specs.declared.slices.strip.Strip.{Strip}
use Rattle.picture.specs.Code.Strip.{plane_from, prediction_in, number_in, second_number, place_numbers, row_numbers, rows_numbers, value_in, rebuilt_row, rebuilt_rows, most, reach, Readable, Numbered, Small, Within, Inside}

-- ---- predictions
-- the row above
pub row_up : (w y : ℕ) → (y ≡ 0 → ⊥) → (y - 1) * w + w ≡ y * w
row_up w zero h = absurd (h refl)
row_up w (suc y) h = let e : suc y - 1 ≡ y = omega arith in rw e (sym (suc-mul y w))

-- what is read is what stands there
pub read : {n : ℕ} {l : List ℤ} → Readable n l → (k : ℕ) → k < n → to_z w64 (of_z w64 (at l k)) ≡ at l k
read {n} {l} r k h = to_z-of_z {w = w64} {z = at l k} (fit (at l k) (omega (arith, r.bound k h)))

module _ (l : List ℤ) (base w : ℕ) where
  pub predict_corner : (y x : ℕ) → y ≡ 0 → x ≡ 0 → pos 0 ≡ predict (plane_from l base w) y x
  unfolding predict
  predict_corner y x e d = rw (e, d)

  pub predict-top : (y x : ℕ) → y ≡ 0 → (x ≡ 0 → ⊥) → at l (base + (x - 1)) ≡ predict (plane_from l base w) y x
  unfolding predict
  predict-top y zero e d = absurd (d refl)
  predict-top y (suc x) e d = rw e (ap (at l) (omega (arith, zero-mul w)))

  pub predict_side : (y x : ℕ) → (y ≡ 0 → ⊥) → x ≡ 0 → at l (base + (y - 1) * w) ≡ predict (plane_from l base w) y x
  unfolding predict
  predict_side zero x e d = absurd (e refl)
  predict_side (suc y) x e d = rw d (ap (at l) (omega (arith, row_up w (suc y) e, suc-mul y w)))

  pub predict-mean : (y x : ℕ) → (y ≡ 0 → ⊥) → (x ≡ 0 → ⊥) → let i = base + (y - 1) * w + x in
      mean (at l (i - 1 + w)) (at l (i - 1)) (at l i) ≡ predict (plane_from l base w) y x
  unfolding predict
  predict-mean zero x e d = absurd (e refl)
  predict-mean (suc y) zero e d = absurd (d refl)
  predict-mean (suc y) (suc x) e d =
      let r = row_up w (suc y) e in
      let m = suc-mul y w in
      let i : ℕ = base + (suc y - 1) * w + suc x in
      let a : i - 1 + w ≡ base + (suc y * w + x) = omega arith in
      let b : i - 1 ≡ base + (y * w + x) = omega arith in
      let f : i ≡ base + (y * w + suc x) = omega arith in
      ap₂ (λ (p : ℤ) (q : ℤ). mean p q (at l i)) (ap (at l) a) (ap (at l) b) ∙ ap (mean (at l (base + (suc y * w + x))) (at l (base + (y * w + x)))) (ap (at l) f)

  pub predict-reach : (y x : ℕ) → Readable (base + (y * w + x) + 1) l → nat_abs (predict (plane_from l base w) y x) ≤ reach
  predict-reach y x r =
      let p = plane_from l base w in
      predict-most p reach y x
      (neighbours (λ b a. nat_abs (p b a) ≤ reach) y x (λ b a hb ha. r.bound (base + (b * w + a)) (omega (arith, mul-le-mul_right w hb))))

  -- what the code says of a prediction
  pub is_predict : (y x : ℕ) → Readable (base + (y * w + x) + 1) l → (v : ℤ) → v ≡ predict (plane_from l base w) y x
      → (v ≡ predict (plane_from l base w) y x) × (nat_abs v ≤ reach)
  is_predict y x r v e = (e, rw e (predict-reach y x r))

module _ (l : List ℤ) (s : Strip) (base y x : ℕ) where
  pub prediction_yes : s.predicted ≡ true → predict (plane_from l base s.width) y x ≡ prediction_in l s base y x
  prediction_yes e = ap (λ (t : Bool). cond t (predict (plane_from l base s.width) y x) (pos 0)) (sym e)

  pub prediction_no : s.predicted ≡ false → pos 0 ≡ prediction_in l s base y x
  prediction_no e = ap (λ (t : Bool). cond t (predict (plane_from l base s.width) y x) (pos 0)) (sym e)

  pub prediction-reach : Readable (base + (y * s.width + x) + 1) l → nat_abs (prediction_in l s base y x) ≤ reach
  prediction-reach r = by s.predicted
    where
      by : (t : Bool) → nat_abs (cond t (predict (plane_from l base s.width) y x) (pos 0)) ≤ reach
      by true = predict-reach l base s.width y x r
      by false = omega arith

-- a value rebuilt from a prediction within reach of a coefficient of a picture
value_by : (i : ℕ) (c p : ℤ) → nat_abs c ≤ most → nat_abs p ≤ reach
    → nat_abs (p +ℤ inverse_by (quant_factor i) (quant_offset i) (forward_by (quant_factor i) (c -ℤ p))) ≤ reach
unfolding inverse_quant forward_quant
value_by i c p hc hp = step-most most (omega arith) c p i hc hp

-- ---- what a place asks
module _ {a n : ℕ} {l : List ℤ} {s : Strip} {y x : ℕ} (m : Small a n l) (w : Within a n s) (i : Inside s y x) where
  pub place-lt : y * s.width + x < s.height * s.width
  place-lt = digits_lt {q = y} {m = s.height} {r = x} {c = s.width} (omega (arith, i.above, w.high)) (omega (arith, i.left-of, w.wide))

  pub readable : (base : ℕ) → base + s.height * s.width ≤ n → Readable (base + (y * s.width + x) + 1) l
  readable base h =
      let p = place-lt in
      record { bound = λ k q. m.bound k (omega arith); long = omega (arith, m.long); few = omega (arith, m.few) }

  numbered_by : (coefs base : ℕ) → coefs + s.height * s.width ≤ n → base + s.height * s.width ≤ n → Numbered l s coefs base y x
  numbered_by coefs base hc hb = record {
    coefficient = readable coefs hc;
    plane = readable base hb;
    column = omega (arith, i.left-of, w.wide);
    factor = rw w.factor (quant_factor-least s.index, quant_factor-lt s.index);
  }

  pub numbered : Numbered l s s.coefs s.rebuilt y x
  numbered = numbered_by s.coefs s.rebuilt w.coefs (omega (arith, w.rebuilt, m.order))

  pub numbered_second : (o : Origin) → s.second ≡ Some o → Numbered l s o.coefs o.rebuilt y x
  numbered_second o e = numbered_by o.coefs o.rebuilt (w.coefs2 o e) (omega (arith, w.rebuilt2 o e, m.order))

  -- ---- sizes
  -- a rebuilt value stays within reach
  pub value-reach : nat_abs (value_in l s y x) ≤ reach
  value-reach =
      let p = prediction_in l s s.rebuilt y x in
      let c = plane_from l s.coefs s.width y x in
      let q = place-lt in
      rw (w.factor, w.offset)
      (value_by s.index c p
      (m.coefficients (s.coefs + (y * s.width + x)) (omega (arith, w.behind)) (omega (arith, w.coefs)))
      (prediction-reach l s s.rebuilt y x (readable s.rebuilt (omega (arith, w.rebuilt, m.order)))))

-- a value within reach put into the rebuilt planes
pub small_set : {a n : ℕ} {l : List ℤ} (i : ℕ) (v : ℤ) → Small a n l → i < a → nat_abs v ≤ reach → Small a n (set l i v)
small_set {a} {n} {l} i v m h b = record {
  bound = λ k q. by k q (ℕ_discrete k i);
  coefficients = λ k o q. rw (get_or-set_other l i k v (pos 0) (λ e. omega arith)) (m.coefficients k o q);
  long = rw (length-set l i v) m.long;
  few = m.few;
  order = m.order;
}
  where
    by : (k : ℕ) → k < n → Dec (k ≡ i) → nat_abs (at (set l i v) k) ≤ reach
    by k q (yes e) = rw (e, get_or-set_same l i v (pos 0) (omega (arith, m.long, m.order))) b
    by k q (no e) = rw (get_or-set_other l i k v (pos 0) e) (m.bound k q)

pub number_size : (l : List ℤ) (s : Strip) (coefs base y x : ℕ) → nat_abs (number_in l s coefs base y x) ≤ 2 ^ 63
number_size l s coefs base y x = number-most s.factor (plane_from l coefs s.width y x -ℤ prediction_in l s base y x)

-- ---- numbers, place by place
module _ (l : List ℤ) (s : Strip) where
  -- the numbers of row y, from column x on
  abbrev pub places : ℕ → ℕ → ℕ → List ℤ
  places y x k = place_numbers l s y (x + k)

  -- row y of the strip
  abbrev pub row_at : ℕ → List ℤ
  row_at y = row_numbers l s y s.left (s.right - s.left)

  -- rows from y on
  abbrev pub rows : ℕ → ℕ → List ℤ
  rows y k = row_at (y + k)

  pub row-chunks : (y x n : ℕ) → row_numbers l s y x n ≡ chunks (places y x) n
  unfolding row_numbers chunks
  row-chunks y x zero = refl
  row-chunks y x (suc n) = ap (λ (r : List ℤ). r ++ place_numbers l s y (x + n)) (row-chunks y x n)

  pub rows-chunks : (y n : ℕ) → rows_numbers l s y n ≡ chunks (rows y) n
  unfolding rows_numbers chunks
  rows-chunks y zero = refl
  rows-chunks y (suc n) = ap (λ (r : List ℤ). r ++ rows y n) (rows-chunks y n)

  pub second_one : (o : Origin) (y x : ℕ) (z : ℤ) → s.second ≡ Some o → z ≡ number_in l s o.coefs o.rebuilt y x → second_number l s y x ≡ z ∷ []
  second_one o y x z t e = rw (t, e)

  pub second_none : (y x : ℕ) → s.second ≡ None → second_number l s y x ≡ []
  second_none y x t = rw t

  pub place_is : (y x : ℕ) (z : ℤ) → z ≡ number_in l s s.coefs s.rebuilt y x → place_numbers l s y x ≡ (z ∷ []) ++ second_number l s y x
  unfolding place_numbers
  place_is y x z e = ap (λ (z : ℤ). z ∷ second_number l s y x) (sym e)

  second_small : (y x : ℕ) → trim.Small (second_number l s y x)
  second_small y x = by s.second
    where
      by : (t : Option Origin) → trim.Small (elim t [ Some o ↦ number_in l s o.coefs o.rebuilt y x ∷ [] | None ↦ [] ])
      by (Some o) = (number_size l s o.coefs o.rebuilt y x, tt)
      by None = tt

  second_length : (y x : ℕ) → length (second_number l s y x) ≤ 1
  second_length y x = by s.second
    where
      by : (t : Option Origin) → length {A = ℤ} (elim t [ Some o ↦ number_in l s o.coefs o.rebuilt y x ∷ [] | None ↦ [] ]) ≤ 1
      by (Some o) = omega arith
      by None = omega arith

  pub place_small : (y x : ℕ) → trim.Small (place_numbers l s y x)
  unfolding place_numbers
  place_small y x = (number_size l s s.coefs s.rebuilt y x, second_small y x)

  pub place-length : (y x : ℕ) → length (place_numbers l s y x) ≤ 2
  unfolding place_numbers
  place-length y x = omega (arith, second_length y x)

module _ (F : ℕ → List ℤ) where
  pub chunks_small : (n : ℕ) → ((k : ℕ) → trim.Small (F k)) → trim.Small (chunks F n)
  unfolding chunks
  chunks_small zero h = tt
  chunks_small (suc n) h = small_append (chunks F n) (F n) (chunks_small n h) (h n)

  pub chunks-length : (w n : ℕ) → ((k : ℕ) → length (F k) ≤ w) → length (chunks F n) ≤ n * w
  unfolding chunks
  chunks-length w zero h = omega arith
  chunks-length w (suc n) h = omega (arith, length-append (chunks F n) (F n), chunks-length w n h, h n, suc-mul n w)

pub row_small : (l : List ℤ) (s : Strip) (y x n : ℕ) → trim.Small (row_numbers l s y x n)
row_small l s y x n = rw (row-chunks l s y x n) (chunks_small (places l s y x) n (λ k. place_small l s y (x + k)))

pub row-length : (l : List ℤ) (s : Strip) (y x n : ℕ) → length (row_numbers l s y x n) ≤ n * 2
row-length l s y x n = rw (row-chunks l s y x n) (chunks-length (places l s y x) 2 n (λ k. place-length l s y (x + k)))

pub rows_small : (l : List ℤ) (s : Strip) (y n : ℕ) → trim.Small (rows_numbers l s y n)
rows_small l s y n = rw (rows-chunks l s y n) (chunks_small (rows l s y) n (λ k. row_small l s (y + k) s.left (s.right - s.left)))

pub rows-length : (l : List ℤ) (s : Strip) (y n : ℕ) → length (rows_numbers l s y n) ≤ n * ((s.right - s.left) * 2)
rows-length l s y n = rw (rows-chunks l s y n) (chunks-length (rows l s y) ((s.right - s.left) * 2) n (λ k. row-length l s (y + k) s.left (s.right - s.left)))

-- ---- rebuilt values, place by place
module _ (l : List ℤ) (s : Strip) where
  pub rebuilt-turn : (y from x : ℕ) (m : List ℤ) → from ≤ x → m ≡ rebuilt_row l s y from (x - from)
      → set m (s.rebuilt + (y * s.width + x)) (value_in m s y x) ≡ rebuilt_row l s y from (x + 1 - from)
  unfolding rebuilt_row
  rebuilt-turn y from x m h e =
      let k : ℕ = x - from in
      let d : x + 1 - from ≡ suc k = omega arith in
      let f : x ≡ from + k = omega arith in
      ap₂ (λ (m : List ℤ) (x : ℕ). set m (s.rebuilt + (y * s.width + x)) (value_in m s y x)) e f ∙ ap (rebuilt_row l s y from) (sym d)

  pub rebuilt-rows-turn : (from y : ℕ) (m : List ℤ) → from ≤ y → m ≡ rebuilt_rows l s from (y - from)
      → rebuilt_row m s y s.left (s.right - s.left) ≡ rebuilt_rows l s from (y + 1 - from)
  unfolding rebuilt_rows
  rebuilt-rows-turn from y m h e =
      let k : ℕ = y - from in
      let d : y + 1 - from ≡ suc k = omega arith in
      let f : y ≡ from + k = omega arith in
      ap₂ (λ (m : List ℤ) (y : ℕ). rebuilt_row m s y s.left (s.right - s.left)) e f ∙ ap (rebuilt_rows l s from) (sym d)

  pub rebuilt-length : (y x n : ℕ) → length (rebuilt_row l s y x n) ≡ length l
  unfolding rebuilt_row
  rebuilt-length y x zero = refl
  rebuilt-length y x (suc n) = length-set (rebuilt_row l s y x n) _ _ ∙ rebuilt-length y x n

  pub rebuilt-none : (y x : ℕ) → l ≡ rebuilt_row l s y x (x - x)
  unfolding rebuilt_row
  rebuilt-none y x = let e : x - x ≡ 0 = omega arith in ap (rebuilt_row l s y x) (sym e)

  pub rebuilt-rows-none : (y : ℕ) → l ≡ rebuilt_rows l s y (y - y)
  unfolding rebuilt_rows
  rebuilt-rows-none y = let e : y - y ≡ 0 = omega arith in ap (rebuilt_rows l s y) (sym e)

pub rebuilt-rows-length : (l : List ℤ) (s : Strip) (y n : ℕ) → length (rebuilt_rows l s y n) ≡ length l
unfolding rebuilt_rows
rebuilt-rows-length l s y zero = refl
rebuilt-rows-length l s y (suc n) = rebuilt-length (rebuilt_rows l s y n) s (y + n) s.left (s.right - s.left) ∙ rebuilt-rows-length l s y n

-- rebuilding leaves the work slice small
module _ {a n : ℕ} {l : List ℤ} {s : Strip} (m : Small a n l) (w : Within a n s) where
  pub row_keeps : (y k : ℕ) → s.top ≤ y → y < s.bottom → k ≤ s.right - s.left → Small a n (rebuilt_row l s y s.left k)
  unfolding rebuilt_row
  row_keeps y zero t b h = m
  row_keeps y (suc k) t b h =
      let r = row_keeps y k t b (omega arith) in
      let i : Inside s y (s.left + k) = record { below = t; above = b; right_of = omega arith; left-of = omega arith } in
      small_set _ _ r (omega (arith, place-lt r w i, w.rebuilt)) (value-reach r w i)

pub rows_keep : {a n : ℕ} {l : List ℤ} {s : Strip} → Small a n l → Within a n s → (k : ℕ) → k ≤ s.bottom - s.top → Small a n (rebuilt_rows l s s.top k)
unfolding rebuilt_rows
rows_keep m w zero h = m
rows_keep {s = s} m w (suc k) h = row_keeps (rows_keep m w k (omega arith)) w (s.top + k) (s.right - s.left) (omega arith) (omega arith) (omega arith)
