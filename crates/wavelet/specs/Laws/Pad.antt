-- Padding row by row, and that padded sides are multiples of powers of two.
use Rattle.std.specs.Prelude.{◌≡◌, ℕ, zero, suc, ◌+◌, ◌-◌, ◌*◌, ◌/◌, ◌%◌, ◌^◌, ◌<◌, ◌≤◌, min, List, [], ◌∷◌, ◌++◌, length, take, drop, replicate, ℤ, slice_index, refl, set, pos, ◌-ℤ◌, FitsSigned, slice_set}
use Rattle.std.proofs.Common.{sym, ap, ap₂, ◌∙◌, arith, zero-add, append-nil, length-drop, length-take-le, take_at, get_or-take, get_or-drop, div-add-mod', suc-mul, mul-le-mul_right, length-set, drop_at, pow_pos, to_z, of_z, to_z-of_z}
use Rattle.std.proofs.Math.Nat.{mul-mod_left, min-le_right, min-eq_left, min-eq_right, pow-le-pow_right}
use Rattle.std.proofs.Math.Arith.{digits_div}
use Rattle.std.proofs.Math.Decide.{dec_lt}
use Rattle.std.proofs.lemmas.List.{drop_all}
use Rattle.laws.specs.Ceiling.{rounded_up}
use Rattle.std.proofs.Math.Seq.{drop-length}
use Rattle.std.specs.Int.{w64}
use Rattle.std.proofs.Math.Facts.{to_z_pos}
use Rattle.laws.specs.Laws.Integer.{var, ◌⊟◌, parts}
use Rattle.laws.specs.Wrap.{wrap}
use Rattle.laws.specs.Rows.{span, row}
use Rattle.laws.specs.Laws.Rows.{length-span, span-append}
use Rattle.laws.specs.Code.Chunks.{chunks}
use Rattle.laws.specs.Laws.Chunks.{fill-turn}
use Rattle.laws.specs.Code.Window.{put}
use Rattle.laws.specs.Laws.Window.{Parts, parts_all}
use Rattle.laws.specs.Plane.{as_list}
use Rattle.wavelet.specs.Planes.{raise, Padded}
use Rattle.wavelet.specs.Laws.PlaneLists.{rows_list}
use Rattle.wavelet.specs.Pad.{centred, padded, padded_side}
use Rattle.wavelet.specs.Code.Pad.{padded_row, padded_from}
use Rattle.wavelet.specs.declared.shape.Component.{Component}
use Rattle.wavelet.specs.RowCall.{row_limit}

-- the samples of row y, which stand from m * w on: place x of them, and the last one for a place behind them
module _ (b : ℕ) (s : List ℕ) (c : Component) (y m x : ℕ) (is : m ≡ min y (c.h - 1)) where
  abbrev line : List ℕ
  line = take (m * c.w + c.w - m * c.w) (drop (m * c.w) s)

  line_at : (k : ℕ) → k < c.w → k ≡ min x (c.w - 1) → raise wrap b (centred c.offset (slice_index line k)) ≡ padded_row b s c y x
  line_at k h e =
      ap (λ (z : ℕ). raise wrap b (centred c.offset z))
      (get_or-take (m * c.w + c.w - m * c.w) (drop (m * c.w) s) k 0 (omega arith) ∙ get_or-drop (m * c.w) s k 0 ∙ ap₂ (λ (n k : ℕ). slice_index s (n * c.w + k)) is e)

  pub padded_in_lem : x < c.w → raise wrap b (centred c.offset (slice_index line x)) ≡ padded_row b s c y x
  padded_in_lem h = line_at x h (omega arith)

  pub padded-behind : 1 ≤ c.w → c.w ≤ x → raise wrap b (centred c.offset (slice_index line (c.w - 1))) ≡ padded_row b s c y x
  padded-behind some h = line_at (c.w - 1) (omega arith) (omega arith)

span-same : (f : ℕ → ℤ) (v : ℤ) (i n : ℕ) → ((k : ℕ) → i ≤ k → k < i + n → v ≡ f k) → replicate n v ≡ span f i n
span-same f v i zero e = refl
span-same f v i (suc n) e = ap₂ ◌∷◌ (e i (omega arith) (omega arith)) (span-same f v (suc i) n (λ k a b. e k (omega arith) (omega arith)))

-- the first m places of a row are there, and the others, lent, come back as one number
pub row_filled : (f : ℕ → ℤ) (v : ℤ) (l now ys : List ℤ) (m : ℕ) → m ≤ length l → length now ≡ length l → now ≡ row m f ++ drop m l
    → ys ≡ replicate (length (take (length now - m) (drop m now))) v → ((k : ℕ) → m ≤ k → k < length l → v ≡ f k)
    → take m now ++ (ys ++ drop (length now - m) (drop m now)) ≡ row (length l) f
row_filled f v l now ys m h long e ey ev =
    let n : ℕ = length now - m in
    let t : take m now ≡ row m f = ap (take m) e ∙ take_at (row m f) (drop m l) m (length-span f 0 m) in
    let some : length (take n (drop m now)) ≡ n = length-take-le n (drop m now) (simp length-drop (omega arith)) in
    let none : drop n (drop m now) ≡ [] = drop_all n (drop m now) (simp length-drop (omega arith)) in
    let whole : m + n ≡ length l = omega arith in
    ap₂ (λ (x z : List ℤ). x ++ (ys ++ z)) t none ∙ ap (λ (z : List ℤ). row m f ++ z) (append-nil ys ∙ ey ∙ ap (λ (k : ℕ). replicate k v) some ∙ span-same f v (0 + m) n (λ k a b. ev k (omega arith) (omega arith)))
    ∙ sym (span-append f 0 m n) ∙ ap (λ (k : ℕ). row k f) whole

pub length-padded : (s : List ℕ) (o w h pw : ℕ) (y : ℕ) → length (row pw (padded s o w h y)) ≡ pw
length-padded s o w h pw y = length-span _ 0 pw

-- all rows are there
pub put_whole : (n : ℕ) (ys l : List ℤ) → length l ≡ n → put 0 n ys l ≡ ys
unfolding put
put_whole n ys l e = ap (λ (k : ℕ). ys ++ drop k l) (zero-add n ∙ sym e) ∙ ap (λ (z : List ℤ). ys ++ z) (drop-length l) ∙ append-nil ys

pub padded_all : (s : List ℕ) (o w h pw ph : ℕ) (l now : List ℤ) (n p : ℕ) → length l ≡ ph * pw → Parts (λ y. row pw (padded s o w h y)) l 0 ph pw now n p → ph ≤ n
    → now ≡ as_list ph pw (padded s o w h)
padded_all s o w h pw ph l now n p e inv hn =
    let F : ℕ → List ℤ = λ y. row pw (padded s o w h y) in
    parts_all F l 0 ph pw now n p inv hn ∙ put_whole (ph * pw) (chunks F ph) l e ∙ rows_list ph pw (padded s o w h)

-- ---- a sample less the offset fits
cast_is : (n : ℕ) → n < 2 ^ 16 → to_z w64 n ≡ pos n
cast_is n h = let f : n < 2 ^ 63 = omega arith in to_z_pos w64 f

pub centred-fits : (o s : ℕ) → o < 2 ^ 16 → s < 2 ^ 16 → FitsSigned w64 (to_z w64 s -ℤ to_z w64 o)
centred-fits o s ho hs =
    let v = var (pos s) ⊟ var (pos o) in
    let f : FitsSigned w64 (pos s -ℤ pos o) = record { sfits = omega (arith, parts (pos s -ℤ pos o)) } in
    rw (cast_is s hs, cast_is o ho) f

pub centred_is : (o s : ℕ) → o < 2 ^ 16 → s < 2 ^ 16 → to_z w64 (of_z w64 (to_z w64 s -ℤ to_z w64 o)) ≡ centred o s
centred_is o s ho hs = to_z-of_z (centred-fits o s ho hs) ∙ ap₂ ◌-ℤ◌ (cast_is s hs) (cast_is o ho)

-- ---- padded sides
-- the multiple of m from n on that is less than m above it
pub next_multiple : (m n r : ℕ) → r % m ≡ 0 → n ≤ r → r < n + m → r ≡ rounded_up m n
next_multiple m n r e l h =
    let k : ℕ = r / m in
    let d : k * m ≡ r = omega (arith, div-add-mod' r m) in
    let s : ℕ = n + (m - 1) - r in
    let f : n + (m - 1) ≡ k * m + s = omega arith in
    let below : s < m = omega arith in
    sym d ∙ ap (λ (q : ℕ). q * m) (sym (ap (λ (z : ℕ). z / m) f ∙ digits_div k below))

pub padded_sides : (k d w h : ℕ) → Padded k d (padded_side d h) (padded_side (k + d) w)
padded_sides k d w h = record { high = mul-mod_left ((h + (2 ^ d - 1)) / 2 ^ d) (2 ^ d); wide = mul-mod_left ((w + (2 ^ (k + d) - 1)) / 2 ^ (k + d)) (2 ^ (k + d)) }

pub scale-le : (n : ℕ) → n ≤ 16 → (1 ≤ 2 ^ n) × (2 ^ n ≤ row_limit)
scale-le n h = (pow_pos n, pow-le-pow_right {n = 2} (omega arith) h)

-- ---- further laws
-- the first k places of a row are there
pub record Filled (b : ℕ) (s : List ℕ) (o w from : ℕ) (l now : List ℤ) (k : ℕ) : Type 0 where
  pub long : length now ≡ length l
  pub now_is : now ≡ row k (padded_from b s o w from) ++ drop k l

pub filled_next : (b : ℕ) (s : List ℕ) (o w from : ℕ) (l now : List ℤ) (k : ℕ) (v : ℤ) → k < length l → Filled b s o w from l now k → v ≡ padded_from b s o w from k
    → Filled b s o w from l (slice_set now k v) (k + 1)
filled_next b s o w from l now k v h q e = record {
  long = simp length-set q.long;
  now_is = ap (set now k) e ∙ fill-turn (padded_from b s o w from) l now k h q.now_is;
}

-- the rest of the row is filled anew from there on
pub filled_again : (b : ℕ) (s : List ℕ) (o w from : ℕ) (l now : List ℤ) (k : ℕ) → Filled b s o w from l now k → Filled b s o w from now now k
filled_again b s o w from l now k q =
    let f = padded_from b s o w from in
    record {
      long = refl;
      now_is = q.now_is ∙ ap (λ (z : List ℤ). row k f ++ z) (sym (ap (drop k) q.now_is ∙ drop_at (row k f) (drop k l) k (length-span f 0 k)));
    }

-- a place of a row of n that the samples do not reach
pub past_samples : (n w k : ℕ) → min n w ≤ k → k < n → w ≤ k
past_samples n w k h l = by (dec_lt n w)
  where
    by : Dec (n < w) → w ≤ k
    by (yes a) = let e : n ≤ w = omega arith in absurd (omega (arith, min-eq_left e))
    by (no a) = let e : w ≤ n = omega arith in omega (arith, min-eq_right e)

-- a place among the samples, and one behind them
pub padded_in_from : (b : ℕ) (s : List ℕ) (o w from k : ℕ) → k < w → raise wrap b (centred o (slice_index s (from + k))) ≡ padded_from b s o w from k
padded_in_from b s o w from k h = let e : k ≤ w - 1 = omega arith in ap (λ (m : ℕ). raise wrap b (centred o (slice_index s (from + m)))) (sym (min-eq_left e))

pub padded_behind_from : (b : ℕ) (s : List ℕ) (o w from k : ℕ) → w ≤ k → raise wrap b (centred o (slice_index s (from + (w - 1)))) ≡ padded_from b s o w from k
padded_behind_from b s o w from k h = let e : w - 1 ≤ k = omega arith in ap (λ (m : ℕ). raise wrap b (centred o (slice_index s (from + m)))) (sym (min-eq_right e))

pub row_from : (s : List ℕ) (w h y : ℕ) → 1 ≤ h → h * w ≤ length s → min y (h - 1) * w + w ≤ length s
row_from s w h y ph f =
    let b : suc (min y (h - 1)) ≤ h = omega (arith, min-le_right y (h - 1)) in
    omega (arith, suc-mul (min y (h - 1)) w, mul-le-mul_right w b)
