-- How large the analysis of a row makes its numbers, stage by stage, and that every sum and product of it is a number
-- of 64 bits while the bounds stay below 2 ^ 63: what `wr` does with any other number changes nothing.
use Rattle.std.specs.Prelude.{◌≡◌, ℕ, zero, suc, ◌+◌, ◌-◌, ◌*◌, ◌/◌, ◌%◌, ◌^◌, ◌<◌, ◌≤◌, Bool, true, false, cond, not, List, [], ◌∷◌, map, length, ℤ, pos, ◌+ℤ◌, ◌-ℤ◌, ◌*ℤ◌, ◌==◌, ◌≢◌, slice_index, slice_index_or, unsigned_abs}
use Rattle.std.proofs.Math.Path.{refl}
use Rattle.std.proofs.Common.{sym, ap, ◌∙◌, mul-add, one-mul, mul-le-mul_right, le_trans, lt_of_le_of_lt, ext_get_or, pow_pos, eq-eqb, ne_eqb}
use native.Mathlib.Omega.{arith}
use Rattle.std.proofs.Math.Nat.{add-mul, mul-le-mul_left, le_of_mul-le-mul_left}
use Rattle.std.proofs.Math.Decide.{ℕ_discrete, dec_lt}
use Rattle.std.proofs.Math.ListN.{get_or-eq_default}
use Rattle.laws.specs.Laws.Integer.{abs_add, abs_sub, abs_mul, abs_floor}
use Rattle.laws.specs.Laws.Machine.{fit}
use Rattle.laws.specs.Rows.{at}
use Rattle.wavelet.specs.Lifting.{Keeps, Stage, place, exact, dot, delta, change, lifted, unlift, analysis}
use Rattle.wavelet.specs.Laws.Lifting.{each_filter, place_law, length-lifted, length-analysis, hit, miss}
use Rattle.wavelet.specs.Laws.Product.{mul-sum}
use Rattle.wavelet.specs.Filters.{dd97, legall, dd137, haar0, haar1, fidelity, daub97, filter_of, analysis_by}

-- the sum of the sizes of the first k taps
unfoldable pub gain : (ℕ → ℤ) → ℕ → ℕ
gain t zero = 0
gain t (suc k) = gain t k + unsigned_abs (t k)

module _ (t x : ℕ → ℤ) (r : ℕ) (b : (k : ℕ) → unsigned_abs (x k) ≤ r) where
  dot_abs : (m : ℕ) → unsigned_abs (dot exact t x m) ≤ gain t m * r
  unfolding dot gain
  dot_abs zero = omega arith
  dot_abs (suc m) =
      omega (arith, dot_abs m, abs_add (dot exact t x m) (t m *ℤ x m), abs_mul (t m) (x m), mul-le-mul_left (unsigned_abs (t m)) (b m), add-mul (gain t m) (unsigned_abs (t m)) r)

  dot-same : (wr : ℤ → ℤ) → Keeps wr → (m : ℕ) → gain t m * r < 2 ^ 63 → dot wr t x m ≡ dot exact t x m
  unfolding dot gain
  dot-same wr keeps zero h = refl
  dot-same wr keeps (suc m) h =
      let a = add-mul (gain t m) (unsigned_abs (t m)) r in
      let p = mul-le-mul_left (unsigned_abs (t m)) (b m) in
      let e = abs_mul (t m) (x m) in
      let w : wr (t m *ℤ x m) ≡ t m *ℤ x m = keeps (t m *ℤ x m) (fit (t m *ℤ x m) (omega arith)) in
      rw (dot-same wr keeps m (omega arith), w)
      (keeps (dot exact t x m +ℤ t m *ℤ x m) (fit (dot exact t x m +ℤ t m *ℤ x m) (omega (arith, dot_abs m, abs_add (dot exact t x m) (t m *ℤ x m)))))

-- what one stage asks: u and r bound the places that it updates and reads, and v the updated ones
pub record Enough (st : Stage) (u r v : ℕ) : Type 0 where
  pub room : 2 ^ st.shift * u + (gain (at st.taps) (length st.taps) * r + 2 ^ st.shift / 2 + 2 ^ st.shift) ≤ 2 ^ st.shift * v
  pub sums : gain (at st.taps) (length st.taps) * r + 2 ^ st.shift / 2 < 2 ^ 63
  pub fits : v < 2 ^ 63

pair_same : (wr : ℤ → ℤ) → Keeps wr → (t x y : ℤ) (r : ℕ) → 1 ≤ unsigned_abs t → unsigned_abs x ≤ r → unsigned_abs y ≤ r → (unsigned_abs t + unsigned_abs t) * r < 2 ^ 63
    → wr (t *ℤ wr (x +ℤ y)) ≡ t *ℤ x +ℤ t *ℤ y
pair_same wr keeps t x y r some hx hy h =
    let s : unsigned_abs (x +ℤ y) ≤ 2 * r = omega (arith, abs_add x y) in
    let a = add-mul (unsigned_abs t) (unsigned_abs t) r in
    let m = mul-le-mul_left (unsigned_abs t) s in
    let d : unsigned_abs t * (2 * r) ≡ unsigned_abs t * r + unsigned_abs t * r = ap (λ (k : ℕ). unsigned_abs t * k) (omega arith) ∙ mul-add (unsigned_abs t) r r in
    let o : r ≤ unsigned_abs t * r = omega (arith, mul-le-mul_right r some, one-mul r) in
    rw (keeps (x +ℤ y) (fit (x +ℤ y) (omega arith)))
    (keeps (t *ℤ (x +ℤ y)) (fit (t *ℤ (x +ℤ y)) (omega (arith, abs_mul t (x +ℤ y)))) ∙ mul-sum t x y)

-- two equal taps t as lift::run_two sums them, t times the sum of two numbers: with the room that a stage of these
-- taps asks this wraps nowhere either
pub pair_wraps_nowhere : (wr : ℤ → ℤ) → Keeps wr → (st : Stage) (t x y : ℤ) (u r v : ℕ) → Enough st u r v → st.taps ≡ t ∷ t ∷ []
    → 1 ≤ unsigned_abs t → unsigned_abs x ≤ r → unsigned_abs y ≤ r → wr (t *ℤ wr (x +ℤ y)) ≡ t *ℤ x +ℤ t *ℤ y
unfolding gain
pair_wraps_nowhere wr keeps st t x y u r v e taps some hx hy =
    let g : gain (at st.taps) (length st.taps) ≡ unsigned_abs t + unsigned_abs t = ap (λ (l : List ℤ). gain (at l) (length l)) taps ∙ omega arith in
    let s : (unsigned_abs t + unsigned_abs t) * r + 2 ^ st.shift / 2 < 2 ^ 63 = rw g at e.sums in
    pair_same wr keeps t x y r some hx hy (omega arith)

-- places of one parity are at most u, the others at most r
pub record Under (to u r : ℕ) (xs : List ℤ) : Type 0 where
  pub mine : (k : ℕ) → k % 2 ≡ to → unsigned_abs (at xs k) ≤ u
  pub others : (k : ℕ) → k % 2 ≡ 1 - to → unsigned_abs (at xs k) ≤ r

module _ (st : Stage) (xs : List ℤ) (u r v : ℕ) (side : st.to ≤ 1) (even : length xs % 2 ≡ 0) (small : Under st.to u r xs) (enough : Enough st u r v) where
  abbrev read : ℕ → ℕ → ℤ
  read n k = at xs (place st (length xs) n k)

  abbrev tap_sum : ℕ → ℤ
  tap_sum n = dot exact (at st.taps) (read n) (length st.taps)

  read_abs : (n : ℕ) → n < length xs / 2 → (k : ℕ) → unsigned_abs (read n k) ≤ r
  read_abs n l k = small.others (place st (length xs) n k) ((place_law st (length xs) n k side l).other even)

  tap_sum_abs : (n : ℕ) → n < length xs / 2 → unsigned_abs (tap_sum n +ℤ pos (2 ^ st.shift / 2)) ≤ gain (at st.taps) (length st.taps) * r + 2 ^ st.shift / 2
  tap_sum_abs n l =
      let a = dot_abs (at st.taps) (read n) r (read_abs n l) (length st.taps) in
      le_trans (abs_add (tap_sum n) (pos (2 ^ st.shift / 2))) (omega (arith, a))

  delta-same : (wr : ℤ → ℤ) → Keeps wr → (n : ℕ) → n < length xs / 2 → delta wr st xs n ≡ delta exact st xs n
  unfolding delta
  delta-same wr keeps n l =
      let g = enough.sums in
      rw (
        dot-same (at st.taps) (read n) r (read_abs n l) wr keeps (length st.taps) (omega arith),
        keeps (tap_sum n +ℤ pos (2 ^ st.shift / 2)) (fit (tap_sum n +ℤ pos (2 ^ st.shift / 2)) (lt_of_le_of_lt (tap_sum_abs n l) g)),
      )

  delta_abs : (n : ℕ) → n < length xs / 2 → 2 ^ st.shift * unsigned_abs (delta exact st xs n) ≤ gain (at st.taps) (length st.taps) * r + 2 ^ st.shift / 2 + 2 ^ st.shift
  unfolding delta
  delta_abs n l = omega (arith, abs_floor (tap_sum n +ℤ pos (2 ^ st.shift / 2)) (2 ^ st.shift), tap_sum_abs n l)

  change_abs : (b : Bool) (x y : ℤ) → unsigned_abs (change exact b x y) ≤ unsigned_abs x + unsigned_abs y
  change_abs true x y = abs_add x y
  change_abs false x y = abs_sub x y

  change-same : (wr : ℤ → ℤ) → Keeps wr → (b : Bool) (x y : ℤ) → unsigned_abs (change exact b x y) < 2 ^ 63 → change wr b x y ≡ change exact b x y
  change-same wr keeps true x y h = keeps (x +ℤ y) (fit (x +ℤ y) h)
  change-same wr keeps false x y h = keeps (x -ℤ y) (fit (x -ℤ y) h)

  new_abs : (b : Bool) (n : ℕ) → n < length xs / 2 → unsigned_abs (change exact b (at xs (2 * n + st.to)) (delta exact st xs n)) ≤ v
  new_abs b n l =
      let x = at xs (2 * n + st.to) in
      let d = delta exact st xs n in
      let p : unsigned_abs x ≤ u = small.mine (2 * n + st.to) (omega arith) in
      let q : 2 ^ st.shift * (unsigned_abs x + unsigned_abs d) ≤ 2 ^ st.shift * v =
      omega (arith, mul-add (2 ^ st.shift) (unsigned_abs x) (unsigned_abs d), mul-le-mul_left (2 ^ st.shift) p, delta_abs n l, enough.room) in
      le_trans (change_abs b x d) (le_of_mul-le-mul_left {k = 2 ^ st.shift} q (pow_pos st.shift))

  -- the stage keeps to v, and only numbers of 64 bits come to wr
  pub stage_under : (b : Bool) → Under st.to v r (lifted exact st b (length xs / 2) xs)
  stage_under b = record {
    mine = λ k e. by k e (dec_lt k (length xs));
    others = λ k e. rw (miss exact st b (length xs / 2) k xs (λ f. absurd (no_both st.to (k % 2) f e))) (small.others k e);
  }
    where
      no_both : (t c : ℕ) → c ≡ t → c ≢ 1 - t
      no_both t c f g = omega arith

      by : (k : ℕ) → k % 2 ≡ st.to → Dec (k < length xs) → unsigned_abs (at (lifted exact st b (length xs / 2) xs) k) ≤ v
      by k e (yes l) =
          let n : ℕ = k / 2 in
          let here : k ≡ 2 * n + st.to = omega arith in
          let nx : n < length xs / 2 = omega arith in
          rw (here, hit exact st b (length xs / 2) n xs side nx (omega arith)) (new_abs b n nx)
      by k e (no l) =
          rw (get_or-eq_default (lifted exact st b (length xs / 2) xs) (pos 0) {n = k} (rw (length-lifted exact st b (length xs / 2) xs) (omega arith))) (omega arith)

  pub stage-same : (wr : ℤ → ℤ) → Keeps wr → (b : Bool) → lifted wr st b (length xs / 2) xs ≡ lifted exact st b (length xs / 2) xs
  stage-same wr keeps b =
      ext_get_or (pos 0) (lifted wr st b h xs) (lifted exact st b h xs) (length-lifted wr st b h xs ∙ sym (length-lifted exact st b h xs))
      (λ k l. by k (rw (length-lifted wr st b h xs) at l) (ℕ_discrete (k % 2) st.to))
    where
      h : ℕ
      h = length xs / 2

      by : (k : ℕ) → k < length xs → Dec (k % 2 ≡ st.to) → at (lifted wr st b h xs) k ≡ at (lifted exact st b h xs) k
      by k l (no g) = miss wr st b h k xs (λ f. absurd (g f)) ∙ sym (miss exact st b h k xs (λ f. absurd (g f)))
      by k l (yes g) =
          let n : ℕ = k / 2 in
          let here : k ≡ 2 * n + st.to = omega arith in
          let inx : 2 * n + st.to < length xs = omega (arith, l) in
          let nx : n < length xs / 2 = omega arith in
          rw here (hit wr st b h n xs side nx inx
          ∙ ap (change wr b (at xs (2 * n + st.to))) (delta-same wr keeps n nx)
          ∙ change-same wr keeps b (at xs (2 * n + st.to)) (delta exact st xs n) (lt_of_le_of_lt (new_abs b n nx) enough.fits)
          ∙ sym (hit exact st b h n xs side nx inx))

-- ---- from stage to stage, the last one first. vs: a bound for each stage, on the places that it updates
-- what bounds the places of parity p after the stages
abbrev pub reach : ℕ → List Stage → List ℕ → ℕ → ℕ
reach M [] vs p = M
reach M (st ∷ ss) [] p = M
reach M (st ∷ ss) (v ∷ vs) p = cond (p == st.to) v (reach M ss vs p)

abbrev pub Steps : ℕ → List Stage → List ℕ → Type 0
Steps M [] vs = Unit {0}
Steps M (st ∷ ss) [] = ⊥
Steps M (st ∷ ss) (v ∷ vs) = (st.to ≤ 1) × (Enough st (reach M ss vs st.to) (reach M ss vs (1 - st.to)) v × Steps M ss vs)

-- an analysis to which wr does nothing, and how large it leaves its numbers
pub record Grown (wr : ℤ → ℤ) (M : ℕ) (ss : List Stage) (vs : List ℕ) (xs : List ℤ) : Type 0 where
  pub same : analysis wr ss xs ≡ analysis exact ss xs
  pub under : (k : ℕ) → unsigned_abs (at (analysis exact ss xs) k) ≤ reach M ss vs (k % 2)

pub all_stages : (wr : ℤ → ℤ) → Keeps wr → (M : ℕ) (ss : List Stage) (vs : List ℕ) → Steps M ss vs → (xs : List ℤ) → length xs % 2 ≡ 0 → ((k : ℕ) → unsigned_abs (at xs k) ≤ M) → Grown wr M ss vs xs
unfolding analysis
all_stages wr keeps M [] vs t xs l b = record { same = refl; under = b }
all_stages wr keeps M (st ∷ ss) [] t xs l b = absurd t
all_stages wr keeps M (st ∷ ss) (v ∷ vs) t xs l b =
    let g = all_stages wr keeps M ss vs t.1.1 xs l b in
    let ys = analysis exact ss xs in
    let i : length ys % 2 ≡ 0 = rw (length-analysis exact ss xs) l in
    let r = reach M ss vs in
    let w : Under st.to (r st.to) (r (1 - st.to)) ys = record {
      mine = λ k e. rw e at (g.under k);
      others = λ k e. rw e at (g.under k);
    } in
    let z = stage_under st ys (r st.to) (r (1 - st.to)) v t.0 i w t.1.0 (not st.adds) in
    record {
      same = rw g.same (stage-same st ys (r st.to) (r (1 - st.to)) v t.0 i w t.1.0 wr keeps (not st.adds));
      under = λ k. by st ss vs v (unlift exact st ys) t.0 z k (ℕ_discrete (k % 2) st.to);
    }
  where
    by : (st : Stage) (ss : List Stage) (vs : List ℕ) (v : ℕ) (zs : List ℤ) → st.to ≤ 1 → Under st.to v (reach M ss vs (1 - st.to)) zs → (k : ℕ)
        → Dec (k % 2 ≡ st.to) → unsigned_abs (at zs k) ≤ cond (k % 2 == st.to) v (reach M ss vs (k % 2))
    by st ss vs v zs h z k (yes e) = rw (eq-eqb (k % 2) st.to e) (z.mine k e)
    by st ss vs v zs h z k (no n) =
        let e : k % 2 ≡ 1 - st.to = omega arith in
        rw (ne_eqb (k % 2) st.to n, e) (z.others k e)

-- ---- the seven filters
-- for each stage of filter i, in thousandths of the largest number of the row, how large it leaves the places that it
-- updates
unfoldable pub margins : ℕ → List ℕ
margins i = slice_index_or ((3000 ∷ 3000 ∷ []) ∷ (3000 ∷ 3000 ∷ []) ∷ (3000 ∷ 3000 ∷ []) ∷ (3000 ∷ 3000 ∷ []) ∷ (3000 ∷ 3000 ∷ [])
    ∷ (4000 ∷ 3000 ∷ []) ∷ (7408 ∷ 6722 ∷ 1443 ∷ 4173 ∷ []) ∷ []) i []

-- by how much the analysis by filter i makes numbers larger, in thousandths
unfoldable pub growth : ℕ → ℕ
growth i = slice_index (3000 ∷ 3000 ∷ 3000 ∷ 3000 ∷ 3000 ∷ 4000 ∷ 7408 ∷ []) i

unfoldable pub grown : ℕ → ℕ → ℕ
grown i M = growth i * M / 1000

abbrev times : ℕ → ℕ → ℕ
times M g = g * M / 1000

pub record InRange (i M : ℕ) : Type 0 where
  pub low : 2 ^ 16 ≤ M
  pub high : grown i M ≤ 2 ^ 51

steps : (i : ℕ) → i ≤ 6 → (M : ℕ) → InRange i M → Steps M (filter_of i).stages (map (times M) (margins i))
unfolding dd97 legall dd137 haar0 haar1 fidelity daub97 gain margins grown growth
steps = each_filter (λ i. (M : ℕ) → InRange i M → Steps M (filter_of i).stages (map (times M) (margins i)))
    (λ M h. omega arith) (λ M h. omega arith) (λ M h. omega arith) (λ M h. omega arith) (λ M h. omega arith) (λ M h. omega arith) (λ M h. omega arith)

Top : ℕ → Type 0
Top i = (M : ℕ) → (reach M (filter_of i).stages (map (times M) (margins i)) 0 ≤ grown i M) × (reach M (filter_of i).stages (map (times M) (margins i)) 1 ≤ grown i M)

top : (i : ℕ) → i ≤ 6 → Top i
unfolding dd97 legall dd137 haar0 haar1 fidelity daub97 margins grown growth Top
top = each_filter Top (λ M. omega arith) (λ M. omega arith) (λ M. omega arith) (λ M. omega arith) (λ M. omega arith) (λ M. omega arith) (λ M. omega arith)

top-at : (i : ℕ) → i ≤ 6 → (M p : ℕ) → p ≤ 1 → reach M (filter_of i).stages (map (times M) (margins i)) p ≤ grown i M
unfolding Top
top-at i l M zero h = (top i l M).0
top-at i l M (suc zero) h = (top i l M).1
top-at i l M (suc (suc p)) h = absurd (omega arith)

-- the analysis of a row by filter i: numbers of at most M become at most grown i M, and wr does nothing
pub record Pass (wr : ℤ → ℤ) (i M : ℕ) (xs : List ℤ) : Type 0 where
  pub same : analysis_by wr i xs ≡ analysis_by exact i xs
  pub small : (k : ℕ) → unsigned_abs (at (analysis_by exact i xs) k) ≤ grown i M

pub pass : (wr : ℤ → ℤ) → Keeps wr → (i M : ℕ) (xs : List ℤ) → i ≤ 6 → InRange i M → length xs % 2 ≡ 0 → ((k : ℕ) → unsigned_abs (at xs k) ≤ M) → Pass wr i M xs
pass wr keeps i M xs l h e b =
    let g = all_stages wr keeps M (filter_of i).stages (map (times M) (margins i)) (steps i l M h) xs e b in
    record { same = g.same; small = λ k. le_trans (g.under k) (top-at i l M (k % 2) (omega arith)) }
