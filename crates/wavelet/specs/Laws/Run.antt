-- The code's runs of updates make up a lifting stage of a row.
use Rattle.std.specs.Prelude.{◌≡◌, ℕ, zero, suc, ◌+◌, ◌-◌, ◌*◌, ◌/◌, ◌<◌, ◌≤◌, min, max, Bool, not, ◌≢◌, List, [], length, get_or, drop, set, ℤ, pos, ◌+ℤ◌, ◌*ℤ◌, slice_index, slice_index_or, slice_set}
use Rattle.std.proofs.Math.Path.{refl, ap, ap₂}
use Rattle.std.proofs.Common.{sym, ◌∙◌, mul-one, add-one, get_or-set_same}
use native.Mathlib.Omega.{arith}
use Rattle.std.proofs.Math.Nat.{mul-lt-mul_of_pos_left}
use Rattle.std.proofs.Math.ListN.{length-set}
use Rattle.std.proofs.Math.Seq.{get_or-set_other}
use Rattle.std.proofs.Math.IntN.{+ℤ_idl}
use Rattle.laws.specs.Wrap.{wrap}
use Rattle.laws.specs.Laws.Wrap.{wraps, wrap-fits}
use Rattle.laws.specs.Rows.{at}
use Rattle.wavelet.specs.Lifting.{Stage, place, dot, scaled, delta, change, lifted, unlift, analysis}
use Rattle.wavelet.specs.Laws.Lifting.{place_law, place_moves, dot_ext, dot-take, length-lifted, here_old, delta_old, lifted-next, analysis-next}
use Rattle.wavelet.specs.Filters.{filter_of, type1}
use Rattle.wavelet.specs.Laws.Product.{wrap-mul-sum}
use Rattle.wavelet.specs.Code.Table.{stage_of, stage_at}
use Rattle.wavelet.specs.Laws.Table.{count_le, taps_long, in_table}
use Rattle.wavelet.specs.declared.stage.LiftStage.{LiftStage}
use Rattle.wavelet.specs.Code.Run.{Placed, Moves, taps_to, value_of, ran, RunIn, two_taps, two_places}

-- ---- laws of the code's functions
not-moved : (s : LiftStage) (len n i j : ℕ) → i ≡ 0 → place (stage_of s) len (n + i) j ≡ place (stage_of s) len n j + 2 * i
not-moved s len n i j e =
    let f : n + i ≡ n = omega arith in
    rw f (omega arith)

pub moves_more : (s : LiftStage) (len n m : ℕ) → n < len / 2 → s.back < n + s.ahead
    → m ≡ max (min (len / 2) (len / 2 + s.back + 1 - (s.count + s.ahead)) - n) 1 → Moves (stage_of s) len n m
unfolding stage_of
moves_more s len n m h b e = record {
  some = omega arith;
  fits = omega (arith, fits len s.back s.count s.ahead n h);
  moves = λ i j hi hj. by i j hi (rw (taps_long s) at hj);
}
  where
    fits : (len b c a n : ℕ) → n < len / 2 → n + max (min (len / 2) (len / 2 + b + 1 - (c + a)) - n) 1 ≤ len / 2
    fits len b c a n h = omega arith

    below : (x n m i : ℕ) → m ≡ max (x - n) 1 → suc i < m → n + suc i < x
    below x n m i e hi = omega arith

    by : (i j : ℕ) → i < m → j < s.count → place (stage_of s) len (n + i) j ≡ place (stage_of s) len n j + 2 * i
    by zero j hi hj = not-moved s len n 0 j refl
    by (suc i) j hi hj =
        let q = below (min (len / 2) (len / 2 + s.back + 1 - (s.count + s.ahead))) n m i e hi in
        place_moves (stage_of s) len n (suc i) j s.side b (omega (arith, q))

module _ (st : Stage) (plus : Bool) (o : List ℕ) (p step : ℕ) where
  pub length-ran : (m : ℕ) (xs : List ℤ) → length (ran st plus o p step m xs) ≡ length xs
  unfolding ran
  length-ran zero xs = refl
  length-ran (suc m) xs = length-set (ran st plus o p step m xs) (p + step * m) (value_of st plus o p (step * m) xs) ∙ length-ran m xs

  -- a place that is not updated
  pub ran_other : (m q : ℕ) (xs : List ℤ) → ((h : ℕ) → h < m → q ≢ p + step * h) → at (ran st plus o p step m xs) q ≡ at xs q
  unfolding ran
  ran_other zero q xs d = refl
  ran_other (suc m) q xs d =
      get_or-set_other (ran st plus o p step m xs) (p + step * m) q (value_of st plus o p (step * m) xs) (pos 0) (d m (omega arith)) ∙ ran_other m q xs (λ h l. d h (omega arith))

  apart : 1 ≤ step → (h i : ℕ) → h < i → p + step * i ≢ p + step * h
  apart s h i l e = omega (arith, mul-lt-mul_of_pos_left {k = step} l s)

  -- a place that is updated
  pub ran-at : (m i : ℕ) (xs : List ℤ) → 1 ≤ step → i < m → p + step * i < length xs → at (ran st plus o p step m xs) (p + step * i) ≡ value_of st plus o p (step * i) xs
  unfolding ran
  ran-at zero i xs s l b = absurd (omega arith)
  ran-at (suc m) i xs s l b = by (native.Mathlib.Decide.ℕ_discrete i m) (λ h. ran-at m i xs s h b)
    where
      ys : List ℤ
      ys = ran st plus o p step m xs

      by : Dec (i ≡ m) → (i < m → at ys (p + step * i) ≡ value_of st plus o p (step * i) xs) → at (slice_set ys (p + step * m) (value_of st plus o p (step * m) xs)) (p + step * i) ≡ value_of st plus o p (step * i) xs
      by (yes e) r = rw e (get_or-set_same ys (p + step * m) (value_of st plus o p (step * m) xs) (pos 0) (rw (length-ran m xs, ← e) b))
      by (no n) r =
          let h : i < m = omega arith in
          get_or-set_other ys (p + step * m) (p + step * i) (value_of st plus o p (step * m) xs) (pos 0) (λ e. apart s i m h (sym e)) ∙ r h

-- one more update: the code reads the list as it is, and finds what was there
pub ran-turn : (st : Stage) (plus : Bool) (o : List ℕ) (p count step i : ℕ) (xs ys : List ℤ) → RunIn xs (length st.taps) o p count step → i < count
    → ys ≡ ran st plus o p step i xs → slice_set ys (p + step * i) (value_of st plus o p (step * i) ys) ≡ ran st plus o p step (i + 1) xs
unfolding ran
ran-turn st plus o p count step i xs ys r l e =
    let zs = ran st plus o p step i xs in
    let here : at zs (p + step * i) ≡ at xs (p + step * i) = ran_other st plus o p step i (p + step * i) xs (λ h k. apart st plus o p step r.steps h i k) in
    let sums : taps_to st.taps o (step * i) zs (length st.taps) ≡ taps_to st.taps o (step * i) xs (length st.taps) =
    dot_ext wrap (at st.taps) (at st.taps) (λ j. at zs (slice_index o j + step * i)) (λ j. at xs (slice_index o j + step * i)) (length st.taps) (λ j k. refl)
    (λ j k. ran_other st plus o p step i (slice_index o j + step * i) xs (λ h m. r.later h i j m l k)) in
    rw (add-one i) (ap (λ (z : List ℤ). set z (p + step * i) (value_of st plus o p (step * i) z)) e
    ∙ ap (set zs (p + step * i)) (ap₂ (change wrap plus) here (ap (scaled wrap st) sums)))

pub run_of : (s : LiftStage) (o : List ℕ) (p count step : ℕ) (xs : List ℤ) → RunIn xs s.count o p count step → RunIn xs (length (stage_of s).taps) o p count step
run_of s o p count step xs r = rw (taps_long s) r

pub ran-none : (st : Stage) (plus : Bool) (o : List ℕ) (p step : ℕ) (xs : List ℤ) → xs ≡ ran st plus o p step 0 xs
unfolding ran
ran-none st plus o p step xs = refl

-- ---- a run of two equal taps
pub two-sum : (t : ℤ) (shift i j x : ℕ) (a : List ℤ)
    → wrap (t *ℤ wrap (at a (i + x) +ℤ at a (j + x))) ≡ taps_to (two_taps t shift).taps (two_places i j) x a (length (two_taps t shift).taps)
unfolding dot
two-sum t shift i j x a =
    let y = at a (i + x) in
    let z = at a (j + x) in
    let e : wrap (pos 0 +ℤ wrap (t *ℤ y)) ≡ wrap (t *ℤ y) = ap wrap (+ℤ_idl (wrap (t *ℤ y))) ∙ wrap-fits (wrap (t *ℤ y)) (record { sfits = (wraps (t *ℤ y)).fits }) in
    wrap-mul-sum t y z ∙ ap (λ (v : ℤ). wrap (v +ℤ wrap (t *ℤ z))) (sym e)

-- what holds of 0 and 1 holds below 2
below_two : (P : ℕ → Type 0) → P 0 → P 1 → (j : ℕ) → j < 2 → P j
below_two P a b zero h = a
below_two P a b (suc zero) h = b
below_two P a b (suc (suc j)) h = absurd (omega arith)

same_place : (o : List ℕ) (j : ℕ) → j < 2 → slice_index (two_places (slice_index o 0) (slice_index o 1)) j ≡ slice_index o j
same_place o = below_two (λ j. slice_index (two_places (slice_index o 0) (slice_index o 1)) j ≡ slice_index o j) refl refl

module _ (s : LiftStage) (t : ℤ) (o : List ℕ) (two : s.count ≡ 2) where
  -- updates by two equal taps leave what the updates by all taps leave
  pub two-ran : at s.taps 0 ≡ t → at s.taps 1 ≡ t → (plus : Bool) (p step m : ℕ) (xs : List ℤ)
      → ran (two_taps t s.shift) plus (two_places (slice_index o 0) (slice_index o 1)) p step m xs ≡ ran (stage_of s) plus o p step m xs
  unfolding ran stage_of
  two-ran e0 e1 plus p step zero xs = refl
  two-ran e0 e1 plus p step (suc m) xs =
      let st = stage_of s in
      let st' = two_taps t s.shift in
      let o' = two_places (slice_index o 0) (slice_index o 1) in
      let x = step * m in
      let sums : taps_to st'.taps o' x xs 2 ≡ taps_to s.taps o x xs 2 =
      dot_ext wrap (at st'.taps) (at s.taps) (λ j. at xs (slice_index o' j + x)) (λ j. at xs (slice_index o j + x)) 2
      (below_two (λ j. at st'.taps j ≡ at s.taps j) (sym e0) (sym e1))
      (λ j h. ap (λ (q : ℕ). at xs (q + x)) (same_place o j h)) in
      let all : taps_to s.taps o x xs 2 ≡ taps_to st.taps o x xs (length st.taps) =
      ap (taps_to s.taps o x xs) (sym two) ∙ dot-take wrap s.taps s.count (λ j. at xs (slice_index o j + x)) (omega (arith, s.long, count_le s)) in
      ap₂ (λ (z : List ℤ) (v : ℤ). set z (p + x) (change wrap plus (at xs (p + x)) (scaled wrap st v))) (two-ran e0 e1 plus p step m xs) (sums ∙ all)

-- ---- a stage of a row, run by run
module _ (s : LiftStage) (o : List ℕ) (len n m : ℕ) (pl : Placed (stage_of s) len n 1 o) (mv : Moves (stage_of s) len n m) where
  moved : (i j : ℕ) → i < m → j < s.count → slice_index o j + 2 * i ≡ place (stage_of s) len (n + i) j
  moved i j hi hj =
      ap (λ (q : ℕ). q + 2 * i) (pl.is j (omega (arith, count_le s)) ∙ mul-one (place (stage_of s) len n j)) ∙ sym (mv.moves i j hi (rw (taps_long s) hj))

  turn : (i : ℕ) → i < m → n + i < len / 2
  turn i hi = omega (arith, mv.fits)

  side : (stage_of s).to ≤ 1
  unfolding stage_of
  side = s.side

  pub row-runs : (a : List ℤ) → length a ≡ len → RunIn a s.count o (2 * n + (stage_of s).to) m 2
  row-runs a e = record {
    long = pl.long;
    steps = omega arith;
    inside = λ i j hi hj. rw (moved i j hi hj, e) (place_law (stage_of s) len (n + i) j side (turn i hi)).inside;
    writes = λ i hi. omega (arith, turn i hi, side, e);
    later = λ h i j hh hi hj q.
        let w = place_law (stage_of s) len (n + i) j side (turn i hi) in
        let f : place (stage_of s) len (n + i) j ≡ 2 * n + (stage_of s).to + 2 * h = sym (moved i j hi hj) ∙ q in
        let g = w.free (rw f (omega (arith, side))) in
        omega (arith, turn i hi, side, f, g);
  }

  -- i of the run's updates
  ran-some : (plus : Bool) (xs a : List ℤ) → length xs ≡ len → a ≡ lifted wrap (stage_of s) plus n xs → (i : ℕ) → i ≤ m
      → ran (stage_of s) plus o (2 * n + (stage_of s).to) 2 i a ≡ lifted wrap (stage_of s) plus (n + i) xs
  unfolding ran delta
  ran-some plus xs a e f zero h = f ∙ ap (λ (k : ℕ). lifted wrap (stage_of s) plus k xs) (omega arith)
  ran-some plus xs a e f (suc i) h =
      let st = stage_of s in
      let to = st.to in
      let p : ℕ = 2 * n + to in
      let long : length a ≡ length xs = ap length f ∙ length-lifted wrap st plus n xs in
      let k : ℕ = n + i in
      let here : p + 2 * i ≡ 2 * k + to = omega arith in
      let more : k < length xs / 2 = rw e (turn i (omega arith)) in
      let sums : scaled wrap st (taps_to st.taps o (2 * i) a (length st.taps)) ≡ delta wrap st a k =
      ap (scaled wrap st) (dot_ext wrap (at st.taps) (at st.taps) (λ j. at a (slice_index o j + 2 * i)) (λ j. at a (place st (length a) k j)) (length st.taps) (λ j hj. refl)
      (λ j hj. ap (at a) (moved i j (omega arith) (rw (taps_long s) at hj) ∙ ap (λ (z : ℕ). place st z k j) (sym (long ∙ e))))) in
      let old : delta wrap st a k ≡ delta wrap st xs k = ap (λ (z : List ℤ). delta wrap st z k) f ∙ delta_old wrap st plus xs n k side (omega arith) more in
      let old-here : at a (p + 2 * i) ≡ at xs (2 * k + to) = ap₂ at f here ∙ here_old wrap st plus xs n k side (omega arith) more in
      ap₂ (λ (z : List ℤ) (v : ℤ). set z (p + 2 * i) v) (ran-some plus xs a e f i (omega arith)) (ap₂ (change wrap plus) old-here (sums ∙ old))
      ∙ ap (λ (q : ℕ). set (lifted wrap st plus k xs) q (change wrap plus (at xs (2 * k + to)) (delta wrap st xs k))) here
      ∙ lifted-next wrap st plus xs k side more ∙ ap (λ (q : ℕ). lifted wrap st plus q xs) (omega arith)

  pub ran-lifted : (plus : Bool) (xs a : List ℤ) → length xs ≡ len → a ≡ lifted wrap (stage_of s) plus n xs
      → ran (stage_of s) plus o (2 * n + (stage_of s).to) 2 m a ≡ lifted wrap (stage_of s) plus (n + m) xs
  ran-lifted plus xs a e f = ran-some plus xs a e f m (omega arith)

-- ---- all stages: one more is undone
pub analysis-turn : (i k : ℕ) (s : LiftStage) (xs ys zs : List ℤ) → i ≤ 6 → 0 < k → k ≤ length (filter_of i).stages → stage_of s ≡ stage_at (2 * i + (k - 1))
    → ys ≡ analysis wrap (drop k (filter_of i).stages) xs → zs ≡ lifted wrap (stage_of s) (not s.adds) (length ys / 2) ys → zs ≡ analysis wrap (drop (k - 1) (filter_of i).stages) xs
unfolding stage_of
analysis-turn i zero s xs ys zs h p l e f g = absurd (omega arith)
analysis-turn i (suc k) s xs ys zs h p l e f g =
    let q : suc k - 1 ≡ k = omega arith in
    let e2 : stage_of s ≡ get_or (filter_of i).stages k (type1 0 0 0 []) = rw q at e ∙ (in_table i h).stage-of k (omega arith) in
    rw q (g ∙ ap (λ (t : Stage). lifted wrap t (not t.adds) (length ys / 2) ys) e2 ∙ ap (unlift wrap (slice_index_or (filter_of i).stages k (type1 0 0 0 []))) f
    ∙ analysis-next wrap (filter_of i).stages k (type1 0 0 0 []) xs (omega arith))

-- ---- further laws
-- one update
pub moves_one : (s : LiftStage) (len n : ℕ) → n < len / 2 → Moves (stage_of s) len n 1
moves_one s len n l = record {
  some = omega arith;
  fits = omega arith;
  moves = λ i j hi hj. not-moved s len n i j (omega arith);
}

-- the run of a stage of two taps is one of two equal taps
pub two_runs : (s : LiftStage) (t : ℤ) (o : List ℕ) → s.count ≡ 2 → (a : List ℤ) (p count step : ℕ) → RunIn a s.count o p count step
    → RunIn a (length (two_taps t s.shift).taps) (two_places (slice_index o 0) (slice_index o 1)) p count step
two_runs s t o two a p count step r = record {
  long = refl;
  steps = r.steps;
  inside = λ i j hi hj. rw (same_place o j hj) (r.inside i j hi (rw two hj));
  writes = r.writes;
  later = λ h i j hh hi hj. rw (same_place o j hj) (r.later h i j hh hi (rw two hj));
}
