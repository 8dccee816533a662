-- What a stage does to each place of a row, and that synthesis undoes analysis.
use Rattle.std.specs.Prelude.{◌≡◌, ℕ, zero, suc, ◌+◌, ◌-◌, ◌*◌, ◌/◌, ◌%◌, ◌<◌, ◌≤◌, Bool, true, false, cond, not, ◌&&◌, ◌≢◌, List, [], ◌∷◌, length, take, drop, ℤ, pos, ◌+ℤ◌, ◌*ℤ◌, ◌==◌, nat_lt, slice_index_or, slice_set}
use Rattle.std.proofs.Math.Path.{refl, sym, ap}
use Rattle.std.proofs.Common.{ap₂, ◌∙◌, add-one, length-set, ext_get_or, length-take-le, get_or-take, get_or-set_same, get_or-set_other, drop-cons}
use native.Mathlib.Omega.{arith}
use Rattle.std.proofs.Math.Decide.{ℕ_discrete, dec_lt}
use Rattle.std.proofs.Math.ListN.{get_or-eq_default}
use Rattle.std.proofs.Math.Seq.{drop-length}
use Rattle.std.proofs.Math.IntN.{+ℤ-neg_ℤ_cancel, -ℤ-+ℤ_cancel}
use borrow.Author.Tests.{lt-ltb, le-ltb, eq-eqb, ne_eqb}
use Rattle.laws.specs.Rows.{at}
use Rattle.laws.specs.Laws.Rows.{at_row, length-span}
use Rattle.wavelet.specs.Lifting.{Stage, within, place, exact, dot, scaled, delta, change, new_at, lifted, lift, unlift, synthesis, analysis}
use Rattle.wavelet.specs.Filters.{dd97, legall, dd137, haar0, haar1, fidelity, daub97, filter_of, analysis_by, synthesis_by}

-- what holds of the seven filters one by one holds of filter i
pub each_filter : (P : ℕ → Type 0) → P 0 → P 1 → P 2 → P 3 → P 4 → P 5 → P 6 → (i : ℕ) → i ≤ 6 → P i
each_filter P a b c d e f g zero l = a
each_filter P a b c d e f g (suc zero) l = b
each_filter P a b c d e f g (suc (suc zero)) l = c
each_filter P a b c d e f g (suc (suc (suc zero))) l = d
each_filter P a b c d e f g (suc (suc (suc (suc zero)))) l = e
each_filter P a b c d e f g (suc (suc (suc (suc (suc zero))))) l = f
each_filter P a b c d e f g (suc (suc (suc (suc (suc (suc zero)))))) l = g
each_filter P a b c d e f g (suc (suc (suc (suc (suc (suc (suc i))))))) l = absurd (omega arith)

-- ---- the places that a stage reads
pub record Within (to len p : ℕ) : Type 0 where
  pub inside : p < len
  -- at odd lengths it may be the last of the places that are updated, or one beyond them
  pub free : p % 2 ≡ to → len / 2 ≤ p / 2 + 1
  pub other : len % 2 ≡ 0 → p % 2 ≡ 1 - to

within_law : (to len c : ℕ) → to ≤ 1 → 1 < len → Within to len (within to len c)
unfolding within
within_law zero len c h l = record { inside = omega arith; free = λ e. omega arith; other = λ e. omega arith }
within_law (suc zero) len c h l = record { inside = omega arith; free = λ e. omega arith; other = λ e. omega arith }
within_law (suc (suc to)) len c h l = absurd (omega arith)

pub place_law : (st : Stage) (len n k : ℕ) → st.to ≤ 1 → n < len / 2 → Within st.to len (place st len n k)
place_law st len n k h l = within_law st.to len (n + k + st.ahead - st.back) h (omega arith)

-- where nothing is clamped, the places move on by 2 with each update
within_free : (to len c : ℕ) → to ≤ 1 → 1 ≤ c → 2 * c + 2 ≤ len → within to len c ≡ 2 * c - (1 - to)
unfolding within
within_free zero len c h a b = omega arith
within_free (suc zero) len c h a b = omega arith
within_free (suc (suc to)) len c h a b = absurd (omega arith)

pub place_moves : (st : Stage) (len n i k : ℕ) → st.to ≤ 1 → st.back < n + st.ahead → 2 * (n + i + k + st.ahead) + 2 ≤ len + 2 * st.back
    → place st len (n + i) k ≡ place st len n k + 2 * i
place_moves st len n i k h a b =
    within_free st.to len (n + i + k + st.ahead - st.back) h (omega arith) (omega arith)
    ∙ omega (arith, within_free st.to len (n + k + st.ahead - st.back) h (omega arith) (omega arith))

-- every stage goes to the even places or the odd ones
abbrev pub Sides : List Stage → Type 0
Sides [] = Unit {0}
Sides (st ∷ ss) = (st.to ≤ 1) × Sides ss

module _ (wr : ℤ → ℤ) where
  -- ---- sums
  pub dot-zero : (t x : ℕ → ℤ) → dot wr t x 0 ≡ pos 0
  unfolding dot
  dot-zero t x = refl

  pub dot-next : (t x : ℕ → ℤ) (k : ℕ) → wr (dot wr t x k +ℤ wr (t k *ℤ x k)) ≡ dot wr t x (k + 1)
  unfolding dot
  dot-next t x k = rw (add-one k)

  pub dot_ext : (t u x y : ℕ → ℤ) (m : ℕ) → ((k : ℕ) → k < m → t k ≡ u k) → ((k : ℕ) → k < m → x k ≡ y k) → dot wr t x m ≡ dot wr u y m
  unfolding dot
  dot_ext t u x y zero e f = refl
  dot_ext t u x y (suc m) e f = rw (dot_ext t u x y m (λ k l. e k (omega arith)) (λ k l. f k (omega arith)), e m (omega arith), f m (omega arith))

  pub delta_ext : (st : Stage) (xs ys : List ℤ) (n : ℕ) → length xs ≡ length ys
      → ((k : ℕ) → at xs (place st (length ys) n k) ≡ at ys (place st (length ys) n k)) → delta wr st xs n ≡ delta wr st ys n
  unfolding delta
  delta_ext st xs ys n l e =
      rw l (ap (scaled wr st)
      (dot_ext (at st.taps) (at st.taps) (λ k. at xs (place st (length ys) n k)) (λ k. at ys (place st (length ys) n k)) (length st.taps) (λ k h. refl) (λ k h. e k)))

  -- ---- a stage
  module _ (st : Stage) (plus : Bool) where
    pub length-lifted : (m : ℕ) (xs : List ℤ) → length (lifted wr st plus m xs) ≡ length xs
    unfolding lifted
    length-lifted m xs = length-span _ 0 (length xs)

    -- a place that is updated
    pub hit : (m n : ℕ) (xs : List ℤ) → st.to ≤ 1 → n < m → 2 * n + st.to < length xs
        → at (lifted wr st plus m xs) (2 * n + st.to) ≡ change wr plus (at xs (2 * n + st.to)) (delta wr st xs n)
    unfolding lifted
    hit m n xs h l i =
        let k : ℕ = 2 * n + st.to in
        let e : k / 2 ≡ n = omega arith in
        let f : k % 2 ≡ st.to = omega arith in
        at_row (length xs) (new_at wr st plus m xs) k i ∙ rw (e, f, eq-eqb st.to st.to refl, lt-ltb n m l)

    -- a place that is not updated
    pub miss : (m k : ℕ) (xs : List ℤ) → (k % 2 ≡ st.to → m ≤ k / 2) → at (lifted wr st plus m xs) k ≡ at xs k
    unfolding lifted
    miss m k xs h = by (dec_lt k (length xs)) (ℕ_discrete (k % 2) st.to)
      where
        by : Dec (k < length xs) → Dec (k % 2 ≡ st.to) → at (lifted wr st plus m xs) k ≡ at xs k
        by (yes l) (no o) = at_row (length xs) (new_at wr st plus m xs) k l ∙ rw (ne_eqb (k % 2) st.to o)
        by (yes l) (yes e) = at_row (length xs) (new_at wr st plus m xs) k l ∙ rw (eq-eqb (k % 2) st.to e, le-ltb (k / 2) m (h e))
        by (no l) d =
            let out : length xs ≤ k = omega arith in
            get_or-eq_default (lifted wr st plus m xs) (pos 0) {n = k} (rw (length-lifted m xs) out) ∙ sym (get_or-eq_default xs (pos 0) {n = k} out)

    -- an update reads the row as it was before the stage, also where some updates are done
    pub reads_old : (m n : ℕ) (xs : List ℤ) → st.to ≤ 1 → m ≤ n → n < length xs / 2 → (k : ℕ)
        → at (lifted wr st plus m xs) (place st (length xs) n k) ≡ at xs (place st (length xs) n k)
    reads_old m n xs h q l k = miss m (place st (length xs) n k) xs (λ e. let f = (place_law st (length xs) n k h l).free e in omega arith)

    pub lifted-zero : (xs : List ℤ) → xs ≡ lifted wr st plus 0 xs
    lifted-zero xs = ext_get_or (pos 0) xs (lifted wr st plus 0 xs) (sym (length-lifted 0 xs)) (λ k l. sym (miss 0 k xs (λ e. omega arith)))

    module _ (xs : List ℤ) (m n : ℕ) (side : st.to ≤ 1) (done : m ≤ n) (more : n < length xs / 2) where
      pub here_old : at (lifted wr st plus m xs) (2 * n + st.to) ≡ at xs (2 * n + st.to)
      here_old = miss m (2 * n + st.to) xs (λ e. omega arith)

      pub delta_old : delta wr st (lifted wr st plus m xs) n ≡ delta wr st xs n
      delta_old = delta_ext st (lifted wr st plus m xs) xs n (length-lifted m xs) (reads_old m n xs side done more)

    -- one update more
    pub lifted-next : (xs : List ℤ) (n : ℕ) → st.to ≤ 1 → n < length xs / 2
        → slice_set (lifted wr st plus n xs) (2 * n + st.to) (change wr plus (at xs (2 * n + st.to)) (delta wr st xs n)) ≡ lifted wr st plus (n + 1) xs
    lifted-next xs n side more = ext_get_or (pos 0) (slice_set ys p v) zs (length-set ys p v ∙ long_y ∙ sym (length-lifted (n + 1) xs))
        (λ i l. by i (ℕ_discrete i p) (rw (length-set ys p v, long_y) at l))
      where
        ys : List ℤ
        ys = lifted wr st plus n xs

        zs : List ℤ
        zs = lifted wr st plus (n + 1) xs

        p : ℕ
        p = 2 * n + st.to

        v : ℤ
        v = change wr plus (at xs p) (delta wr st xs n)

        long_y : length ys ≡ length xs
        long_y = length-lifted n xs

        other : (i : ℕ) → i ≢ p → i < length xs → Dec (i % 2 ≡ st.to) → at ys i ≡ at zs i
        other i d l (no o) = miss n i xs (λ e. absurd (o e)) ∙ sym (miss (n + 1) i xs (λ e. absurd (o e)))
        other i d l (yes e) = go (dec_lt (i / 2) n)
          where
            here : i ≡ 2 * (i / 2) + st.to
            here = omega arith

            go : Dec (i / 2 < n) → at ys i ≡ at zs i
            go (yes b) = rw here (hit n (i / 2) xs side b (omega arith) ∙ sym (hit (n + 1) (i / 2) xs side (omega arith) (omega arith)))
            go (no b) = miss n i xs (λ f. omega arith) ∙ sym (miss (n + 1) i xs (λ f. omega arith))

        by : (i : ℕ) → Dec (i ≡ p) → i < length xs → at (slice_set ys p v) i ≡ at zs i
        by i (yes e) l = rw e (get_or-set_same ys p v (pos 0) (rw long_y (omega arith)) ∙ sym (hit (n + 1) n xs side (omega arith) (omega arith)))
        by i (no o) l = get_or-set_other ys p i v (pos 0) o ∙ other i o l (ℕ_discrete (i % 2) st.to)

  -- ---- all stages
  pub length-analysis : (ss : List Stage) (xs : List ℤ) → length (analysis wr ss xs) ≡ length xs
  unfolding analysis
  length-analysis [] xs = refl
  length-analysis (st ∷ ss) xs = length-lifted st (not st.adds) (length (analysis wr ss xs) / 2) (analysis wr ss xs) ∙ length-analysis ss xs

  -- the last stages are done; one more
  pub analysis-next : (ss : List Stage) (k : ℕ) (d : Stage) (xs : List ℤ) → k < length ss
      → unlift wr (slice_index_or ss k d) (analysis wr (drop (suc k) ss) xs) ≡ analysis wr (drop k ss) xs
  unfolding analysis
  analysis-next ss k d xs l = rw (drop-cons ss k d l)

  pub analysis-none : (ss : List Stage) (xs : List ℤ) → analysis wr (drop (length ss) ss) xs ≡ xs
  unfolding analysis
  analysis-none ss xs = rw (drop-length ss)

  -- a change and its opposite: u says that one undoes the other on numbers that have P, and p that every change has it
  module _ (P : ℤ → Type 0) (u : (b : Bool) (x y : ℤ) → P x → change wr b (change wr (not b) x y) y ≡ x) (p : (b : Bool) (x y : ℤ) → P (change wr b x y)) where
    pub lift-unlift : (st : Stage) (xs : List ℤ) → st.to ≤ 1 → length xs % 2 ≡ 0 → ((k : ℕ) → P (at xs k)) → lift wr st (unlift wr st xs) ≡ xs
    lift-unlift st xs h e q = ext_get_or (pos 0) zs xs long place_by
      where
        ys : List ℤ
        ys = unlift wr st xs

        zs : List ℤ
        zs = lift wr st ys

        long_y : length ys ≡ length xs
        long_y = length-lifted st (not st.adds) (length xs / 2) xs

        long : length zs ≡ length xs
        long = length-lifted st st.adds (length ys / 2) ys ∙ long_y

        apart : (p : ℕ) → p % 2 ≡ st.to → p % 2 ≢ 1 - st.to
        apart p f g = omega arith

        place_by : (i : ℕ) → i < length zs → at zs i ≡ at xs i
        place_by i l = by (ℕ_discrete (i % 2) st.to)
          where
            l2 : i < length xs
            l2 = rw long at l

            by : Dec (i % 2 ≡ st.to) → at zs i ≡ at xs i
            by (no g) =
                miss st st.adds (length ys / 2) i ys (λ f. absurd (g f)) ∙ miss st (not st.adds) (length xs / 2) i xs (λ f. absurd (g f))
            by (yes g) =
                let n : ℕ = i / 2 in
                let here : i ≡ 2 * n + st.to = omega arith in
                let inx : 2 * n + st.to < length xs = omega (arith, l2) in
                let iny : 2 * n + st.to < length ys = rw long_y inx in
                let nx : n < length xs / 2 = omega arith in
                let ny : n < length ys / 2 = rw long_y nx in
                let same : delta wr st ys n ≡ delta wr st xs n = delta_ext st ys xs n long_y
                (λ k. miss st (not st.adds) (length xs / 2) (place st (length xs) n k) xs
                (λ f. absurd (apart (place st (length xs) n k) f ((place_law st (length xs) n k h nx).other e)))) in
                rw here (hit st st.adds (length ys / 2) n ys h ny iny
                ∙ ap₂ (change wr st.adds) (hit st (not st.adds) (length xs / 2) n xs h nx inx) same
                ∙ u st.adds (at xs (2 * n + st.to)) (delta wr st xs n) (q (2 * n + st.to)))

    lifted-P : (st : Stage) (plus : Bool) (m : ℕ) (xs : List ℤ) → P (pos 0) → ((k : ℕ) → P (at xs k)) → (k : ℕ) → P (at (lifted wr st plus m xs) k)
    unfolding lifted
    lifted-P st plus m xs z q k = by (dec_lt k (length xs))
      where
        pick_p : (b : Bool) {x y : ℤ} → P x → P y → P (cond b x y)
        pick_p true a b = a
        pick_p false a b = b

        by : Dec (k < length xs) → P (at (lifted wr st plus m xs) k)
        by (yes l) = rw (at_row (length xs) (new_at wr st plus m xs) k l)
            (pick_p (k % 2 == st.to && nat_lt (k / 2) m) (p plus _ _) (q k))
        by (no l) =
            let out : length xs ≤ k = omega arith in
            rw (get_or-eq_default (lifted wr st plus m xs) (pos 0) {n = k} (rw (length-lifted st plus m xs) out)) z

    analysis-P : (ss : List Stage) (xs : List ℤ) → P (pos 0) → ((k : ℕ) → P (at xs k)) → (k : ℕ) → P (at (analysis wr ss xs) k)
    unfolding analysis
    analysis-P [] xs z q = q
    analysis-P (st ∷ ss) xs z q = lifted-P st (not st.adds) (length (analysis wr ss xs) / 2) (analysis wr ss xs) z (analysis-P ss xs z q)

    -- 15.4.4 undoes the analysis
    pub synthesis-analysis : (ss : List Stage) (xs : List ℤ) → Sides ss → length xs % 2 ≡ 0 → P (pos 0) → ((k : ℕ) → P (at xs k))
        → synthesis wr ss (analysis wr ss xs) ≡ xs
    unfolding synthesis analysis
    synthesis-analysis [] xs h e z q = refl
    synthesis-analysis (st ∷ ss) xs h e z q =
        let ys = analysis wr ss xs in
        ap (synthesis wr ss) (lift-unlift st ys h.0 (rw (length-analysis ss xs) e) (analysis-P ss xs z q)) ∙ synthesis-analysis ss xs h.1 e z q

-- ---- without wrap
undo : (b : Bool) (x y : ℤ) → Unit {0} → change exact b (change exact (not b) x y) y ≡ x
undo true x y t = -ℤ-+ℤ_cancel x y
undo false x y t = +ℤ-neg_ℤ_cancel x y

pub sides : (i : ℕ) → i ≤ 6 → Sides (filter_of i).stages
unfolding dd97 legall dd137 haar0 haar1 fidelity daub97
sides = each_filter (λ i. Sides (filter_of i).stages) (omega arith) (omega arith) (omega arith) (omega arith) (omega arith) (omega arith) (omega arith)

-- the synthesis of the analysis is the row
pub synthesis-exact : (i : ℕ) (xs : List ℤ) → i ≤ 6 → length xs % 2 ≡ 0 → synthesis_by exact i (analysis_by exact i xs) ≡ xs
synthesis-exact i xs l e = synthesis-analysis exact (λ x. Unit {0}) undo (λ b x y. tt) (filter_of i).stages xs (sides i l) e tt (λ k. tt)

-- the first c taps of an array
pub dot-take : (wr : ℤ → ℤ) (ts : List ℤ) (c : ℕ) (x : ℕ → ℤ) → c ≤ length ts → dot wr (at ts) x c ≡ dot wr (at (take c ts)) x (length (take c ts))
dot-take wr ts c x h = rw (length-take-le c ts h) (dot_ext wr (at ts) (at (take c ts)) x x c (λ k l. sym (get_or-take c ts k (pos 0) l)) (λ k l. refl))
