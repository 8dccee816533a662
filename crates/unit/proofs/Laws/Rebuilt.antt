-- Low delay, level 0: the slices leave, one after the other, the plane of one recurrence, in which every place is
-- rebuilt at its own slice's index; its values stay small, and the reader makes the same plane of the slices' numbers.
use Rattle.std.specs.Prelude.{◌≡◌, refl, Bool, ◌≢◌, List, ◌∷◌, ℤ, pos, negsuc, neg_ℤ, nat_abs, ◌+ℤ◌, ◌-ℤ◌, get_or}
use Rattle.std.proofs.Common.{sym, ap₂, ◌∙◌, arith, not-suc-le-zero}
use Rattle.std.proofs.Math.Path.{ap}
use Rattle.std.proofs.Math.Bool.{true, false}
use Prim.Native.Nat.{ℕ, zero, suc, ◌+◌, ◌*◌, ◌/◌, ◌^◌, ◌≤◌, ◌<◌}
use Rattle.std.proofs.Math.Decide.{ℕ_discrete}
use Rattle.laws.specs.Plane.{Plane}
use Rattle.laws.specs.Laws.Plane.{Agree}
use Rattle.laws.specs.Laws.Integer.{parts, var, ◌⊞◌, ◌⊟◌, abs_sub}
use Rattle.quantiser.specs.Standard.{signed, inverse}
use Rattle.quantiser.specs.Quant.{band_index}
use Rattle.wavelet.specs.Planes.{Band}
use Rattle.unit.specs.Slices.{Grid, slice_count, slice_of}
use Rattle.unit.specs.Predict.{predict, scan}
use Rattle.unit.specs.Quantised.{size_of, inside, numbers_from, number_at, rebuilt_at, rebuilt, numbers_ld, left_ld}
use Rattle.unit.specs.LowDelay.{zero_plane}
use Rattle.unit.specs.Reader.{number_plane, index_at, inverse_plane, predicted_band}
use Rattle.unit.proofs.Laws.Place.{slice_mono, slice_lt, inside_own, inside_other, number_back}
use Rattle.unit.proofs.Laws.Scan.{Neighbours, neighbours_map, neighbours, by_neighbours, predict-same, predict-most, Recurs, scan_recurs, scan_unique}
use Rattle.quantiser.specs.Laws.Quant.{rebuilt as quantised, standard_same}

-- ---- one slice
module _ (g : Grid) (b : Band) (i k : ℕ) (r : Plane) (y x : ℕ) (hy : y < b.high) (hx : x < b.wide) where
  rebuilt_by : (t : Bool) → inside g (size_of b) k y x ≡ t
      → rebuilt g b i k r y x ≡ elim t as (λ z. ℤ) [ true ↦ rebuilt_at i (b.plane y x) (predict (rebuilt g b i k r) y x) | false ↦ r y x ]
  unfolding rebuilt
  rebuilt_by t e =
      let p = predict (rebuilt g b i k r) y x in
      (scan_recurs (λ y x p. elim (inside g (size_of b) k y x) [ true ↦ rebuilt_at i (b.plane y x) p | false ↦ r y x ]) b.high b.wide).recurs y x hy hx
      ∙ ap (λ (t : Bool). elim t as (λ z. ℤ) [ true ↦ rebuilt_at i (b.plane y x) p | false ↦ r y x ]) e

  -- a place of its window is rebuilt
  pub rebuilt_in_lem : inside g (size_of b) k y x ≡ true → rebuilt g b i k r y x ≡ rebuilt_at i (b.plane y x) (predict (rebuilt g b i k r) y x)
  rebuilt_in_lem e = rebuilt_by true e

  -- a place of another slice stays as it was
  pub rebuilt-out : inside g (size_of b) k y x ≡ false → rebuilt g b i k r y x ≡ r y x
  rebuilt-out e = rebuilt_by false e

-- ---- slice after slice
-- the plane that slices 0 to k - 1 leave, at the indices q
unfoldable pub state_at : Grid → List ℕ → List Band → (ℕ → ℕ) → ℕ → Plane
state_at g m bs q zero = zero_plane
state_at g m bs q (suc k) = left_ld g m bs (state_at g m bs q k) (q k) k

-- the indices of slices from k on change nothing
pub state_cong : (g : Grid) (m : List ℕ) (bs : List Band) (q r : ℕ → ℕ) (k : ℕ) → ((j : ℕ) → j < k → q j ≡ r j) → state_at g m bs q k ≡ state_at g m bs r k
unfolding state_at
state_cong g m bs q r zero e = refl
state_cong g m bs q r (suc k) e =
    ap₂ (λ (p : Plane) (i : ℕ). left_ld g m bs p i k) (state_cong g m bs q r k (λ j h. e j (omega arith))) (e k (omega arith))

-- the whole plane by one recurrence
unfoldable pub whole : Grid → List ℕ → (ℕ → ℕ) → Band → Plane
whole g m q b = scan (λ y x p. rebuilt_at (index_at g m q 0 (size_of b) y x) (b.plane y x) p) b.high b.wide

module _ (g : Grid) (m : List ℕ) (q : ℕ → ℕ) (b : Band) where
  pub whole_recurs : Recurs (λ y x p. rebuilt_at (index_at g m q 0 (size_of b) y x) (b.plane y x) p) b.high b.wide (whole g m q b)
  unfolding whole
  whole_recurs = scan_recurs (λ y x p. rebuilt_at (index_at g m q 0 (size_of b) y x) (b.plane y x) p) b.high b.wide

module _ (g : Grid) (m : List ℕ) (q : ℕ → ℕ) (b : Band) (bs : List Band) (hm : 0 < g.down) (hn : 0 < g.across) where
  -- a place is written by its own slice, and by no other
  pub state_own : (y x : ℕ) → y < b.high → x < b.wide → let r = state_at g m (b ∷ bs) q (suc (slice_of g (size_of b) y x)) in
      r y x ≡ rebuilt_at (index_at g m q 0 (size_of b) y x) (b.plane y x) (predict r y x)
  unfolding state_at left_ld
  state_own y x hy hx =
      let k : ℕ = slice_of g (size_of b) y x in
      rebuilt_in_lem g b (index_at g m q 0 (size_of b) y x) k (state_at g m (b ∷ bs) q k) y x hy hx (inside_own g (size_of b) hm hn y x hy hx)

  pub state_other : (y x : ℕ) → y < b.high → x < b.wide → (k : ℕ) → k ≢ slice_of g (size_of b) y x
      → state_at g m (b ∷ bs) q (suc k) y x ≡ state_at g m (b ∷ bs) q k y x
  unfolding state_at left_ld
  state_other y x hy hx k ne =
      rebuilt-out g b (band_index (q k) (get_or m 0 0)) k (state_at g m (b ∷ bs) q k) y x hy hx (inside_other g (size_of b) hm hn y x hy hx k ne)

  -- what is left at a place, once its slice has written it
  abbrev After : ℕ → ℕ → ℕ → Type 0
  After k y x = slice_of g (size_of b) y x < k → state_at g m (b ∷ bs) q k y x ≡ whole g m q b y x

  -- the neighbours of a place are in slices that are not later
  after-predict : (k y x : ℕ) → y < b.high → x < b.wide → slice_of g (size_of b) y x < k → Neighbours (After k) y x
      → predict (state_at g m (b ∷ bs) q k) y x ≡ predict (whole g m q b) y x
  after-predict k y x hy hx l n =
      let r = state_at g m (b ∷ bs) q k in
      let w = whole g m q b in
      predict-same r w y x
      (neighbours_map (After k) (λ c a. r c a ≡ w c a) y x (λ c a hc ha h. h (omega (arith, slice_mono g (size_of b) c a y x hy hx hc ha))) n)

  after_own : (y x : ℕ) → y < b.high → x < b.wide → let k = slice_of g (size_of b) y x in Neighbours (After (suc k)) y x
      → state_at g m (b ∷ bs) q (suc k) y x ≡ whole g m q b y x
  after_own y x hy hx n =
      state_own y x hy hx
      ∙ ap (rebuilt_at (index_at g m q 0 (size_of b) y x) (b.plane y x)) (after-predict (suc (slice_of g (size_of b) y x)) y x hy hx (omega arith) n)
      ∙ sym ((whole_recurs g m q b).recurs y x hy hx)

  after-step : (k : ℕ) → ((y x : ℕ) → y < b.high → x < b.wide → After k y x) → (y x : ℕ) → y < b.high → x < b.wide → After (suc k) y x
  after-step k before = by_neighbours b.high b.wide (After (suc k)) (λ y x hy hx n l. by y x hy hx n l (ℕ_discrete k (slice_of g (size_of b) y x)))
    where
      by : (y x : ℕ) → y < b.high → x < b.wide → Neighbours (After (suc k)) y x → slice_of g (size_of b) y x < suc k → Dec (k ≡ slice_of g (size_of b) y x)
          → state_at g m (b ∷ bs) q (suc k) y x ≡ whole g m q b y x
      by y x hy hx n l (yes e) = rw e (after_own y x hy hx (rw e at n))
      by y x hy hx n l (no ne) = state_other y x hy hx k ne ∙ before y x hy hx (omega arith)

  -- once its slice has written it a place has the whole plane's value, and keeps it
  pub state_after : (k y x : ℕ) → y < b.high → x < b.wide → slice_of g (size_of b) y x < k → state_at g m (b ∷ bs) q k y x ≡ whole g m q b y x
  state_after zero y x hy hx l = absurd (not-suc-le-zero l)
  state_after (suc k) y x hy hx l = after-step k (state_after k) y x hy hx l

  pub state_predict : (k y x : ℕ) → y < b.high → x < b.wide → slice_of g (size_of b) y x < k
      → predict (state_at g m (b ∷ bs) q k) y x ≡ predict (whole g m q b) y x
  state_predict k y x hy hx l =
      after-predict k y x hy hx l (neighbours (After k) y x (λ c a hc ha. state_after k c a (omega arith) (omega arith)))

  -- the number of a place among its slice's
  pub number-whole : (s : ℕ → List ℤ) (y x : ℕ) → y < b.high → x < b.wide → let k = slice_of g (size_of b) y x in
      s k ≡ numbers_ld g m (b ∷ bs) (state_at g m (b ∷ bs) q k) (q k) k
      → number_plane g (size_of b) s y x ≡ number_at (index_at g m q 0 (size_of b) y x) (b.plane y x) (predict (whole g m q b) y x)
  unfolding numbers_ld state_at left_ld
  number-whole s y x hy hx e =
      let k : ℕ = slice_of g (size_of b) y x in
      let i : ℕ = index_at g m q 0 (size_of b) y x in
      let r = state_at g m (b ∷ bs) q (suc k) in
      number_back g (size_of b) hm hn y x hy hx s (λ y x. number_at i (b.plane y x) (predict r y x)) (numbers_from g m 1 bs (q k) k) e
      ∙ ap (number_at i (b.plane y x)) (state_predict (suc k) y x hy hx (omega arith))

-- ---- sizes
-- a value rebuilt from a prediction p of c lies on c's side of p, beyond c by at most half of |c - p| and 1
over : (d c p : ℤ) (s n : ℕ) → c -ℤ p ≡ d → nat_abs c ≤ n → nat_abs p ≤ 3 * n + 2 → s ≤ nat_abs d + nat_abs d / 2 + 1 → nat_abs (p +ℤ signed d s) ≤ 3 * n + 2
over (pos a) c p s n e hc hp hs =
    let v = p +ℤ pos s in
    let l = var p ⊞ var (pos s) in
    let k = rw e at (var c ⊟ var p).law in
    omega (arith, l.law, k, (parts c).abs, (parts p).abs, (parts v).abs, (parts v).one_side)
over (negsuc a) c p s n e hc hp hs =
    let v = p +ℤ neg_ℤ (pos s) in
    let l = var p ⊟ var (pos s) in
    let k = rw e at (var c ⊟ var p).law in
    omega (arith, l.law, k, (parts c).abs, (parts p).abs, (parts v).abs, (parts v).one_side)

module _ (n : ℕ) (room : n < 2 ^ 51) where
  step_room : (c p : ℤ) → nat_abs c ≤ n → nat_abs p ≤ 3 * n + 2 → nat_abs (c -ℤ p) < 2 ^ 53
  step_room c p hc hp = omega (arith, abs_sub c p)

  pub step-most : (c p : ℤ) (i : ℕ) → nat_abs c ≤ n → nat_abs p ≤ 3 * n + 2 → nat_abs (rebuilt_at i c p) ≤ 3 * n + 2
  step-most c p i hc hp =
      let r = quantised (c -ℤ p) i (step_room c p hc hp) in
      rw r.is (over (c -ℤ p) c p r.size n refl hc hp r.most)

  module _ (g : Grid) (m : List ℕ) (q : ℕ → ℕ) (b : Band) (small : (y x : ℕ) → y < b.high → x < b.wide → nat_abs (b.plane y x) ≤ n) where
    -- where coefficients stay within n, rebuilt values stay within 3 n + 2
    pub whole-most : (y x : ℕ) → y < b.high → x < b.wide → nat_abs (whole g m q b y x) ≤ 3 * n + 2
    whole-most =
        let w = whole g m q b in
        by_neighbours b.high b.wide (λ y x. nat_abs (w y x) ≤ 3 * n + 2)
        (λ y x hy hx e.
        rw ((whole_recurs g m q b).recurs y x hy hx)
        (step-most (b.plane y x) (predict w y x) (index_at g m q 0 (size_of b) y x) (small y x hy hx) (predict-most w (3 * n + 2) y x e)))

    -- a coefficient less its prediction is within the quantiser's room
    pub whole_room : (y x : ℕ) → y < b.high → x < b.wide → nat_abs (b.plane y x -ℤ predict (whole g m q b) y x) < 2 ^ 53
    whole_room y x hy hx =
        let w = whole g m q b in
        step_room (b.plane y x) (predict w y x) (small y x hy hx)
        (predict-most w (3 * n + 2) y x (neighbours (λ y x. nat_abs (w y x) ≤ 3 * n + 2) y x (λ c a hc ha. whole-most c a (omega arith) (omega arith))))

    -- ---- the reader's plane
    pub read_whole : (bs : List Band) (s : ℕ → List ℤ) → 0 < g.down → 0 < g.across
        → ((k : ℕ) → k < slice_count g → s k ≡ numbers_ld g m (b ∷ bs) (state_at g m (b ∷ bs) q k) (q k) k)
        → Agree b.high b.wide (whole g m q b) (predicted_band g m q (size_of b) s).plane
    read_whole bs s hm hn e =
        let w = whole g m q b in
        scan_unique (λ y x p. p +ℤ inverse_plane g m q 0 (size_of b) s y x) b.high b.wide w
        (record {
          recurs = λ y x hy hx.
              let i : ℕ = index_at g m q 0 (size_of b) y x in
              let p = predict w y x in
              (whole_recurs g m q b).recurs y x hy hx
              ∙ ap (λ (r : ℤ). p +ℤ r)
              (sym (standard_same (b.plane y x -ℤ p) i (whole_room y x hy hx))
              ∙ ap (λ (v : ℤ). inverse v i)
              (sym (number-whole g m q b bs hm hn s y x hy hx (e (slice_of g (size_of b) y x) (slice_lt g (size_of b) hm hn y x hy hx)))));
        })
