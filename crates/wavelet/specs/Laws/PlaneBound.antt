-- How large the analysis of a plane makes its numbers, filter by filter, and that every sum and product of it is a
-- number of 64 bits while they stay within 2 ^ 51: what `wr` does with any other number changes nothing.
use Rattle.std.specs.Prelude.{◌≡◌, ℕ, zero, suc, ◌+◌, ◌-◌, ◌*◌, ◌/◌, ◌%◌, ◌^◌, ◌<◌, ◌≤◌, Bool, true, false, ◌&&◌, List, [], ◌∷◌, ◌++◌, length, ℤ, pos, ◌*ℤ◌, unsigned_abs, refl}
use Rattle.std.proofs.Common.{ap, ◌∙◌, arith, le_trans, mul-le-mul_left, mul-le-mul, get_or-append-add}
use Rattle.std.proofs.lemmas.Bool.{false≢true}
use Rattle.std.proofs.Math.Decide.{dec_lt}
use Rattle.std.proofs.Math.ListN.{get_or-eq_default, get_or-append}
use Rattle.laws.specs.Laws.Integer.{abs_mul}
use Rattle.laws.specs.Laws.Machine.{fit}
use Rattle.laws.specs.Rows.{at, row}
use Rattle.laws.specs.Laws.Rows.{at_row, span_ext, length-span}
use Rattle.laws.specs.Plane.{Plane, turned, as_list}
use Rattle.laws.specs.Laws.Plane.{row_lt, column-lt}
use Rattle.wavelet.specs.Lifting.{Keeps, exact}
use Rattle.wavelet.specs.Laws.Lifting.{each_filter}
use Rattle.wavelet.specs.Filters.{filter_of, analysis_by}
use Rattle.wavelet.specs.Depth.{deep_filter, limit_by}
use Rattle.wavelet.specs.Laws.Bound.{growth, grown, InRange, Pass, pass}
use Rattle.wavelet.specs.Planes.{Band, coefficients, of_rows, rows_by, columns_by, raise, h_pass, vh_pass, part, part_h, dwt_h, dwt, Padded}
use Rattle.wavelet.specs.Laws.Plane.{rows_cong, rows_at, bits-le, padded-both, padded-across}

-- ---- what is said
-- every number of h rows of w is at most M in size; every number of every band is
abbrev pub Small : ℕ → ℕ → ℕ → Plane → Type 0
Small M h w f = (y x : ℕ) → y < h → x < w → unsigned_abs (f y x) ≤ M

abbrev pub AllSmall : ℕ → List Band → Type 0
AllSmall N [] = Unit {0}
AllSmall N (c ∷ cs) = Small N c.high c.wide c.plane × AllSmall N cs

-- the bands with wr are those without, and every number of them is at most N in size
pub record Unwrapped (N : ℕ) (bs cs : List Band) : Type 0 where
  pub same : bs ≡ cs
  pub small : AllSmall N cs

-- how large numbers of at most M become: by the rows of a level, with the shift of filter i; by a level both ways; by k
-- levels; by k and d levels
abbrev pub h_grown : ℕ → ℕ → ℕ
h_grown i M = grown i (2 ^ (filter_of i).bits * M)

abbrev pub vh_grown : ℕ → ℕ → ℕ → ℕ
vh_grown i j M = grown j (h_grown i M)

unfoldable pub dwt_h_grown : ℕ → ℕ → ℕ → ℕ
dwt_h_grown i zero M = M
dwt_h_grown i (suc k) M = dwt_h_grown i k (h_grown i M)

unfoldable pub dwt_grown : ℕ → ℕ → ℕ → ℕ → ℕ → ℕ
dwt_grown i j k zero M = dwt_h_grown i k M
dwt_grown i j k (suc d) M = dwt_grown i j k d (vh_grown i j M)

-- ---- nothing becomes smaller
grown-up : (i : ℕ) → i ≤ 6 → (M : ℕ) → M ≤ grown i M
unfolding grown growth
grown-up = each_filter (λ i. (M : ℕ) → M ≤ grown i M) (λ M. omega arith) (λ M. omega arith) (λ M. omega arith) (λ M. omega arith) (λ M. omega arith) (λ M. omega arith) (λ M. omega arith)

raised-le : (b M : ℕ) → b ≤ 1 → (M ≤ 2 ^ b * M) × (2 ^ b * M ≤ 2 * M)
raised-le zero M h = omega arith
raised-le (suc zero) M h = omega arith
raised-le (suc (suc b)) M h = absurd (omega arith)

h_up : (i M : ℕ) → i ≤ 6 → M ≤ h_grown i M
h_up i M l = le_trans (raised-le (filter_of i).bits M (bits-le i l)).0 (grown-up i l (2 ^ (filter_of i).bits * M))

vh_up : (i j M : ℕ) → i ≤ 6 → j ≤ 6 → M ≤ vh_grown i j M
vh_up i j M hi hj = le_trans (h_up i M hi) (grown-up j hj (h_grown i M))

dwt_h-up : (i k M : ℕ) → i ≤ 6 → M ≤ dwt_h_grown i k M
unfolding dwt_h_grown
dwt_h-up i zero M l = omega arith
dwt_h-up i (suc k) M l = le_trans (h_up i M l) (dwt_h-up i k (h_grown i M) l)

dwt-up : (i j k d M : ℕ) → i ≤ 6 → j ≤ 6 → M ≤ dwt_grown i j k d M
unfolding dwt_grown
dwt-up i j k zero M hi hj = dwt_h-up i k M hi
dwt-up i j k (suc d) M hi hj = le_trans (vh_up i j M hi hj) (dwt-up i j k d (vh_grown i j M) hi hj)

-- ---- rows and columns
row_small : (M w : ℕ) (f : ℕ → ℤ) → ((x : ℕ) → x < w → unsigned_abs (f x) ≤ M) → (k : ℕ) → unsigned_abs (at (row w f) k) ≤ M
row_small M w f b k = by (dec_lt k w)
  where
    by : Dec (k < w) → unsigned_abs (at (row w f) k) ≤ M
    by (yes l) = rw (at_row w f k l) (b k l)
    by (no g) = rw (get_or-eq_default (row w f) (pos 0) {n = k} (rw (length-span f 0 w) (omega arith))) (omega arith)

-- a plane with wr is the one without, and its numbers are at most M in size
record PlaneUnwrapped (M h w : ℕ) (p q : Plane) : Type 0 where
  same : p ≡ q
  small : Small M h w q

rows_unwrapped : (wr : ℤ → ℤ) → Keeps wr → (i M h w : ℕ) (f : Plane) → i ≤ 6 → InRange i M → w % 2 ≡ 0 → Small M h w f
    → PlaneUnwrapped (grown i M) h w (rows_by (analysis_by wr i) h w f) (rows_by (analysis_by exact i) h w f)
unfolding rows_by
rows_unwrapped wr keeps i M h w f hi m e b = record {
  same = ap of_rows (span_ext (λ y. analysis_by wr i (row w (f y))) (λ y. analysis_by exact i (row w (f y))) 0 h (λ y a c. (one y (omega arith)).same));
  small = λ y x hy hx. rw (rows_at (analysis_by exact i) h w f y x hy) ((one y hy).small x);
}
  where
    one : (y : ℕ) → y < h → Pass wr i M (row w (f y))
    one y hy = pass wr keeps i M (row w (f y)) hi m (rw (length-span (f y) 0 w) e) (row_small M w (f y) (λ x hx. b y x hy hx))

columns_unwrapped : (wr : ℤ → ℤ) → Keeps wr → (i M h w : ℕ) (f : Plane) → i ≤ 6 → InRange i M → h % 2 ≡ 0 → Small M h w f
    → PlaneUnwrapped (grown i M) h w (columns_by (analysis_by wr i) h w f) (columns_by (analysis_by exact i) h w f)
columns_unwrapped wr keeps i M h w f hi m e b =
    let k = rows_unwrapped wr keeps i M w h (turned f) hi m e (λ y x hy hx. b x y hx hy) in
    record { same = ap turned k.same; small = λ y x hy hx. k.small x y hx hy }

raise_abs : (b M : ℕ) (z : ℤ) → unsigned_abs z ≤ M → b ≤ 1 → unsigned_abs (raise exact b z) ≤ 2 ^ b * M
raise_abs zero M z l h = omega arith
raise_abs (suc zero) M z l h = omega (arith, abs_mul (pos 2) z)
raise_abs (suc (suc b)) M z l h = absurd (omega arith)

raise-same : (wr : ℤ → ℤ) → Keeps wr → (b : ℕ) (z : ℤ) → unsigned_abs (raise exact b z) < 2 ^ 63 → b ≤ 1 → raise wr b z ≡ raise exact b z
raise-same wr keeps zero z l h = refl
raise-same wr keeps (suc zero) z l h = keeps (pos 2 *ℤ z) (fit (pos 2 *ℤ z) l)
raise-same wr keeps (suc (suc b)) z l h = absurd (omega arith)

h_unwrapped : (wr : ℤ → ℤ) → Keeps wr → (i M h w : ℕ) (f : Plane) → i ≤ 6 → 2 ^ 16 ≤ M → h_grown i M ≤ 2 ^ 51 → w % 2 ≡ 0 → Small M h w f
    → PlaneUnwrapped (h_grown i M) h w (h_pass wr i h w f) (h_pass exact i h w f)
h_unwrapped wr keeps i M h w f hi lo up e s =
    let b : ℕ = (filter_of i).bits in
    let few = bits-le i hi in
    let g : Plane = λ y x. raise exact b (f y x) in
    let sg : Small (2 ^ b * M) h w g = λ y x hy hx. raise_abs b M (f y x) (s y x hy hx) few in
    let m = grown-up i hi (2 ^ b * M) in
    let k = rows_unwrapped wr keeps i (2 ^ b * M) h w g hi (record { low = omega (arith, raised-le b M few); high = up }) e sg in
    let c = rows_cong (analysis_by wr i) h w (λ y x. raise wr b (f y x)) g
    (record { same = λ y x hy hx. raise-same wr keeps b (f y x) (omega (arith, sg y x hy hx, m, up)) few }) in
    record { same = c ∙ k.same; small = k.small }

vh_unwrapped : (wr : ℤ → ℤ) → Keeps wr → (i j M h w : ℕ) (f : Plane) → i ≤ 6 → j ≤ 6 → 2 ^ 16 ≤ M → vh_grown i j M ≤ 2 ^ 51 → h % 2 ≡ 0 → w % 2 ≡ 0 → Small M h w f
    → PlaneUnwrapped (vh_grown i j M) h w (vh_pass wr i j h w f) (vh_pass exact i j h w f)
vh_unwrapped wr keeps i j M h w f hi hj lo up e₁ e₂ s =
    let u = grown-up j hj (h_grown i M) in
    let a = h_unwrapped wr keeps i M h w f hi lo (omega arith) e₂ s in
    let k = columns_unwrapped wr keeps j (h_grown i M) h w (h_pass exact i h w f) hj (record { low = le_trans lo (h_up i M hi); high = up }) e₁ a.small in
    record { same = ap (columns_by (analysis_by wr j) h w) a.same ∙ k.same; small = k.small }

-- ---- levels
small_le : (M N h w : ℕ) (f : Plane) → M ≤ N → Small M h w f → Small N h w f
small_le M N h w f l s y x hy hx = le_trans (s y x hy hx) l

all_append : (N : ℕ) (bs cs : List Band) → AllSmall N bs → AllSmall N cs → AllSmall N (bs ++ cs)
all_append N [] cs p q = q
all_append N (c ∷ bs) cs p q = (p.0, all_append N bs cs p.1 q)

dwt_h_unwrapped : (wr : ℤ → ℤ) → Keeps wr → (i k M h w : ℕ) (f : Plane) → i ≤ 6 → 2 ^ 16 ≤ M → dwt_h_grown i k M ≤ 2 ^ 51 → Padded k 0 h w → Small M h w f
    → Unwrapped (dwt_h_grown i k M) (dwt_h wr i k h w f) (dwt_h exact i k h w f)
unfolding dwt_h dwt_h_grown
dwt_h_unwrapped wr keeps i zero M h w f hi lo up e s = record { same = refl; small = (s, tt) }
dwt_h_unwrapped wr keeps i (suc k) M h w f hi lo up e s =
    let p = padded-across k h w e in
    let top = dwt_h-up i k (h_grown i M) hi in
    let a = h_unwrapped wr keeps i M h w f hi lo (le_trans top up) p.0 s in
    let g : Plane = h_pass exact i h w f in
    let t : Band = record { high = h; wide = w / 2; plane = part_h 1 g } in
    let n = dwt_h_unwrapped wr keeps i k (h_grown i M) h (w / 2) (part_h 0 g) hi (le_trans lo (h_up i M hi)) up p.1 (λ y x hy hx. a.small y (2 * x + 0) hy (omega arith)) in
    record {
      same = ap (λ (q : Plane). dwt_h wr i k h (w / 2) (part_h 0 q) ++ (record { high = h; wide = w / 2; plane = part_h 1 q } ∷ [])) a.same
          ∙ ap (λ (l : List Band). l ++ (t ∷ [])) n.same;
      small = all_append (dwt_h_grown i k (h_grown i M)) (dwt_h exact i k h (w / 2) (part_h 0 g)) (t ∷ []) n.small
          ((λ y x hy hx. le_trans (a.small y (2 * x + 1) hy (omega arith)) top), tt);
    }

-- rows by filter i, columns by filter j: from numbers of at most M the analysis wraps nowhere, whatever a wrap would
-- give, and leaves none above the bound that their growth gives
pub dwt_wraps_nowhere : (wr : ℤ → ℤ) → Keeps wr → (i j k d M h w : ℕ) (f : Plane) → i ≤ 6 → j ≤ 6 → 2 ^ 16 ≤ M → dwt_grown i j k d M ≤ 2 ^ 51 → Padded k d h w → Small M h w f
    → Unwrapped (dwt_grown i j k d M) (dwt wr i j k d h w f) (dwt exact i j k d h w f)
unfolding dwt dwt_grown
dwt_wraps_nowhere wr keeps i j k zero M h w f hi hj lo up e s = dwt_h_unwrapped wr keeps i k M h w f hi lo up e s
dwt_wraps_nowhere wr keeps i j k (suc d) M h w f hi hj lo up e s =
    let p = padded-both k d h w e in
    let N : ℕ = vh_grown i j M in
    let top = dwt-up i j k d N hi hj in
    let a = vh_unwrapped wr keeps i j M h w f hi hj lo (le_trans top up) p.0 p.1.0 s in
    let g : Plane = vh_pass exact i j h w f in
    let one : (u v : ℕ) → u ≤ 1 → v ≤ 1 → Small N (h / 2) (w / 2) (part u v g) =
    λ u v hu hv y x hy hx. a.small (2 * y + u) (2 * x + v) (omega (arith, p.0)) (omega (arith, p.1.0)) in
    let t0 : Band = record { high = h / 2; wide = w / 2; plane = part 0 1 g } in
    let t1 : Band = record { high = h / 2; wide = w / 2; plane = part 1 0 g } in
    let t2 : Band = record { high = h / 2; wide = w / 2; plane = part 1 1 g } in
    let n = dwt_wraps_nowhere wr keeps i j k d N (h / 2) (w / 2) (part 0 0 g) hi hj (le_trans lo (vh_up i j M hi hj)) up p.1.1 (one 0 0 (omega arith) (omega arith)) in
    record {
      same = ap (λ (q : Plane). dwt wr i j k d (h / 2) (w / 2) (part 0 0 q)
          ++ (record { high = h / 2; wide = w / 2; plane = part 0 1 q } ∷ record { high = h / 2; wide = w / 2; plane = part 1 0 q } ∷ record { high = h / 2; wide = w / 2; plane = part 1 1 q } ∷ [])) a.same
          ∙ ap (λ (l : List Band). l ++ (t0 ∷ t1 ∷ t2 ∷ [])) n.same;
      small = all_append (dwt_grown i j k d N) (dwt exact i j k d (h / 2) (w / 2) (part 0 0 g)) (t0 ∷ t1 ∷ t2 ∷ []) n.small (
        small_le N (dwt_grown i j k d N) (h / 2) (w / 2) (part 0 1 g) top (one 0 1 (omega arith) (omega arith)),
        (
          small_le N (dwt_grown i j k d N) (h / 2) (w / 2) (part 1 0 g) top (one 1 0 (omega arith) (omega arith)),
          (small_le N (dwt_grown i j k d N) (h / 2) (w / 2) (part 1 1 g) top (one 1 1 (omega arith) (omega arith)), tt),
        ),
      );
    }

-- ---- a level that makes numbers at most g times as large: n levels make them at most g ^ n times as large
unfoldable pub times : ℕ → ℕ → ℕ → ℕ
times g zero M = M
times g (suc n) M = times g n (g * M)

times-le : (g n M L : ℕ) → M ≤ L → times g n M ≤ times g n L
unfolding times
times-le g zero M L h = h
times-le g (suc n) M L h = times-le g n (g * M) (g * L) (mul-le-mul_left g h)

pub record Factor (i j g : ℕ) : Type 0 where
  pub one : 1 ≤ g
  pub h_le : (M : ℕ) → h_grown i M ≤ g * M
  pub vh_le : (M : ℕ) → vh_grown i j M ≤ g * M

times-up : (g n M : ℕ) → 1 ≤ g → M ≤ times g n M
unfolding times
times-up g zero M h = omega arith
times-up g (suc n) M h = le_trans (omega (arith, mul-le-mul {n₁ = 1} {m₁ = M} {n₂ = g} {m₂ = M} h (omega arith))) (times-up g n (g * M) h)

dwt_h-times : (i j g k n M : ℕ) → Factor i j g → k ≤ n → dwt_h_grown i k M ≤ times g n M
unfolding dwt_h_grown times
dwt_h-times i j g zero n M f l = times-up g n M f.one
dwt_h-times i j g (suc k) zero M f l = absurd (omega arith)
dwt_h-times i j g (suc k) (suc n) M f l = le_trans (dwt_h-times i j g k n (h_grown i M) f (omega arith)) (times-le g n (h_grown i M) (g * M) (f.h_le M))

pub dwt-times : (i j g k d n M : ℕ) → Factor i j g → k + d ≤ n → dwt_grown i j k d M ≤ times g n M
unfolding dwt_grown times
dwt-times i j g k zero n M f l = dwt_h-times i j g k n M f (omega arith)
dwt-times i j g k (suc d) zero M f l = absurd (omega arith)
dwt-times i j g k (suc d) (suc n) M f l = le_trans (dwt-times i j g k d n (vh_grown i j M) f (omega arith)) (times-le g n (vh_grown i j M) (g * M) (f.vh_le M))

-- how many times as large a pass makes numbers at most, in thousandths: by LeGall and Haar, and by every filter
abbrev pass_most : Bool → ℕ
pass_most true = 3000
pass_most false = 7408

-- how many times as large a level makes them at most, with a shift by one bit and two passes: 2 times 3 times 3, and 2
-- times 7.408 times 7.408, rounded up
abbrev pub level_most : Bool → ℕ
level_most true = 18
level_most false = 110

deep_growth : (i : ℕ) → i ≤ 6 → deep_filter i ≡ true → growth i ≤ pass_most true
unfolding growth
deep_growth =
    each_filter (λ i. deep_filter i ≡ true → growth i ≤ pass_most true) (λ e. omega arith) (λ e. omega arith) (λ e. omega arith) (λ e. omega arith) (λ e. omega arith)
    (λ e. absurd (false≢true e)) (λ e. absurd (false≢true e))

any_growth : (i : ℕ) → i ≤ 6 → growth i ≤ pass_most false
unfolding growth
any_growth = each_filter (λ i. growth i ≤ pass_most false) (omega arith) (omega arith) (omega arith) (omega arith) (omega arith) (omega arith) (omega arith)

pass_le : (i a : ℕ) {M N : ℕ} → growth i ≤ a → M ≤ N → grown i M ≤ a * N / 1000
unfolding grown
pass_le i a {M} {N} g h = let l : growth i * M ≤ a * N = mul-le-mul g h in omega arith

-- a level: a pass by rows of numbers that the shift has made twice as large at most, and a pass by columns
factor_by_lem : (b : Bool) (i j : ℕ) → i ≤ 6 → growth i ≤ pass_most b → growth j ≤ pass_most b → Factor i j (level_most b)
factor_by_lem b i j hi gi gj = record {
  one = one b;
  h_le = λ M. le_trans (h M) (across b M);
  vh_le = λ M. le_trans (pass_le j (pass_most b) gj (h M)) (down b M);
}
  where
    h : (M : ℕ) → h_grown i M ≤ pass_most b * (2 * M) / 1000
    h M = pass_le i (pass_most b) gi (raised-le (filter_of i).bits M (bits-le i hi)).1

    one : (b : Bool) → 1 ≤ level_most b
    one true = omega arith
    one false = omega arith

    across : (b : Bool) (M : ℕ) → pass_most b * (2 * M) / 1000 ≤ level_most b * M
    across true M = omega arith
    across false M = omega arith

    down : (b : Bool) (M : ℕ) → pass_most b * (pass_most b * (2 * M) / 1000) / 1000 ≤ level_most b * M
    down true M = omega arith
    down false M = omega arith

-- with every pair of filters
pub level_factor : (i j : ℕ) → i ≤ 6 → j ≤ 6 → Factor i j (level_most (deep_filter i && deep_filter j))
level_factor i j hi hj = by (deep_filter i) (deep_filter j) refl refl
  where
    by : (a b : Bool) → deep_filter i ≡ a → deep_filter j ≡ b → Factor i j (level_most (a && b))
    by true true ei ej = factor_by_lem true i j hi (deep_growth i hi ei) (deep_growth j hj ej)
    by true false ei ej = factor_by_lem false i j hi (any_growth i hi) (any_growth j hj)
    by false b ei ej = factor_by_lem false i j hi (any_growth i hi) (any_growth j hj)

-- as many levels as the filters allow stay below 2 ^ 51
pub levels_below : (b : Bool) → times (level_most b) (limit_by b) (2 ^ 16) < 2 ^ 51
unfolding times
levels_below true = omega arith
levels_below false = omega arith

-- ---- the coefficients as a list
at-append : (N : ℕ) (xs ys : List ℤ) → ((k : ℕ) → unsigned_abs (at xs k) ≤ N) → ((k : ℕ) → unsigned_abs (at ys k) ≤ N) → (k : ℕ) → unsigned_abs (at (xs ++ ys) k) ≤ N
at-append N xs ys p q k = by (dec_lt k (length xs))
  where
    by : Dec (k < length xs) → unsigned_abs (at (xs ++ ys) k) ≤ N
    by (yes l) = rw (get_or-append xs ys (pos 0) k l) (p k)
    by (no l) =
        let e : k ≡ length xs + (k - length xs) = omega arith in
        rw (e, get_or-append-add xs ys (k - length xs) (pos 0)) (q (k - length xs))

list_small : (N h w : ℕ) (f : Plane) → Small N h w f → (k : ℕ) → unsigned_abs (at (as_list h w f) k) ≤ N
list_small N h w f s k = row_small N (h * w) (λ k. f (k / w) (k % w)) (λ x hx. s (x / w) (x % w) (row_lt h w x hx) (column-lt h w x hx)) k

pub coefficients_small : (N : ℕ) (bs : List Band) → AllSmall N bs → (k : ℕ) → unsigned_abs (at (coefficients bs) k) ≤ N
coefficients_small N [] s k = omega arith
coefficients_small N (b ∷ bs) s k =
    at-append N (as_list b.high b.wide b.plane) (coefficients bs) (list_small N b.high b.wide b.plane s.0) (coefficients_small N bs s.1) k
