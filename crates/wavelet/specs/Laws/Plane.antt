-- The standard's synthesis undoes the analysis of planes, at every number of levels.
use Rattle.std.specs.Prelude.{◌≡◌, ℕ, zero, suc, ◌+◌, ◌*◌, ◌/◌, ◌%◌, ◌^◌, ◌<◌, ◌≤◌, List, [], ◌∷◌, ◌++◌, length, ℤ, pos, ◌+ℤ◌, ◌*ℤ◌}
use Rattle.std.proofs.Math.Path.{refl, ap, ap₂}
use Rattle.std.proofs.Common.{sym, ◌∙◌, arith, zero-add, add-suc, suc-add, pow-suc, mul_comm, mul_assoc, div-add-mod', append_assoc, length-append, get_or-append-add, eq-eqb, ne_eqb}
use Rattle.std.proofs.Math.Nat.{mul-mod_right}
use Rattle.std.proofs.Math.Decide.{ℕ_discrete}
use Rattle.std.proofs.Math.ListN.{get_or-append}
use Rattle.laws.specs.Laws.Integer.{ext, floor_law, var, times, ◌⊞◌, parts}
use Rattle.laws.specs.Rows.{at, row}
use Rattle.laws.specs.Laws.Rows.{at_row, row_at, row_ext, get_or-span, span_ext, length-span}
use Rattle.laws.specs.Plane.{Plane, turned, as_list}
use Rattle.laws.specs.Laws.Plane.{Agree, length-as_list, as_list_cong}
use Rattle.wavelet.specs.Lifting.{exact}
use Rattle.wavelet.specs.Laws.Lifting.{each_filter, length-analysis, synthesis-exact}
use Rattle.wavelet.specs.Filters.{dd97, legall, dd137, haar0, haar1, fidelity, daub97, filter_of, analysis_by, synthesis_by}
use Rattle.wavelet.specs.Planes.{Band, coefficients, of_rows, rows_by, columns_by, raise, lower, part, part_h, h_pass, vh_pass, dwt_h, dwt, by_parity, band_at, interleave_h, interleave, h_synthesis, vh_synthesis, idwt_h, idwt, Padded}

-- ---- rows and columns
agree_turned : (h w : ℕ) (f g : Plane) → Agree h w f g → Agree w h (turned f) (turned g)
agree_turned h w f g e = record { same = λ y x hy hx. e.same x y hx hy }

-- a pass depends on its own rows alone
pub rows_cong : (A : List ℤ → List ℤ) (h w : ℕ) (f g : Plane) → Agree h w f g → rows_by A h w f ≡ rows_by A h w g
unfolding rows_by
rows_cong A h w f g e =
    ap of_rows (span_ext (λ y. A (row w (f y))) (λ y. A (row w (g y))) 0 h (λ y a b. ap A (row_ext w (f y) (g y) (λ x c. e.same y x (omega arith) c))))

pub columns_cong : (A : List ℤ → List ℤ) (h w : ℕ) (f g : Plane) → Agree h w f g → columns_by A h w f ≡ columns_by A h w g
columns_cong A h w f g e = ap turned (rows_cong A w h (turned f) (turned g) (agree_turned h w f g e))

pub rows_at : (A : List ℤ → List ℤ) (h w : ℕ) (f : Plane) (y x : ℕ) → y < h → rows_by A h w f y x ≡ at (A (row w (f y))) x
unfolding rows_by
rows_at A h w f y x l = ap (λ (r : List ℤ). at r x) (get_or-span (λ y. A (row w (f y))) 0 h y [] l ∙ ap (λ (k : ℕ). A (row w (f k))) (zero-add y))

-- one pass after another is their composite
pub rows_again : (A B : List ℤ → List ℤ) (h w : ℕ) (f : Plane) → ((xs : List ℤ) → length (A xs) ≡ length xs)
    → Agree h w (rows_by B h w (rows_by A h w f)) (rows_by (λ xs. B (A xs)) h w f)
rows_again A B h w f long = record {
  same = λ y x hy hx.
      let r = row w (f y) in
      let same : row w (rows_by A h w f y) ≡ A r =
      row_ext w (rows_by A h w f y) (at (A r)) (λ k c. rows_at A h w f y k hy) ∙ row_at w (A r) (long r ∙ length-span (f y) 0 w) in
      rows_at B h w (rows_by A h w f) y x hy ∙ ap (λ (z : List ℤ). at (B z) x) same ∙ sym (rows_at (λ xs. B (A xs)) h w f y x hy);
}

pub columns_again : (A B : List ℤ → List ℤ) (h w : ℕ) (f : Plane) → ((xs : List ℤ) → length (A xs) ≡ length xs)
    → Agree h w (columns_by B h w (columns_by A h w f)) (columns_by (λ xs. B (A xs)) h w f)
columns_again A B h w f long = agree_turned w h _ _ (rows_again A B w h (turned f) long)

-- A, and S, which undoes it at even lengths
pub record Undone (A S : List ℤ → List ℤ) : Type 0 where
  pub long : (xs : List ℤ) → length (A xs) ≡ length xs
  pub back : (xs : List ℤ) → length xs % 2 ≡ 0 → S (A xs) ≡ xs

module _ (A S : List ℤ → List ℤ) (u : Undone A S) where
  rows_back : (h w : ℕ) (f : Plane) → w % 2 ≡ 0 → Agree h w (rows_by S h w (rows_by A h w f)) f
  rows_back h w f e = record {
    same = λ y x hy hx.
        let r = row w (f y) in
        (rows_again A S h w f u.long).same y x hy hx ∙ rows_at (λ xs. S (A xs)) h w f y x hy
        ∙ ap (λ (z : List ℤ). at z x) (u.back r (rw (length-span (f y) 0 w) e)) ∙ at_row w (f y) x hx;
  }

  columns_back : (h w : ℕ) (f : Plane) → h % 2 ≡ 0 → Agree h w (columns_by S h w (columns_by A h w f)) f
  columns_back h w f e = agree_turned w h _ _ (rows_back w h (turned f) e)

-- ---- the accuracy bits
lower-raise : (b : ℕ) (z : ℤ) → b ≤ 1 → lower b (raise exact b z) ≡ z
lower-raise zero z h =
    let s = var z ⊞ var (pos 0) in
    let f = floor_law (z +ℤ pos 0) {m = 1} (omega arith) in
    ext (omega (arith, parts z))
lower-raise (suc zero) z h =
    let s = times 2 (var z) ⊞ var (pos 1) in
    let f = floor_law (pos 2 *ℤ z +ℤ pos 1) {m = 2} (omega arith) in
    ext (omega (arith, parts z))
lower-raise (suc (suc b)) z h = absurd (omega arith)

pub bits-le : (i : ℕ) → i ≤ 6 → (filter_of i).bits ≤ 1
unfolding dd97 legall dd137 haar0 haar1 fidelity daub97
bits-le = each_filter (λ i. (filter_of i).bits ≤ 1) (omega arith) (omega arith) (omega arith) (omega arith) (omega arith) (omega arith) (omega arith)

-- ---- taken apart and put together
parity_is : (n : ℕ) (f : ℕ → ℤ) → by_parity n (f (2 * (n / 2) + 0)) (f (2 * (n / 2) + 1)) ≡ f n
parity_is n f = by (ℕ_discrete (n % 2) 0)
  where
    by : Dec (n % 2 ≡ 0) → by_parity n (f (2 * (n / 2) + 0)) (f (2 * (n / 2) + 1)) ≡ f n
    by (yes e) = let q : 2 * (n / 2) + 0 ≡ n = omega arith in rw (eq-eqb (n % 2) 0 e) (ap f q)
    by (no o) = let q : 2 * (n / 2) + 1 ≡ n = omega arith in rw (ne_eqb (n % 2) 0 o) (ap f q)

interleave_h_is : (g : Plane) (y x : ℕ) → interleave_h (part_h 0 g) (part_h 1 g) y x ≡ g y x
interleave_h_is g y x = parity_is x (g y)

interleave_is : (g : Plane) (y x : ℕ) → interleave (part 0 0 g) (part 0 1 g) (part 1 0 g) (part 1 1 g) y x ≡ g y x
interleave_is g y x =
    ap₂ (by_parity y) (parity_is x (g (2 * (y / 2) + 0))) (parity_is x (g (2 * (y / 2) + 1))) ∙ parity_is y (λ k. g k x)

interleave_h_cong : (h w : ℕ) (l m r : Plane) → w % 2 ≡ 0 → Agree h (w / 2) l m → Agree h w (interleave_h l r) (interleave_h m r)
interleave_h_cong h w l m r e a = record { same = λ y x hy hx. ap (λ (z : ℤ). by_parity x z (r y (x / 2))) (a.same y (x / 2) hy (omega arith)) }

interleave_cong : (h w : ℕ) (l m hl lh hh : Plane) → h % 2 ≡ 0 → w % 2 ≡ 0 → Agree (h / 2) (w / 2) l m → Agree h w (interleave l hl lh hh) (interleave m hl lh hh)
interleave_cong h w l m hl lh hh e f a = record {
  same = λ y x hy hx. ap (λ (z : ℤ). by_parity y z (interleave_h lh hh (y / 2) x)) ((interleave_h_cong (h / 2) w l m hl f a).same (y / 2) x (omega arith) hx);
}

twice_half : (n : ℕ) → n % 2 ≡ 0 → 2 * (n / 2) ≡ n
twice_half n e = omega arith

pub band-left : (bs ts : List Band) (i : ℕ) → i < length bs → band_at (bs ++ ts) i ≡ band_at bs i
band-left bs ts i l = get_or-append bs ts _ i l

pub band-right : (bs ts : List Band) (i j : ℕ) → j ≡ length bs + i → band_at (bs ++ ts) j ≡ band_at ts i
band-right bs ts i j e = rw e (get_or-append-add bs ts i _)

-- ---- sides that can be halved
half_of : (n m : ℕ) → n % 2 ^ suc m ≡ 0 → (n % 2 ≡ 0) × (n / 2 % 2 ^ m ≡ 0)
half_of n m e =
    let c : ℕ = n / 2 ^ suc m in
    let f : n ≡ 2 * (2 ^ m * c) = sym (div-add-mod' n (2 ^ suc m)) ∙ rw e (omega (arith, mul_comm c (2 ^ suc m), ap (λ (z : ℕ). z * c) (pow-suc 2 m ∙ mul_comm (2 ^ m) 2), mul_assoc 2 (2 ^ m) c)) in
    let g : n / 2 ≡ 2 ^ m * c = omega arith in
    (omega arith, rw g (mul-mod_right (2 ^ m) c))

pub padded-both : (k d h w : ℕ) → Padded k (suc d) h w → (h % 2 ≡ 0) × ((w % 2 ≡ 0) × Padded k d (h / 2) (w / 2))
padded-both k d h w p =
    let a = half_of h d p.high in
    let b = half_of w (k + d) (rw (add-suc k d) at p.wide) in
    (a.0, (b.0, record { high = a.1; wide = b.1 }))

pub padded-across : (k h w : ℕ) → Padded (suc k) 0 h w → (w % 2 ≡ 0) × Padded k 0 h (w / 2)
padded-across k h w p = let b = half_of w (k + 0) (rw (suc-add k 0) at p.wide) in (b.0, record { high = p.high; wide = b.1 })

-- ---- how many bands
pub length-dwt_h : (wr : ℤ → ℤ) (i k h w : ℕ) (f : Plane) → length (dwt_h wr i k h w f) ≡ 1 + k
unfolding dwt_h
length-dwt_h wr i zero h w f = refl
length-dwt_h wr i (suc k) h w f = simp (length-append, length-dwt_h wr i k h (w / 2) (part_h 0 (h_pass wr i h w f))) (omega arith)

pub length-dwt : (wr : ℤ → ℤ) (i j k d h w : ℕ) (f : Plane) → length (dwt wr i j k d h w f) ≡ 1 + k + 3 * d
unfolding dwt
length-dwt wr i j k zero h w f = length-dwt_h wr i k h w f ∙ omega arith
length-dwt wr i j k (suc d) h w f = simp (length-append, length-dwt wr i j k d (h / 2) (w / 2) (part 0 0 (vh_pass wr i j h w f))) (omega arith)

-- ---- synthesis of the analysis
undone : (i : ℕ) → i ≤ 6 → Undone (analysis_by exact i) (synthesis_by exact i)
undone i l = record { long = length-analysis exact (filter_of i).stages; back = λ xs e. synthesis-exact i xs l e }

module _ (i j : ℕ) (hi : i ≤ 6) (hj : j ≤ 6) where
  abbrev b : ℕ
  b = (filter_of i).bits

  h_back : (h w : ℕ) (f dc : Plane) → w % 2 ≡ 0 → Agree h (w / 2) dc (part_h 0 (h_pass exact i h w f))
      → Agree h w (h_synthesis i dc (record { high = h; wide = w / 2; plane = part_h 1 (h_pass exact i h w f) })) f
  h_back h w f dc e a = record {
    same = λ y x hy hx.
        let g = h_pass exact i h w f in
        let p : Plane = interleave_h dc (part_h 1 g) in
        let same : Agree h w p g = record { same = λ y x hy hx. (interleave_h_cong h w dc (part_h 0 g) (part_h 1 g) e a).same y x hy hx ∙ interleave_h_is g y x } in
        ap (lower b)
        (ap (λ (n : ℕ). rows_by (synthesis_by exact i) h n p y x) (twice_half w e) ∙ ap (λ (q : Plane). q y x) (rows_cong (synthesis_by exact i) h w p g same)
        ∙ (rows_back (analysis_by exact i) (synthesis_by exact i) (undone i hi) h w (λ y x. raise exact b (f y x)) e).same y x hy hx)
        ∙ lower-raise b (f y x) (bits-le i hi);
  }

  vh_back : (h w : ℕ) (f dc : Plane) → h % 2 ≡ 0 → w % 2 ≡ 0 → Agree (h / 2) (w / 2) dc (part 0 0 (vh_pass exact i j h w f))
      → Agree h w (vh_synthesis i j dc (record { high = h / 2; wide = w / 2; plane = part 0 1 (vh_pass exact i j h w f) })
      (record { high = h / 2; wide = w / 2; plane = part 1 0 (vh_pass exact i j h w f) }) (record { high = h / 2; wide = w / 2; plane = part 1 1 (vh_pass exact i j h w f) })) f
  vh_back h w f dc e₁ e₂ a = record {
    same = λ y x hy hx.
        let S = synthesis_by exact i in
        let T = synthesis_by exact j in
        let g = vh_pass exact i j h w f in
        let r = h_pass exact i h w f in
        let p : Plane = interleave dc (part 0 1 g) (part 1 0 g) (part 1 1 g) in
        let same : Agree h w p g = record { same = λ y x hy hx. (interleave_cong h w dc (part 0 0 g) (part 0 1 g) (part 1 0 g) (part 1 1 g) e₁ e₂ a).same y x hy hx ∙ interleave_is g y x } in
        let cols : Agree h w (columns_by T h w p) r = record {
          same = λ y x hy hx. ap (λ (q : Plane). q y x) (columns_cong T h w p g same) ∙ (columns_back (analysis_by exact j) T (undone j hj) h w r e₁).same y x hy hx;
        } in
        ap (lower b)
        (ap₂ (λ (m n : ℕ). rows_by S m n (columns_by T m n p) y x) (twice_half h e₁) (twice_half w e₂)
        ∙ ap (λ (q : Plane). q y x) (rows_cong S h w (columns_by T h w p) r cols)
        ∙ (rows_back (analysis_by exact i) S (undone i hi) h w (λ y x. raise exact b (f y x)) e₂).same y x hy hx)
        ∙ lower-raise b (f y x) (bits-le i hi);
  }

  -- bands behind the first n + 1 change nothing
  pub idwt_h-left : (bs ts : List Band) (n : ℕ) → n < length bs → idwt_h i (bs ++ ts) n ≡ idwt_h i bs n
  unfolding idwt_h
  idwt_h-left bs ts zero l = ap (λ (r : Band). r.plane) (band-left bs ts 0 l)
  idwt_h-left bs ts (suc n) l = ap₂ (h_synthesis i) (idwt_h-left bs ts n (omega arith)) (band-left bs ts (1 + n) (omega arith))

  pub idwt-left : (bs ts : List Band) (k n : ℕ) → k + 3 * n < length bs → idwt i j (bs ++ ts) k n ≡ idwt i j bs k n
  unfolding idwt
  idwt-left bs ts k zero l = idwt_h-left bs ts k (omega arith)
  idwt-left bs ts k (suc n) l =
      rw (idwt-left bs ts k n (omega arith), band-left bs ts (1 + k + 3 * n) (omega arith), band-left bs ts (1 + (1 + k + 3 * n)) (omega arith), band-left bs ts (2 + (1 + k + 3 * n)) (omega arith))

  idwt_h_undoes_dwt_h : (k h w : ℕ) (f : Plane) → Padded k 0 h w → Agree h w (idwt_h i (dwt_h exact i k h w f) k) f
  unfolding idwt_h dwt_h
  idwt_h_undoes_dwt_h zero h w f s = record { same = λ y x hy hx. refl }
  idwt_h_undoes_dwt_h (suc k) h w f s = record {
    same = λ y x hy hx.
        let g = h_pass exact i h w f in
        let p = padded-across k h w s in
        let bs = dwt_h exact i k h (w / 2) (part_h 0 g) in
        let t : Band = record { high = h; wide = w / 2; plane = part_h 1 g } in
        let l = length-dwt_h exact i k h (w / 2) (part_h 0 g) in
        ap (λ (q : Plane). q y x) (ap₂ (h_synthesis i) (idwt_h-left bs (t ∷ []) k (omega arith)) (band-right bs (t ∷ []) 0 (1 + k) (omega arith)))
        ∙ (h_back h w f (idwt_h i bs k) p.0 (idwt_h_undoes_dwt_h k h (w / 2) (part_h 0 g) p.1)).same y x hy hx;
  }

  -- 15.4.1 undoes the analysis, for all levels: the synthesis of a plane's bands is the plane
  pub idwt_undoes_dwt : (k d h w : ℕ) (f : Plane) → Padded k d h w → Agree h w (idwt i j (dwt exact i j k d h w f) k d) f
  unfolding idwt dwt
  idwt_undoes_dwt k zero h w f s = idwt_h_undoes_dwt_h k h w f s
  idwt_undoes_dwt k (suc d) h w f s = record {
    same = λ y x hy hx.
        let g = vh_pass exact i j h w f in
        let p = padded-both k d h w s in
        let bs = dwt exact i j k d (h / 2) (w / 2) (part 0 0 g) in
        let t0 : Band = record { high = h / 2; wide = w / 2; plane = part 0 1 g } in
        let t1 : Band = record { high = h / 2; wide = w / 2; plane = part 1 0 g } in
        let t2 : Band = record { high = h / 2; wide = w / 2; plane = part 1 1 g } in
        let ts = t0 ∷ t1 ∷ t2 ∷ [] in
        let l = length-dwt exact i j k d (h / 2) (w / 2) (part 0 0 g) in
        let e : idwt i j (bs ++ ts) k (suc d) ≡ vh_synthesis i j (idwt i j bs k d) t0 t1 t2 =
        rw (idwt-left bs ts k d (omega arith), band-right bs ts 0 (1 + k + 3 * d) (omega arith), band-right bs ts 1 (1 + (1 + k + 3 * d)) (omega arith), band-right bs ts 2 (2 + (1 + k + 3 * d)) (omega arith)) in
        ap (λ (q : Plane). q y x) e ∙ (vh_back h w f (idwt i j bs k d) p.0 p.1.0 (idwt_undoes_dwt k d (h / 2) (w / 2) (part 0 0 g) p.1.1)).same y x hy hx;
  }

-- ---- planes that agree have the same coefficients
pub coefficients-append : (bs cs : List Band) → coefficients (bs ++ cs) ≡ coefficients bs ++ coefficients cs
coefficients-append [] cs = refl
coefficients-append (b ∷ bs) cs =
    ap (λ (r : List ℤ). as_list b.high b.wide b.plane ++ r) (coefficients-append bs cs) ∙ sym (append_assoc (as_list b.high b.wide b.plane) (coefficients bs) (coefficients cs))

module _ (wr : ℤ → ℤ) (i : ℕ) where
  pub h_cong : (h w : ℕ) (f g : Plane) → Agree h w f g → h_pass wr i h w f ≡ h_pass wr i h w g
  h_cong h w f g e =
      rows_cong (analysis_by wr i) h w (λ y x. raise wr (filter_of i).bits (f y x)) (λ y x. raise wr (filter_of i).bits (g y x))
      (record { same = λ y x hy hx. ap (raise wr (filter_of i).bits) (e.same y x hy hx) })

  pub dwt_h_cong : (k h w : ℕ) (f g : Plane) → Agree h w f g → coefficients (dwt_h wr i k h w f) ≡ coefficients (dwt_h wr i k h w g)
  unfolding dwt_h
  dwt_h_cong zero h w f g e = ap (λ (l : List ℤ). l ++ []) (as_list_cong h w f g e)
  dwt_h_cong (suc k) h w f g e =
      ap (λ (p : Plane). coefficients (dwt_h wr i k h (w / 2) (part_h 0 p) ++ (record { high = h; wide = w / 2; plane = part_h 1 p } ∷ []))) (h_cong h w f g e)

module _ (wr : ℤ → ℤ) (i j : ℕ) where
  pub dwt_cong : (k d h w : ℕ) (f g : Plane) → Agree h w f g → coefficients (dwt wr i j k d h w f) ≡ coefficients (dwt wr i j k d h w g)
  unfolding dwt
  dwt_cong k zero h w f g e = dwt_h_cong wr i k h w f g e
  dwt_cong k (suc d) h w f g e =
      ap (λ (q : Plane). let p = columns_by (analysis_by wr j) h w q in coefficients (dwt wr i j k d (h / 2) (w / 2) (part 0 0 p)
      ++ (record { high = h / 2; wide = w / 2; plane = part 0 1 p }
      ∷ record { high = h / 2; wide = w / 2; plane = part 1 0 p }
      ∷ record { high = h / 2; wide = w / 2; plane = part 1 1 p } ∷ []))) (h_cong wr i h w f g e)

-- ---- there are as many coefficients as the plane has numbers
pub quarters_size : (h w : ℕ) → h % 2 ≡ 0 → w % 2 ≡ 0 → h / 2 * (w / 2) + (h / 2 * (w / 2) + (h / 2 * (w / 2) + h / 2 * (w / 2))) ≡ h * w
quarters_size h w eh ew = by (h / 2) (w / 2) (omega arith) (omega arith)
  where
    by : (a b : ℕ) → h ≡ 2 * a → w ≡ 2 * b → a * b + (a * b + (a * b + a * b)) ≡ h * w
    by a b eh ew = omega (arith, ap₂ ◌*◌ eh ew, mul_assoc 2 a (2 * b), mul_comm a (2 * b), mul_assoc 2 b a, mul_comm b a)

pub halves_size : (h w : ℕ) → w % 2 ≡ 0 → h * (w / 2) + h * (w / 2) ≡ h * w
halves_size h w ew = by (w / 2) (omega arith)
  where
    by : (b : ℕ) → w ≡ 2 * b → h * b + h * b ≡ h * w
    by b e = omega (arith, ap (λ (z : ℕ). h * z) e, mul_comm h (2 * b), mul_assoc 2 b h, mul_comm b h)

length-dwt_h_list : (wr : ℤ → ℤ) (i k h w : ℕ) (f : Plane) → Padded k 0 h w → length (coefficients (dwt_h wr i k h w f)) ≡ h * w
unfolding dwt_h
length-dwt_h_list wr i zero h w f p = simp (length-append, length-as_list) (omega arith)
length-dwt_h_list wr i (suc k) h w f p =
    let s = padded-across k h w p in
    let g = h_pass wr i h w f in
    ap length (coefficients-append (dwt_h wr i k h (w / 2) (part_h 0 g)) _)
    ∙ simp (length-append, length-dwt_h_list wr i k h (w / 2) (part_h 0 g) s.1, length-as_list) (omega (arith, halves_size h w s.0))

pub length-coefficients : (wr : ℤ → ℤ) (i j k d h w : ℕ) (f : Plane) → Padded k d h w → length (coefficients (dwt wr i j k d h w f)) ≡ h * w
unfolding dwt
length-coefficients wr i j k zero h w f p = length-dwt_h_list wr i k h w f p
length-coefficients wr i j k (suc d) h w f p =
    let s = padded-both k d h w p in
    let g = vh_pass wr i j h w f in
    ap length (coefficients-append (dwt wr i j k d (h / 2) (w / 2) (part 0 0 g)) _)
    ∙ simp (length-append, length-coefficients wr i j k d (h / 2) (w / 2) (part 0 0 g) s.1.1, length-as_list) (omega (arith, quarters_size h w s.0 s.1.0))
