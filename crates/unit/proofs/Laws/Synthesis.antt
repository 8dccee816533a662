-- Bands that equal those of a plane's analysis give the plane back by the standard's synthesis.
use Rattle.std.specs.Prelude.{◌≡◌, length}
use Rattle.std.proofs.Math.Path.{refl, ap₂}
use Rattle.std.proofs.Common.{sym, ap, ◌∙◌, arith}
use mathlib.Core.List.{List, [], ◌∷◌, ◌++◌}
use Prim.Native.Nat.{ℕ, zero, suc, ◌+◌, ◌*◌, ◌/◌, ◌≤◌, ◌<◌}
use Rattle.laws.specs.Plane.{Plane}
use Rattle.laws.specs.Laws.Plane.{Agree}
use Rattle.wavelet.specs.Lifting.{exact}
use Rattle.wavelet.specs.Filters.{filter_of, synthesis_by}
use Rattle.wavelet.specs.Planes.{Band, rows_by, columns_by, lower, part_h, part, h_pass, vh_pass, dwt_h, dwt, by_parity, interleave_h, interleave, h_synthesis, vh_synthesis, idwt_h, idwt, Padded}
use Rattle.wavelet.specs.Laws.Plane.{rows_cong, columns_cong, band-right, idwt_h-left, idwt-left, length-dwt_h, length-dwt}
use Rattle.wavelet.specs.Laws.Theorems.{idwt_undoes_dwt}
use Rattle.unit.proofs.Laws.Near.{EqualBand, EqualBands}

-- ---- a list of bands taken apart as its pattern is
record Split (bs ts rs : List Band) : Type 0 where
  left : List Band
  right : List Band
  is : rs ≡ left ++ right
  equal_left : EqualBands bs left
  equal_right : EqualBands ts right

split : (bs ts rs : List Band) → EqualBands (bs ++ ts) rs → Split bs ts rs
split [] ts rs e = record { left = []; right = rs; is = refl; equal_left = tt; equal_right = e }
split (b ∷ bs) ts [] e = absurd e
split (b ∷ bs) ts (r ∷ rs) e =
    let s = split bs ts rs e.1 in
    record { left = r ∷ s.left; right = s.right; is = ap (λ (l : List Band). r ∷ l) s.is; equal_left = (e.0, s.equal_left); equal_right = s.equal_right }

equal_length : (bs rs : List Band) → EqualBands bs rs → length bs ≡ length rs
equal_length [] [] e = refl
equal_length [] (r ∷ rs) e = absurd e
equal_length (b ∷ bs) [] e = absurd e
equal_length (b ∷ bs) (r ∷ rs) e = ap suc (equal_length bs rs e.1)

flip : {h w : ℕ} {f g : Plane} → Agree h w f g → Agree h w g f
flip a = record { same = λ y x hy hx. sym (a.same y x hy hx) }

-- ---- interleaving
half_lt : (n x : ℕ) → x < 2 * n → x / 2 < n
half_lt n x l = omega arith

across-same : (h w : ℕ) (l m u v : Plane) → Agree h w l m → Agree h w u v → Agree h (2 * w) (interleave_h l u) (interleave_h m v)
across-same h w l m u v a b = record {
  same = λ y x hy hx. ap₂ (by_parity x) (a.same y (x / 2) hy (half_lt w x hx)) (b.same y (x / 2) hy (half_lt w x hx));
}

both-same : (h w : ℕ) (a b c d e f g k : Plane) → Agree h w a e → Agree h w b f → Agree h w c g → Agree h w d k
    → Agree (2 * h) (2 * w) (interleave a b c d) (interleave e f g k)
both-same h w a b c d e f g k p q r s = record {
  same = λ y x hy hx.
      ap₂ (by_parity y) ((across-same h w a e b f p q).same (y / 2) x (half_lt h y hy) hx) ((across-same h w c g d k r s).same (y / 2) x (half_lt h y hy) hx);
}

-- ---- one level
abbrev of : ℕ → ℕ → Plane → Band
of h w f = record { high = h; wide = w; plane = f }

abbrev lowered : ℕ → Plane → Plane
lowered b g y x = lower b (g y x)

module _ (i j : ℕ) where
  h_same : (l m : Plane) (t r : Band) → EqualBand t r → Agree t.high t.wide l m → h_synthesis i l t ≡ h_synthesis i m r
  h_same l m t r e a =
      ap (lowered (filter_of i).bits)
      (rows_cong (synthesis_by exact i) t.high (2 * t.wide) (interleave_h l t.plane) (interleave_h m r.plane)
      (across-same t.high t.wide l m t.plane r.plane a e.plane)
      ∙ ap₂ (λ (h w : ℕ). rows_by (synthesis_by exact i) h (2 * w) (interleave_h m r.plane)) e.high e.wide)

  vh_same : (h w : ℕ) (l m p q u : Plane) (a b c : Band)
      → EqualBand (of h w p) a → EqualBand (of h w q) b → EqualBand (of h w u) c
      → Agree h w l m
      → vh_synthesis i j l (of h w p) (of h w q) (of h w u) ≡ vh_synthesis i j m a b c
  vh_same h w l m p q u a b c ea eb ec g =
      let S = synthesis_by exact i in
      let T = synthesis_by exact j in
      let f = interleave l p q u in
      let k = interleave m a.plane b.plane c.plane in
      let same = both-same h w l p q u m a.plane b.plane c.plane g ea.plane eb.plane ec.plane in
      ap (lowered (filter_of i).bits)
      (ap (λ (z : Plane). rows_by S (2 * h) (2 * w) z) (columns_cong T (2 * h) (2 * w) f k same)
      ∙ ap₂ (λ (h w : ℕ). rows_by S (2 * h) (2 * w) (columns_by T (2 * h) (2 * w) k)) ea.high ea.wide)

-- ---- all levels
module _ (i j : ℕ) (hi : i ≤ 6) (hj : j ≤ 6) where
  top-across : (bs : List Band) (t : Band) (k : ℕ) → length bs ≡ 1 + k → idwt_h i (bs ++ (t ∷ [])) (suc k) ≡ h_synthesis i (idwt_h i bs k) t
  unfolding idwt_h
  top-across bs t k n = ap₂ (h_synthesis i) (idwt_h-left i j hi hj bs (t ∷ []) k (omega arith)) (band-right bs (t ∷ []) 0 (1 + k) (omega arith))

  top-both : (bs : List Band) (a b c : Band) (k d : ℕ) → length bs ≡ 1 + k + 3 * d
      → idwt i j (bs ++ (a ∷ b ∷ c ∷ [])) k (suc d) ≡ vh_synthesis i j (idwt i j bs k d) a b c
  unfolding idwt
  top-both bs a b c k d n =
      let ts = a ∷ b ∷ c ∷ [] in
      rw (idwt-left i j hi hj bs ts k d (omega arith), band-right bs ts 0 (1 + k + 3 * d) (omega arith), band-right bs ts 1 (1 + (1 + k + 3 * d)) (omega arith), band-right bs ts 2 (2 + (1 + k + 3 * d)) (omega arith))

  -- the top level of bands that equal those of an analysis
  across-top : (bs : List Band) (t : Band) (k h w : ℕ) (rs : List Band) → t.high ≡ h → t.wide ≡ w / 2 → length bs ≡ 1 + k → (s : Split bs (t ∷ []) rs)
      → Agree h (w / 2) (idwt_h i s.left k) (idwt_h i bs k) → Agree h w (idwt_h i rs (suc k)) (idwt_h i (bs ++ (t ∷ [])) (suc k))
  across-top bs t k h w rs eh ew n s a = by s.left s.right s.is s.equal_left s.equal_right a
    where
      by : (left right : List Band) → rs ≡ left ++ right → EqualBands bs left → EqualBands (t ∷ []) right → Agree h (w / 2) (idwt_h i left k) (idwt_h i bs k)
          → Agree h w (idwt_h i rs (suc k)) (idwt_h i (bs ++ (t ∷ [])) (suc k))
      by left [] q c b a = absurd b
      by left (r ∷ x ∷ xs) q c b a = absurd b.1
      by left (r ∷ []) q c b a =
          let m : length left ≡ 1 + k = sym (equal_length bs left c) ∙ n in
          let e = h_same i j (idwt_h i bs k) (idwt_h i left k) t r b.0 (rw (eh, ew) (flip a)) in
          record { same = λ y x hy hx. ap (λ (p : Plane). p y x) (ap (λ (l : List Band). idwt_h i l (suc k)) q ∙ top-across left r k m ∙ sym e ∙ sym (top-across bs t k n)) }

  both-top : (bs : List Band) (p q u : Plane) (k d h w : ℕ) (rs : List Band) → length bs ≡ 1 + k + 3 * d
      → (s : Split bs (of (h / 2) (w / 2) p ∷ of (h / 2) (w / 2) q ∷ of (h / 2) (w / 2) u ∷ []) rs)
      → Agree (h / 2) (w / 2) (idwt i j s.left k d) (idwt i j bs k d)
      → Agree h w (idwt i j rs k (suc d))
      (idwt i j (bs ++ (of (h / 2) (w / 2) p ∷ of (h / 2) (w / 2) q ∷ of (h / 2) (w / 2) u ∷ [])) k (suc d))
  both-top bs p q u k d h w rs n s a = by s.left s.right s.is s.equal_left s.equal_right a
    where
      by : (left right : List Band) → rs ≡ left ++ right → EqualBands bs left → EqualBands (of (h / 2) (w / 2) p ∷ of (h / 2) (w / 2) q ∷ of (h / 2) (w / 2) u ∷ []) right
          → Agree (h / 2) (w / 2) (idwt i j left k d) (idwt i j bs k d) → Agree h w (idwt i j rs k (suc d)) (idwt i j (bs ++ (of (h / 2) (w / 2) p ∷ of (h / 2) (w / 2) q ∷ of (h / 2) (w / 2) u ∷ [])) k (suc d))
      by left [] z c b a = absurd b
      by left (r ∷ []) z c b a = absurd b.1
      by left (r ∷ t ∷ []) z c b a = absurd b.1.1
      by left (r ∷ t ∷ v ∷ x ∷ xs) z c b a = absurd b.1.1.1
      by left (r ∷ t ∷ v ∷ []) z c b a =
          let m : length left ≡ 1 + k + 3 * d = sym (equal_length bs left c) ∙ n in
          let e = vh_same i j (h / 2) (w / 2) (idwt i j bs k d) (idwt i j left k d) p q u r t v b.0 b.1.0 b.1.1.0 (flip a) in
          record {
            same = λ y x hy hx.
                ap (λ (f : Plane). f y x)
                (ap (λ (l : List Band). idwt i j l k (suc d)) z ∙ top-both left r t v k d m ∙ sym e ∙ sym (top-both bs (of (h / 2) (w / 2) p) (of (h / 2) (w / 2) q) (of (h / 2) (w / 2) u) k d n));
          }

  first-same : (h w : ℕ) (f : Plane) (r : Band) (rs : List Band) → EqualBand (of h w f) r → Agree h w (idwt_h i (r ∷ rs) 0) (idwt_h i (of h w f ∷ []) 0)
  unfolding idwt_h
  first-same h w f r rs e = flip e.plane

  idwt_h-same : (k h w : ℕ) (f : Plane) (rs : List Band) → EqualBands (dwt_h exact i k h w f) rs → Agree h w (idwt_h i rs k) (idwt_h i (dwt_h exact i k h w f) k)
  unfolding dwt_h
  idwt_h-same zero h w f [] e = absurd e
  idwt_h-same zero h w f (r ∷ rs) e = first-same h w f r rs e.0
  idwt_h-same (suc k) h w f rs e =
      let g = h_pass exact i h w f in
      let t : Band = record { high = h; wide = w / 2; plane = part_h 1 g } in
      let bs = dwt_h exact i k h (w / 2) (part_h 0 g) in
      let s = split bs (t ∷ []) rs e in
      across-top bs t k h w rs refl refl (length-dwt_h exact i k h (w / 2) (part_h 0 g)) s (idwt_h-same k h (w / 2) (part_h 0 g) s.left s.equal_left)

  idwt-same : (k d h w : ℕ) (f : Plane) (rs : List Band) → EqualBands (dwt exact i j k d h w f) rs → Agree h w (idwt i j rs k d) (idwt i j (dwt exact i j k d h w f) k d)
  unfolding dwt
  idwt-same k zero h w f rs e = unfold idwt in idwt_h-same k h w f rs e
  idwt-same k (suc d) h w f rs e =
      let g = vh_pass exact i j h w f in
      let bs = dwt exact i j k d (h / 2) (w / 2) (part 0 0 g) in
      let s = split bs _ rs e in
      both-top bs (part 0 1 g) (part 1 0 g) (part 1 1 g) k d h w rs (length-dwt exact i j k d (h / 2) (w / 2) (part 0 0 g)) s
      (idwt-same k d (h / 2) (w / 2) (part 0 0 g) s.left s.equal_left)

  -- the synthesis of bands that equal those of a plane's analysis is the plane
  pub idwt_back : (k d h w : ℕ) (f : Plane) (rs : List Band) → Padded k d h w → EqualBands (dwt exact i j k d h w f) rs → Agree h w (idwt i j rs k d) f
  idwt_back k d h w f rs p e = record {
    same = λ y x hy hx. (idwt-same k d h w f rs e).same y x hy hx ∙ (idwt_undoes_dwt i j k d h w f hi hj p).same y x hy hx;
  }
