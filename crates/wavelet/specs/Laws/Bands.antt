-- The bands of a plane by level and orientation: their place in the stream's order and their sides, ST 2042-1, 13.2.1
-- and 13.2.3; and where the numbers of a band stand among the coefficients.
use Rattle.std.specs.Prelude.{◌≡◌, ℕ, zero, suc, ◌+◌, ◌-◌, ◌*◌, ◌/◌, ◌^◌, ◌<◌, ◌≤◌, List, [], ◌∷◌, ◌++◌, length, ℤ, pos, refl}
use Rattle.std.proofs.Common.{sym, ap, ◌∙◌, arith, zero-add, add_assoc, get_or-append-add, shr-shr}
use Rattle.std.proofs.Math.Decide.{dec_lt, dec_le}
use Rattle.std.proofs.Math.ListN.{get_or-append}
use Rattle.std.proofs.Math.Arith.{digits_lt}
use Rattle.laws.specs.Rows.{at}
use Rattle.laws.specs.Plane.{Plane, as_list}
use Rattle.laws.specs.Laws.Plane.{length-as_list, at-as_list}
use Rattle.wavelet.specs.Planes.{Band, coefficients, part, part_h, h_pass, vh_pass, dwt_h, dwt, band_at}
use Rattle.wavelet.specs.Laws.Plane.{band-left, band-right, length-dwt_h, length-dwt}

-- how often the width is halved for level n, up to the horizontal-only depth k
unfoldable pub halvings : ℕ → ℕ → ℕ → ℕ
halvings k d zero = k + d
halvings k d (suc n) = k + d - n

-- a band of h rows of w, halved p times and q times
pub record Sides (b : Band) (h w p q : ℕ) : Type 0 where
  pub high : b.high ≡ h / 2 ^ p
  pub wide : b.wide ≡ w / 2 ^ q

-- where band n begins among the coefficients
unfoldable pub offset_of : List Band → ℕ → ℕ
offset_of bs zero = 0
offset_of [] (suc n) = 0
offset_of (b ∷ bs) (suc n) = b.high * b.wide + offset_of bs n

-- ---- sides
halved : (w e f : ℕ) → f ≡ 1 + e → w / 2 / 2 ^ e ≡ w / 2 ^ f
halved w e f g = shr-shr w 1 e ∙ ap (λ (z : ℕ). w / 2 ^ z) (sym g)

not_halved : (w f : ℕ) → f ≡ 0 → w ≡ w / 2 ^ f
not_halved w f e = rw e (omega arith)

once : (w f : ℕ) → f ≡ 1 → w / 2 ≡ w / 2 ^ f
once w f e = rw e

deeper : (k d n : ℕ) → n ≤ k + d → halvings k (suc d) n ≡ 1 + halvings k d n
unfolding halvings
deeper k d zero l = omega arith
deeper k d (suc n) l = omega arith

wider : (k n : ℕ) → n ≤ k → halvings (suc k) 0 n ≡ 1 + halvings k 0 n
unfolding halvings
wider k zero l = omega arith
wider k (suc n) l = omega arith

last : (k : ℕ) → halvings (suc k) 0 (suc k) ≡ 1
unfolding halvings
last k = omega arith

module _ (wr : ℤ → ℤ) (i j : ℕ) where
  dwt_h_sides : (k h w : ℕ) (f : Plane) (n : ℕ) → n ≤ k → Sides (band_at (dwt_h wr i k h w f) n) h w 0 (halvings k 0 n)
  unfolding dwt_h halvings
  dwt_h_sides zero h w f zero l = record { high = not_halved h 0 refl; wide = not_halved w (0 + 0) (omega arith) }
  dwt_h_sides zero h w f (suc n) l = absurd (omega arith)
  dwt_h_sides (suc k) h w f n l = by (dec_le n k) (dwt_h_sides k h (w / 2) (part_h 0 (h_pass wr i h w f)) n)
    where
      g : Plane
      g = h_pass wr i h w f

      bs : List Band
      bs = dwt_h wr i k h (w / 2) (part_h 0 g)

      t : Band
      t = record { high = h; wide = w / 2; plane = part_h 1 g }

      long : length bs ≡ 1 + k
      long = length-dwt_h wr i k h (w / 2) (part_h 0 g)

      by : Dec (n ≤ k) → (n ≤ k → Sides (band_at bs n) h (w / 2) 0 (halvings k 0 n)) → Sides (band_at (bs ++ (t ∷ [])) n) h w 0 (halvings (suc k) 0 n)
      by (yes m) ih =
          let s = ih m in
          rw (band-left bs (t ∷ []) n (omega (arith, long))) (record { high = s.high; wide = s.wide ∙ halved w (halvings k 0 n) (halvings (suc k) 0 n) (wider k n m) })
      by (no m) ih =
          let e : n ≡ suc k = omega arith in
          rw (band-right bs (t ∷ []) 0 n (omega (arith, long))) (record { high = not_halved h 0 refl; wide = once w (halvings (suc k) 0 n) (ap (halvings (suc k) 0) e ∙ last k) })

  -- level 0, and H of the levels up to k: band n is that of level n
  pub low_sides : (k d h w : ℕ) (f : Plane) (n : ℕ) → n ≤ k → Sides (band_at (dwt wr i j k d h w f) n) h w d (halvings k d n)
  unfolding dwt
  low_sides k zero h w f n l = dwt_h_sides k h w f n l
  low_sides k (suc d) h w f n l =
      let g = vh_pass wr i j h w f in
      let bs = dwt wr i j k d (h / 2) (w / 2) (part 0 0 g) in
      let s = low_sides k d (h / 2) (w / 2) (part 0 0 g) n l in
      rw (band-left bs _ n (omega (arith, length-dwt wr i j k d (h / 2) (w / 2) (part 0 0 g))))
      (record { high = s.high ∙ halved h d (suc d) (omega arith); wide = s.wide ∙ halved w (halvings k d n) (halvings k (suc d) n) (deeper k d n (omega arith)) })

  -- HL, LH and HH (r is 0, 1, 2) of level k + 1 + m
  pub high_sides : (k d h w : ℕ) (f : Plane) (m r : ℕ) → m < d → r < 3 → Sides (band_at (dwt wr i j k d h w f) (1 + k + 3 * m + r)) h w (d - m) (d - m)
  unfolding dwt
  high_sides k zero h w f m r l q = absurd (omega arith)
  high_sides k (suc d) h w f m r l q = by (dec_lt m d) (λ a. high_sides k d (h / 2) (w / 2) (part 0 0 (vh_pass wr i j h w f)) m r a q)
    where
      g : Plane
      g = vh_pass wr i j h w f

      bs : List Band
      bs = dwt wr i j k d (h / 2) (w / 2) (part 0 0 g)

      three : Plane → Plane → Plane → List Band
      three p q r = record { high = h / 2; wide = w / 2; plane = p } ∷ record { high = h / 2; wide = w / 2; plane = q } ∷ record { high = h / 2; wide = w / 2; plane = r } ∷ []

      ts : List Band
      ts = three (part 0 1 g) (part 1 0 g) (part 1 1 g)

      long : length bs ≡ 1 + k + 3 * d
      long = length-dwt wr i j k d (h / 2) (w / 2) (part 0 0 g)

      one : (r : ℕ) → r < 3 → (p : ℕ) → p ≡ 1 → Sides (band_at ts r) h w p p
      one zero l p e = record { high = once h p e; wide = once w p e }
      one (suc zero) l p e = record { high = once h p e; wide = once w p e }
      one (suc (suc zero)) l p e = record { high = once h p e; wide = once w p e }
      one (suc (suc (suc r))) l p e = absurd (omega arith)

      by : Dec (m < d) → (m < d → Sides (band_at bs (1 + k + 3 * m + r)) (h / 2) (w / 2) (d - m) (d - m)) → Sides (band_at (bs ++ ts) (1 + k + 3 * m + r)) h w (suc d - m) (suc d - m)
      by (yes a) ih =
          let s = ih a in
          let e : suc d - m ≡ 1 + (d - m) = omega arith in
          rw (band-left bs ts (1 + k + 3 * m + r) (omega (arith, long))) (record { high = s.high ∙ halved h (d - m) (suc d - m) e; wide = s.wide ∙ halved w (d - m) (suc d - m) e })
      by (no a) ih =
          rw (band-right bs ts r (1 + k + 3 * m + r) (omega (arith, long))) (one r q (suc d - m) (omega arith))

-- ---- the numbers of band n
pub coefficient-at : (bs : List Band) (n y x : ℕ) → n < length bs → y < (band_at bs n).high → x < (band_at bs n).wide
    → at (coefficients bs) (offset_of bs n + (y * (band_at bs n).wide + x)) ≡ (band_at bs n).plane y x
unfolding offset_of
coefficient-at [] n y x l hy hx = absurd (omega arith)
coefficient-at (b ∷ bs) zero y x l hy hx =
    let k : ℕ = y * b.wide + x in
    let long = length-as_list b.high b.wide b.plane in
    ap (at (coefficients (b ∷ bs))) (zero-add k)
    ∙ get_or-append (as_list b.high b.wide b.plane) (coefficients bs) (pos 0) k (rw long (digits_lt hy hx)) ∙ at-as_list b.high b.wide b.plane y x hy hx
coefficient-at (b ∷ bs) (suc n) y x l hy hx =
    let k : ℕ = offset_of bs n + (y * (band_at bs n).wide + x) in
    let xs = as_list b.high b.wide b.plane in
    let e : b.high * b.wide + offset_of bs n + (y * (band_at bs n).wide + x) ≡ length xs + k = add_assoc (b.high * b.wide) (offset_of bs n) (y * (band_at bs n).wide + x) ∙ ap (λ (z : ℕ). z + k) (sym (length-as_list b.high b.wide b.plane)) in
    ap (at (xs ++ coefficients bs)) e ∙ get_or-append-add xs (coefficients bs) k (pos 0) ∙ coefficient-at bs n y x (omega arith) hy hx
