-- What analysis needs and leaves: zeros, sample offsets, the code's sides as the definitions have them, and the work
-- slice with its front of zeros and the three components behind it.
use Rattle.std.specs.Prelude.{◌≡◌, refl, Bool, List, ◌∷◌, ◌++◌, ℕ, zero, suc, ◌+◌, ◌-◌, ◌*◌, ◌%◌, ◌^◌, ◌≤◌, ◌<◌, ℤ, pos, nat_abs, length, get_or, take, drop, replicate}
use Rattle.std.proofs.Common.{sym, ap, ap₂, ◌∙◌, mul_comm, add_assoc, arith, length-append, get_or-append-add, length-take-le, pow_mono}
use Rattle.std.proofs.Math.Decide.{dec_lt}
use Rattle.std.proofs.lemmas.List.{length-replicate, get_or-replicate}
use Rattle.std.proofs.Math.ListN.{get_or-append}
use Rattle.laws.specs.Rows.{at, span, row}
use Rattle.laws.specs.Wrap.{wrap}
use Rattle.quantiser.specs.Code.Default.{places}
use Rattle.wavelet.specs.Planes.{Band, coefficients}
use Rattle.wavelet.specs.Laws.Plane.{length-coefficients}
use Rattle.wavelet.specs.Pad.{padded}
use Rattle.wavelet.specs.Depth.{deepest}
use Rattle.wavelet.specs.Laws.Theorems.{component_exact}
use Rattle.wavelet.specs.Code.Walk.{Deep}
use Rattle.wavelet.specs.Code.Component.{component_of, ComponentsIn}
use Rattle.wavelet.specs.declared.shape.Component as below
use Rattle.wavelet.specs.declared.shape.Transform.{Transform}
use Rattle.unit.specs.declared.Settings.{Settings}
use Rattle.unit.specs.Limits.{area_limit, side_limit}
use Rattle.unit.specs.Three.{Three}
use Rattle.unit.specs.Sizes.{Size, area, luma_size, colour_size, intlog2, depths_of, offset_of}
use Rattle.unit.specs.Subbands.{padded_size, padded_area, work_needed}
use Rattle.unit.specs.Matrix.{matrix_values}
use Rattle.unit.specs.Coefficients.{bands_of, coefficients_of}
use Rattle.unit.specs.Code.Valid.{Between}
use Rattle.unit.specs.Code.Valid as valid
use Rattle.unit.proofs.Laws.Intlog2.{depth_range, offset_is, offset_range}
use Rattle.unit.proofs.Laws.Padded.{padded_is}
use Rattle.picture.specs.declared.slices.layout.Component.{Component}
use Rattle.picture.specs.declared.slices.layout.Layout.{Layout}
use Rattle.picture.specs.declared.slices.layout.Picture.{Picture}
use Rattle.picture.specs.declared.front.sizes.Sides as code
use Rattle.picture.specs.Code.Sides.{size_in}
use Rattle.picture.specs.Code.Strip.{most, reach, Small}
use Rattle.picture.specs.Code.Analysed.{Holds, is_low, luma_area, colour_area, front_of, component_at, layout_of, picture_of, Called, Ready, Analysed}

-- ---- zeros
zeros-span : (i n : ℕ) → span (λ k. pos 0) i n ≡ replicate n (pos 0)
zeros-span i zero = refl
zeros-span i (suc n) = ap (λ (r : List ℤ). pos 0 ∷ r) (zeros-span (suc i) n)

-- n places of 0
pub zeros-row : (n : ℕ) → row n (λ k. pos 0) ≡ replicate n (pos 0)
zeros-row n = zeros-span 0 n

-- ---- sample offsets
-- r is the depth of an excursion e
pub depth-of : (e r : ℕ) → (1 ≤ e) × (e ≤ side_limit) → r ≡ intlog2 (e + 1) → Between 16 r
depth-of e r h q = rw q (depth_range e (record { some = h.0; few = h.1 }))

-- 1 shifted up by one place less than the depth
pub offset-of : (e r : ℕ) → (1 ≤ e) × (e ≤ side_limit) → r ≡ intlog2 (e + 1)
    → (1 * 2 ^ (r - 1) % 65536 ≡ offset_of (intlog2 (e + 1))) × (1 * 2 ^ (r - 1) % 65536 ≤ 2 ^ 15)
offset-of e r h q = let p = by r (depth-of e r h q) in (p.0 ∙ ap offset_of q, p.1)
  where
    by : (r : ℕ) → Between 16 r → (1 * 2 ^ (r - 1) % 65536 ≡ offset_of r) × (1 * 2 ^ (r - 1) % 65536 ≤ 2 ^ 15)
    by zero b = absurd (omega (arith, b.some))
    by (suc d) b =
        let g : suc d - 1 ≡ d = omega arith in
        let o = offset_is d in
        let m = pow_mono {i = d} {j = 15} (omega (arith, b.few)) in
        rw g (omega (arith, o, m), omega (arith, m))

-- ---- sides
module _ (s : Settings) where
  abbrev padded_in : Size → Size
  padded_in = padded_size s.dwt_depth_ho s.dwt_depth

  -- what padding asks of sides r, which are z
  pub padded_asks : (r : code.Sides) (z : Size) → s.dwt_depth + s.dwt_depth_ho ≤ deepest → valid.Sized s z → size_in r ≡ z
      → (s.dwt_depth + s.dwt_depth_ho ≤ deepest) × ((r.width ≤ side_limit) × (r.height ≤ side_limit))
  padded_asks r z d h e =
      let w : r.width ≡ z.width = ap (λ (z : Size). z.width) e in
      let v : r.height ≡ z.height = ap (λ (z : Size). z.height) e in
      (d, (omega (arith, w, h.width), omega (arith, v, h.height)))

  -- padded sides q of sides r, which are z
  padded_sides : (r q : code.Sides) (z : Size) → size_in r ≡ z → size_in q ≡ padded_in (size_in r) → size_in q ≡ padded_in z
  padded_sides r q z e f = f ∙ ap padded_in e

-- ---- the picture
-- m and n are the padded areas of luma and colours, whose padded sides are z and c
pub record Measures (s : Settings) (z c : code.Sides) (m n : ℕ) : Type 0 where
  pub luma : size_in z ≡ padded_in s (luma_size s)
  pub colour : size_in c ≡ padded_in s (colour_size s)
  pub luma-area : m ≡ luma_area s
  pub colour-area : n ≡ colour_area s
  pub luma_few : m ≤ area_limit
  pub colour_few : n ≤ area_limit

pub measures_of : (s : Settings) (m : List ℕ) → Called s m → (l k z c : code.Sides) (a b : ℕ)
    → size_in l ≡ luma_size s → size_in z ≡ padded_in s (size_in l) → size_in k ≡ colour_size s → size_in c ≡ padded_in s (size_in k)
    → a ≡ area (size_in z) → b ≡ area (size_in c) → Measures s z c a b
measures_of s m call l k z c a b el ez ek ec ea eb =
    let p = padded_sides s l z (luma_size s) el ez in
    let q = padded_sides s k c (colour_size s) ek ec in
    let f : a ≡ luma_area s = ea ∙ ap area p in
    let g : b ≡ colour_area s = eb ∙ ap area q in
    record {
      luma = p;
      colour = q;
      luma-area = f;
      colour-area = g;
      luma_few = rw f call.luma.padded-area.few;
      colour_few = rw g call.colour.padded-area.few;
    }

abbrev component_by : ℕ → ℕ → ℕ → ℕ → Component
component_by a b w h = record { coefs = a; rebuilt = b; width = w; height = h }

-- a component from its parts
component_is : (s : Settings) (z : Size) (q : code.Sides) (a b a' b' : ℕ) (r : Component) → size_in q ≡ padded_in s z → a ≡ a' → b ≡ b'
    → (r.coefs ≡ a) × ((r.rebuilt ≡ b) × ((r.width ≡ q.width) × (r.height ≡ q.height))) → r ≡ component_at s z a' b'
component_is s z q a b a' b' r e ea eb h =
    let w : r.width ≡ (padded_in s z).width = h.1.1.0 ∙ ap (λ (z : Size). z.width) e in
    let v : r.height ≡ (padded_in s z).height = h.1.1.1 ∙ ap (λ (z : Size). z.height) e in
    ap₂ (λ (c u : ℕ). component_by c u r.width r.height) (h.0 ∙ ea) (h.1.0 ∙ eb) ∙ ap₂ (λ (c u : ℕ). component_by a' b' c u) w v

-- the components one behind the other
pub layout_is : (s : Settings) (m vs : List ℕ) (b : Bool) → vs ≡ places (matrix_values s m) → b ≡ is_low s.kind
    → ◌≡◌ {A = Layout} (record { depth_ho = s.dwt_depth_ho; depth = s.dwt_depth; across = s.slices_x; down = s.slices_y; values = vs; predicted = b }) (layout_of s m)
unfolding layout_of
layout_is s m vs b e f = rw (e, f) refl

pub picture_is : (s : Settings) (m : List ℕ) (z c : code.Sides) (a b : ℕ) → Measures s z c a b → (l : Layout) (y c1 c2 : Component) → l ≡ layout_of s m
    → (y.coefs ≡ a + b + b) × ((y.rebuilt ≡ 0) × ((y.width ≡ z.width) × (y.height ≡ z.height)))
    → (c1.coefs ≡ a + b + b + a) × ((c1.rebuilt ≡ a) × ((c1.width ≡ c.width) × (c1.height ≡ c.height)))
    → (c2.coefs ≡ a + b + b + (a + b)) × ((c2.rebuilt ≡ a + b) × ((c2.width ≡ c.width) × (c2.height ≡ c.height)))
    → ◌≡◌ {A = Picture} (record { layout = l; y = y; c1 = c1; c2 = c2; front = a + b + b; end = a + b + b + (a + b + b) }) (picture_of s m)
unfolding picture_of
picture_is s m z c a b k l y c1 c2 el ey e1 e2 =
    let ea = k.luma-area in
    let eb = k.colour-area in
    let f : a + b + b ≡ front_of s = ap₂ (λ (a b : ℕ). a + b + b) ea eb in
    let g : a + b ≡ luma_area s + colour_area s = ap₂ ◌+◌ ea eb in
    let py = component_is s (luma_size s) z (a + b + b) 0 (front_of s) 0 y k.luma f refl ey in
    let p1 = component_is s (colour_size s) c (a + b + b + a) a (front_of s + luma_area s) (luma_area s) c1 k.colour (ap₂ ◌+◌ f ea) ea e1 in
    let p2 = component_is s (colour_size s) c (a + b + b + (a + b)) (a + b) (front_of s + (luma_area s + colour_area s)) (luma_area s + colour_area s) c2 k.colour (ap₂ ◌+◌ f g) g e2 in
    rw (el, py, p1, p2, f) refl

-- ---- a component as the layer below takes it: size z, excursion e
abbrev taken_by : ℕ → ℕ → ℕ → ℕ → ℕ → below.Component
taken_by w h pw ph o = record { w = w; h = h; pw = pw; ph = ph; offset = o }

abbrev pub taken_of : Settings → Size → ℕ → below.Component
taken_of s z e = taken_by z.width z.height (padded_in s z).width (padded_in s z).height (offset_of (intlog2 (e + 1)))

abbrev pub transform_of : Settings → Transform
transform_of s = record { k = s.dwt_depth_ho; d = s.dwt_depth; ih = s.wavelet_index_ho; iv = s.wavelet_index }

pub taken_is : (s : Settings) (z : Size) (e : ℕ) (r q : code.Sides) (c : below.Component) → size_in r ≡ z → size_in q ≡ padded_in s (size_in r)
    → (c.w ≡ r.width) × ((c.h ≡ r.height) × ((c.pw ≡ q.width) × ((c.ph ≡ q.height) × ((c.offset ≡ offset_of (intlog2 (e + 1))) × (c.offset ≤ 2 ^ 15)))))
    → c ≡ taken_of s z e
taken_is s z e r q c er eq h =
    let f = padded_sides s r q z er eq in
    let w : c.w ≡ z.width = h.0 ∙ ap (λ (z : Size). z.width) er in
    let v : c.h ≡ z.height = h.1.0 ∙ ap (λ (z : Size). z.height) er in
    let pw : c.pw ≡ (padded_in s z).width = h.1.1.0 ∙ ap (λ (z : Size). z.width) f in
    let ph : c.ph ≡ (padded_in s z).height = h.1.1.1.0 ∙ ap (λ (z : Size). z.height) f in
    let o : c.offset ≡ offset_of (intlog2 (e + 1)) = h.1.1.1.1.0 in
    ap₂ (λ (a b : ℕ). taken_by a b c.pw c.ph c.offset) w v
    ∙ ap₂ (λ (a b : ℕ). taken_by z.width z.height a b c.offset) pw ph
    ∙ ap (taken_by z.width z.height (padded_in s z).width (padded_in s z).height) o

-- the components of settings s, and their padded areas
pub record Taken (s : Settings) (l c : below.Component) : Type 0 where
  pub luma : l ≡ taken_of s (luma_size s) s.luma_excursion
  pub colour : c ≡ taken_of s (colour_size s) s.color_diff_excursion
  pub luma-area : l.pw * l.ph ≡ luma_area s
  pub colour-area : c.pw * c.ph ≡ colour_area s
  pub luma_few : l.pw * l.ph ≤ area_limit
  pub colour_few : c.pw * c.ph ≤ area_limit

pub taken_of_lem : (s : Settings) (p : Three (List ℕ)) (w : List ℤ) → Ready s p w → (l c : below.Component)
    → l ≡ taken_of s (luma_size s) s.luma_excursion → c ≡ taken_of s (colour_size s) s.color_diff_excursion → Taken s l c
taken_of_lem s p w k l c el ec =
    let f : l.pw * l.ph ≡ luma_area s = ap (λ (c : below.Component). c.pw * c.ph) el in
    let g : c.pw * c.ph ≡ colour_area s = ap (λ (c : below.Component). c.pw * c.ph) ec in
    record {
      luma = el;
      colour = ec;
      luma-area = f;
      colour-area = g;
      luma_few = rw f k.luma.padded-area.few;
      colour_few = rw g k.colour.padded-area.few;
    }

pub front_is : (s : Settings) (l c : below.Component) → Taken s l c → l.pw * l.ph + c.pw * c.ph + c.pw * c.ph ≡ front_of s
front_is s l c t = ap₂ (λ (a b : ℕ). a + b + b) t.luma-area t.colour-area

deep_of : (s : Settings) (p : Three (List ℕ)) (w : List ℤ) → Ready s p w → (z : Size) → valid.Sized s z
    → Deep s.dwt_depth_ho s.dwt_depth (padded_in s z).height (padded_in s z).width s.wavelet_index_ho s.wavelet_index
unfolding padded_size
deep_of s p w k z h = record {
  sides = padded_is s.dwt_depth_ho s.dwt_depth z;
  h_le = h.padded_height.few;
  w_le = h.padded_width.few;
  ih_le = k.shape.wavelet-ho;
  iv_le = k.shape.wavelet;
}

-- what the layer below asks
pub components_in : (s : Settings) (p : Three (List ℕ)) (w : List ℤ) → Ready s p w → (l c : below.Component) → Taken s l c → (n : ℕ) → n ≡ front_of s
    → ComponentsIn l c (transform_of s) p.y p.c1 p.c2 n w
unfolding work_needed
components_in s p w k l c t n en =
    let z = luma_size s in
    let u = colour_size s in
    let y = padded_in s z in
    let v = padded_in s u in
    let a = mul_comm y.height y.width in
    let b = mul_comm v.height v.width in
    rw (t.luma, t.colour)
    (record {
      deep = deep_of s p w k z k.luma;
      colours = deep_of s p w k u k.colour;
      some = (k.luma.width.some, k.luma.height.some);
      some_colours = (k.colour.width.some, k.colour.height.some);
      whole_y = omega (arith, k.lent.long_y, mul_comm z.height z.width);
      whole_u = omega (arith, k.lent.long_c1, mul_comm u.height u.width);
      whole_v = omega (arith, k.lent.long_c2, mul_comm u.height u.width);
      room = (omega (arith, en, a), omega (arith, en, b));
      fits = omega (arith, en, a, b, k.lent.work_room);
    })

-- ---- one component's coefficients
-- the samples of 16 bits
pub record Sampled (p : Three (List ℕ)) : Type 0 where
  pub y : (n : ℕ) → get_or p.y n 0 < 2 ^ 16
  pub c1 : (n : ℕ) → get_or p.c1 n 0 < 2 ^ 16
  pub c2 : (n : ℕ) → get_or p.c2 n 0 < 2 ^ 16

-- the layer below's coefficients of a component c
abbrev pub list_of : Settings → List ℕ → below.Component → List ℤ
list_of s samples c = component_of s.wavelet_index_ho s.wavelet_index s.dwt_depth_ho s.dwt_depth samples c.offset c.w c.h c.pw c.ph

-- l is the coefficients of bs, which are n, and each is small
record Listed (bs : List Band) (n : ℕ) (l : List ℤ) : Type 0 where
  same : l ≡ coefficients bs
  long : length l ≡ n
  small : (k : ℕ) → nat_abs (at l k) ≤ most

listed : (s : Settings) (p : Three (List ℕ)) (w : List ℤ) → Ready s p w → (z : Size) (e : ℕ) → Between side_limit e → (samples : List ℕ) → ((n : ℕ) → get_or samples n 0 < 2 ^ 16)
    → Listed (bands_of s z (intlog2 (e + 1)) samples) (padded_area s z) (list_of s samples (taken_of s z e))
unfolding bands_of
listed s p w k z e he samples hs =
    let i = s.wavelet_index_ho in
    let j = s.wavelet_index in
    let ho = s.dwt_depth_ho in
    let d = s.dwt_depth in
    let o = offset_of (intlog2 (e + 1)) in
    let y = padded_in s z in
    let x = component_exact i j ho d samples o z.width z.height y.width y.height k.shape.wavelet-ho k.shape.wavelet (omega (arith, k.shape.depths)) (padded_is ho d z) hs
    (offset_range (intlog2 (e + 1)) (depth_range e he)).few in
    record {
      same = ap coefficients x.same;
      long = length-coefficients wrap i j ho d y.height y.width (padded samples o z.width z.height) (padded_is ho d z) ∙ mul_comm y.height y.width;
      small = λ n. omega (arith, x.list_below n);
    }

-- ---- the work slice: a front of n zeros, and three components behind it
module _ (n a b c : ℕ) (A B C R : List ℤ) (ea : length A ≡ a) (eb : length B ≡ b) (ec : length C ≡ c) where
  abbrev behind : List ℤ
  behind = A ++ B ++ C ++ R

  abbrev whole : List ℤ
  whole = replicate n (pos 0) ++ behind

  at_front : (k : ℕ) → k < n → at whole k ≡ pos 0
  at_front k h = get_or-append (replicate n (pos 0)) behind (pos 0) k (rw (length-replicate n (pos 0)) h) ∙ get_or-replicate n k (pos 0) (pos 0) h

  at-behind : (k : ℕ) → at whole (n + k) ≡ at behind k
  at-behind k = ap (λ (q : ℕ). at whole (q + k)) (sym (length-replicate n (pos 0))) ∙ get_or-append-add (replicate n (pos 0)) behind k (pos 0)

  two-long : length (A ++ B) ≡ a + b
  two-long = length-append A B ∙ ap₂ ◌+◌ ea eb

  three-long : length (A ++ B ++ C) ≡ a + b + c
  three-long = length-append (A ++ B) C ∙ ap₂ ◌+◌ two-long ec

  at_first : (k : ℕ) → k < a → at behind k ≡ at A k
  at_first k h =
      get_or-append (A ++ B ++ C) R (pos 0) k (omega (arith, three-long))
      ∙ get_or-append (A ++ B) C (pos 0) k (omega (arith, two-long))
      ∙ get_or-append A B (pos 0) k (omega (arith, ea))

  at_second : (k : ℕ) → k < b → at behind (a + k) ≡ at B k
  at_second k h =
      get_or-append (A ++ B ++ C) R (pos 0) (a + k) (omega (arith, three-long))
      ∙ get_or-append (A ++ B) C (pos 0) (a + k) (omega (arith, two-long))
      ∙ ap (λ (q : ℕ). at (A ++ B) (q + k)) (sym ea) ∙ get_or-append-add A B k (pos 0)

  at_third : (k : ℕ) → k < c → at behind (a + b + k) ≡ at C k
  at_third k h =
      get_or-append (A ++ B ++ C) R (pos 0) (a + b + k) (omega (arith, three-long))
      ∙ ap (λ (q : ℕ). at (A ++ B ++ C) (q + k)) (sym two-long) ∙ get_or-append-add (A ++ B) C k (pos 0)

  behind_small : ((k : ℕ) → nat_abs (at A k) ≤ most) → ((k : ℕ) → nat_abs (at B k) ≤ most) → ((k : ℕ) → nat_abs (at C k) ≤ most)
      → (k : ℕ) → k < a + b + c → nat_abs (at behind k) ≤ most
  behind_small sa sb sc k h = by (dec_lt k a) (dec_lt k (a + b))
    where
      by : Dec (k < a) → Dec (k < a + b) → nat_abs (at behind k) ≤ most
      by (yes p) q = rw (at_first k p) (sa k)
      by (no p) (yes q) =
          let e : k ≡ a + (k - a) = omega arith in
          let f : at behind k ≡ at B (k - a) = ap (at behind) e ∙ at_second (k - a) (omega arith) in
          rw f (sb (k - a))
      by (no p) (no q) =
          let e : k ≡ a + b + (k - (a + b)) = omega arith in
          let f : at behind k ≡ at C (k - (a + b)) = ap (at behind) e ∙ at_third (k - (a + b)) (omega arith) in
          rw f (sc (k - (a + b)))

  work_small : n ≡ a + b + c → n + n ≤ length whole → n + n < 2 ^ 30
      → ((k : ℕ) → nat_abs (at A k) ≤ most) → ((k : ℕ) → nat_abs (at B k) ≤ most) → ((k : ℕ) → nat_abs (at C k) ≤ most) → Small n (n + n) whole
  work_small e long few sa sb sc =
      record { bound = λ k h. by k h (dec_lt k n); coefficients = coefs; long = long; few = few; order = omega arith }
    where
      coefs : (k : ℕ) → n ≤ k → k < n + n → nat_abs (at whole k) ≤ most
      coefs k l h =
          let f : k ≡ n + (k - n) = omega arith in
          let g : at whole k ≡ at behind (k - n) = ap (at whole) f ∙ at-behind (k - n) in
          rw g (behind_small sa sb sc (k - n) (omega (arith, e)))

      by : (k : ℕ) → k < n + n → Dec (k < n) → nat_abs (at whole k) ≤ reach
      by k h (yes p) = rw (at_front k p) (omega arith)
      by k h (no p) = omega (arith, coefs k (omega arith) h)

holds_of : (w : List ℤ) (base m : ℕ) (bs : List Band) (l : List ℤ) → Listed bs m l → ((i : ℕ) → i < m → at w (base + i) ≡ at l i) → Holds w base bs
holds_of w base m bs l e f = record { holds = λ i h. f i (rw (← e.long, e.same) h) ∙ ap (λ (z : List ℤ). at z i) e.same }

analysed_is : (s : Settings) (p : Three (List ℕ)) (w v : List ℤ) → Ready s p w → Sampled p → (R : List ℤ)
    → v ≡ replicate (front_of s) (pos 0)
    ++ (list_of s p.y (taken_of s (luma_size s) s.luma_excursion) ++ list_of s p.c1 (taken_of s (colour_size s) s.color_diff_excursion)
    ++ list_of s p.c2 (taken_of s (colour_size s) s.color_diff_excursion) ++ R)
    → front_of s + front_of s ≤ length v → Analysed s p v
unfolding coefficients_of depths_of
analysed_is s p w v k hs R e long =
    let n = front_of s in
    let a = luma_area s in
    let b = colour_area s in
    let y = taken_of s (luma_size s) s.luma_excursion in
    let u = taken_of s (colour_size s) s.color_diff_excursion in
    let A = list_of s p.y y in
    let B = list_of s p.c1 u in
    let C = list_of s p.c2 u in
    let la = listed s p w k (luma_size s) s.luma_excursion k.frame.luma p.y hs.y in
    let lb = listed s p w k (colour_size s) s.color_diff_excursion k.frame.colour p.c1 hs.c1 in
    let lc = listed s p w k (colour_size s) s.color_diff_excursion k.frame.colour p.c2 hs.c2 in
    let ea = la.long in
    let eb = lb.long in
    let ec = lc.long in
    let x = at-behind n a b b A B C R ea eb ec in
    let long' : n + n ≤ length (whole n a b b A B C R ea eb ec) = rw e at long in
    rw e
    (record {
      small = work_small n a b b A B C R ea eb ec refl long' (omega (arith, k.luma.padded-area.few, k.colour.padded-area.few)) la.small lb.small lc.small;
      y = holds_of _ n a _ A la (λ i h. x i ∙ at_first n a b b A B C R ea eb ec i h);
      c1 = holds_of _ (n + a) b _ B lb (λ i h. ap (at (whole n a b b A B C R ea eb ec)) (add_assoc n a i) ∙ x (a + i) ∙ at_second n a b b A B C R ea eb ec i h);
      c2 = holds_of _ (n + (a + b)) b _ C lc (λ i h. ap (at (whole n a b b A B C R ea eb ec)) (add_assoc n (a + b) i) ∙ x (a + b + i) ∙ at_third n a b b A B C R ea eb ec i h);
      front = at_front n a b b A B C R ea eb ec;
    })

-- the front lies in the work slice
pub front_room : (s : Settings) (p : Three (List ℕ)) (w w1 : List ℤ) → Ready s p w → (l c : below.Component) → Taken s l c → length w1 ≡ length w
    → l.pw * l.ph + c.pw * c.ph + c.pw * c.ph ≤ length w1
unfolding work_needed
front_room s p w w1 k l c t e = omega (arith, e, front_is s l c t, k.lent.work_room)

-- behind a front that was lent and came back as zeros stands what the layer below left
pub analysed-of : (s : Settings) (p : Three (List ℕ)) (w w1 ys : List ℤ) → Ready s p w → Sampled p → (l c : below.Component) → Taken s l c
    → (n : ℕ) → n ≡ front_of s → (R : List ℤ) → length w1 ≡ length w
    → drop n w1 ≡ list_of s p.y l ++ list_of s p.c1 c ++ list_of s p.c2 c ++ R
    → ys ≡ replicate (length (take n w1)) (pos 0) → length (ys ++ drop n w1) ≡ length w → Analysed s p (ys ++ drop n w1)
unfolding work_needed
analysed-of s p w w1 ys k hs l c t n en R e1 e ey el =
    let y = taken_of s (luma_size s) s.luma_excursion in
    let u = taken_of s (colour_size s) s.color_diff_excursion in
    let room = k.lent.work_room in
    let z : ys ≡ replicate (front_of s) (pos 0) =
    ey ∙ ap (λ (m : ℕ). replicate m (pos 0)) (length-take-le n w1 (omega (arith, e1, en, room)) ∙ en) in
    let f : drop n w1 ≡ list_of s p.y y ++ list_of s p.c1 u ++ list_of s p.c2 u ++ R =
    e
    ∙ ap₂ (λ (l c : below.Component). list_of s p.y l ++ list_of s p.c1 c ++ list_of s p.c2 c ++ R) t.luma t.colour in
    analysed_is s p w (ys ++ drop n w1) k hs R (ap₂ ◌++◌ z f) (omega (arith, el, room))

-- the same with a front of m places
pub analysed_of_front : (s : Settings) (p : Three (List ℕ)) (w w1 ys : List ℤ) → Ready s p w → Sampled p → (l c : below.Component) → Taken s l c
    → (n m : ℕ) → n ≡ front_of s → m ≡ n → (R : List ℤ) → length w1 ≡ length w
    → drop n w1 ≡ list_of s p.y l ++ list_of s p.c1 c ++ list_of s p.c2 c ++ R
    → ys ≡ replicate (length (take m w1)) (pos 0) → length (ys ++ drop m w1) ≡ length w → Analysed s p (ys ++ drop m w1)
analysed_of_front s p w w1 ys k hs l c t n m en em R e1 e ey el =
    analysed-of s p w w1 ys k hs l c t m (em ∙ en) R e1 (ap (λ (k : ℕ). drop k w1) em ∙ e) ey el
