-- Rebuilding a slice does not depend on what stood in its places: a candidate rebuilt before it changes nothing.
use Rattle.std.specs.Prelude.{◌≡◌, refl, cond, List, ℕ, ◌+◌, ◌*◌, ◌-◌, ◌/◌, ◌%◌, ◌≤◌, ◌<◌, ℤ, pos, ◌+ℤ◌, ◌-ℤ◌, length}
use Rattle.std.proofs.Common.{sym, ap, ap₂, ◌∙◌, div-add-mod', div-lt_iff_lt-mul, mod-lt, arith, ext_get_or}
use Rattle.std.proofs.Math.Path.{fun_ext}
use Rattle.std.proofs.Math.Decide.{dec_le, dec_lt}
use Rattle.std.proofs.Math.Arith.{digits_lt}
use Rattle.laws.specs.Rows.{at}
use Rattle.quantiser.specs.Quant.{forward_by, inverse_by}
use Rattle.unit.proofs.Laws.Scan.{Neighbours, by_neighbours, predict-same}
use Rattle.picture.specs.declared.slices.strip.Strip.{Strip}
use Rattle.picture.specs.declared.slices.layout.Component.{Component}
use Rattle.picture.specs.declared.slices.layout.Picture.{Picture}
use Rattle.picture.specs.Code.Strip.{plane_from, value_in, rebuilt_strip, Inside, Small}
use Rattle.picture.specs.Laws.Strip.{rebuilt-rows-length}
use Rattle.picture.specs.Code.Layout.{strip_of, RunIn}
use Rattle.picture.specs.Laws.Layout.{first_fits}
use Rattle.picture.specs.Laws.Region.{Apart, same_row, same-column, number_lt, rebuilt_here, rebuilt_other}
use Rattle.picture.specs.Laws.Number.{apart_run}
use Rattle.picture.specs.Code.Picture.{slices_in, Arranged, SliceIn}
use Rattle.picture.specs.Laws.Picture.{run_y, run_c1, run_c2}
use Rattle.picture.specs.Code.Low.{strip0, rebuilt_in, low_fits_in, Tried}

-- ---- one strip
-- i is no place of the strip's rebuilt values
abbrev Outside : Strip → ℕ → Type 0
Outside s i = (y x : ℕ) → Inside s y x → i ≡ s.rebuilt + (y * s.width + x) → ⊥

pub length_strip : (l : List ℤ) (s : Strip) → length (rebuilt_strip l s) ≡ length l
length_strip l s = rebuilt-rows-length l s s.top (s.bottom - s.top)

apart_same : (l m : List ℤ) (s : Strip) → length m ≡ length l → Apart l s → Apart m s
apart_same l m s e a = record { rows = a.rows; columns = a.columns; wide = a.wide; high = a.high; room = omega (arith, a.room); ahead = a.ahead }

-- what is not in the strip's plane is no place of it
outside_plane : (l : List ℤ) (s : Strip) → Apart l s → (i : ℕ) → (s.rebuilt ≤ i → s.rebuilt + s.height * s.width ≤ i) → Outside s i
outside_plane l s a i out y x j e = let o = out (omega arith) in omega (arith, number_lt l s a y x j)

-- a value is made of its coefficient and its neighbours
value_near : (s : Strip) (l m : List ℤ) (y x : ℕ) → plane_from l s.coefs s.width y x ≡ plane_from m s.coefs s.width y x
    → Neighbours (λ b a. plane_from l s.rebuilt s.width b a ≡ plane_from m s.rebuilt s.width b a) y x → value_in l s y x ≡ value_in m s y x
value_near s l m y x e n =
    ap₂ (λ (p c : ℤ). p +ℤ inverse_by s.factor s.offset (forward_by s.factor (c -ℤ p)))
    (ap (λ (v : ℤ). cond s.predicted v (pos 0)) (predict-same (plane_from l s.rebuilt s.width) (plane_from m s.rebuilt s.width) y x n)) e

-- l and m agree in D but for the strip's places, and D has the strip's plane and its coefficients
module _ (s : Strip) (l m : List ℤ) (D : ℕ → Type 0) (a : Apart l s) (b : Apart m s) (plane : (i : ℕ) → i < s.height * s.width → D (s.rebuilt + i))
    (coefs : (i : ℕ) → s.coefs ≤ i → D i) (same : (i : ℕ) → Outside s i → D i → at l i ≡ at m i) where
  agree_other : (i : ℕ) → Outside s i → D i → at (rebuilt_strip l s) i ≡ at (rebuilt_strip m s) i
  agree_other i o d = rebuilt_other l s a i o ∙ same i o d ∙ sym (rebuilt_other m s b i o)

  abbrev Agrees : ℕ → ℕ → Type 0
  Agrees y x = plane_from (rebuilt_strip l s) s.rebuilt s.width y x ≡ plane_from (rebuilt_strip m s) s.rebuilt s.width y x

  agree_place : (y x : ℕ) → y < s.height → x < s.width → Neighbours Agrees y x → Agrees y x
  agree_place y x hy hx near = by (dec_le s.top y) (dec_lt y s.bottom) (dec_le s.left x) (dec_lt x s.right)
    where
      i : ℕ
      i = y * s.width + x

      out : (Inside s y x → ⊥) → Agrees y x
      out none =
          agree_other (s.rebuilt + i)
          (λ d c j e.
          let h : y * s.width + x ≡ d * s.width + c = omega arith in
          let hc : c < s.width = omega (arith, j.left-of, a.wide) in
          let u : d ≡ y = sym (same_row s.width y x d c hx hc h) in
          let v : c ≡ x = sym (same-column s.width y x d c hx hc h) in
          none (record {
            below = omega (arith, j.below);
            above = omega (arith, j.above);
            right_of = omega (arith, j.right_of);
            left-of = omega (arith, j.left-of);
          }))
          (plane i (digits_lt {q = y} {m = s.height} {r = x} {c = s.width} hy hx))

      inside : Inside s y x → Agrees y x
      inside j =
          let c : ℕ = s.coefs + (y * s.width + x) in
          let o : Outside s c = outside_plane l s a c (λ h. omega (arith, a.ahead)) in
          rebuilt_here l s a y x j
          ∙ value_near s (rebuilt_strip l s) (rebuilt_strip m s) y x (agree_other c o (coefs c (omega arith))) near
          ∙ sym (rebuilt_here m s b y x j)

      by : Dec (s.top ≤ y) → Dec (y < s.bottom) → Dec (s.left ≤ x) → Dec (x < s.right) → Agrees y x
      by (yes t) (yes u) (yes v) (yes w) = inside (record { below = t; above = u; right_of = v; left-of = w })
      by (no t) u v w = out (λ j. t j.below)
      by (yes t) (no u) v w = out (λ j. u j.above)
      by (yes t) (yes u) (no v) w = out (λ j. v j.right_of)
      by (yes t) (yes u) (yes v) (no w) = out (λ j. w j.left-of)

  agree_plane : (i : ℕ) → i < s.height * s.width → at (rebuilt_strip l s) (s.rebuilt + i) ≡ at (rebuilt_strip m s) (s.rebuilt + i)
  agree_plane i h = by (dec_lt 0 s.width)
    where
      by : Dec (0 < s.width) → at (rebuilt_strip l s) (s.rebuilt + i) ≡ at (rebuilt_strip m s) (s.rebuilt + i)
      by (yes w) =
          let e : i / s.width * s.width + i % s.width ≡ i = div-add-mod' i s.width in
          let hy : i / s.width < s.height = (div-lt_iff_lt-mul {k = s.width} {x = i} {y = s.height} w).1 h in
          rw e at (by_neighbours s.height s.width Agrees agree_place (i / s.width) (i % s.width) hy (mod-lt i w))
      by (no w) = let e : s.width ≡ 0 = omega arith in absurd (omega (arith, rw e at h))

  -- rebuilt, they agree in all of D
  agree_strip : (i : ℕ) → D i → at (rebuilt_strip l s) i ≡ at (rebuilt_strip m s) i
  agree_strip i d = by (dec_le s.rebuilt i) (dec_lt i (s.rebuilt + s.height * s.width))
    where
      out : (s.rebuilt ≤ i → s.rebuilt + s.height * s.width ≤ i) → at (rebuilt_strip l s) i ≡ at (rebuilt_strip m s) i
      out h = agree_other i (outside_plane l s a i h) d

      by : Dec (s.rebuilt ≤ i) → Dec (i < s.rebuilt + s.height * s.width) → at (rebuilt_strip l s) i ≡ at (rebuilt_strip m s) i
      by (yes u) (yes v) =
          let e : s.rebuilt + (i - s.rebuilt) ≡ i = omega arith in
          let h : i - s.rebuilt < s.height * s.width = omega arith in
          rw e at (agree_plane (i - s.rebuilt) h)
      by (yes u) (no v) = out (λ h. omega arith)
      by (no u) v = out (λ h. absurd (u h))

-- ---- three strips
-- the rebuilt planes of three strips lie one after the other, before all coefficients
record InOrder (s t u : Strip) : Type 0 where
  first : s.rebuilt + s.height * s.width ≤ t.rebuilt
  second : t.rebuilt + t.height * t.width ≤ u.rebuilt
  behind-s : u.rebuilt + u.height * u.width ≤ s.coefs
  behind_t : u.rebuilt + u.height * u.width ≤ t.coefs

module _ (s t u : Strip) where
  abbrev rebuilt3 : List ℤ → List ℤ
  rebuilt3 l = rebuilt_strip (rebuilt_strip (rebuilt_strip l s) t) u

  length_three : (l : List ℤ) → length (rebuilt3 l) ≡ length l
  length_three l = length_strip (rebuilt_strip (rebuilt_strip l s) t) u ∙ length_strip (rebuilt_strip l s) t ∙ length_strip l s

  module _ (l : List ℤ) (a : Apart l s) (b : Apart l t) (c : Apart l u) where
    -- nothing but their places changes
    three_other : (i : ℕ) → Outside s i → Outside t i → Outside u i → at (rebuilt3 l) i ≡ at l i
    three_other i os ot ou =
        let l1 = rebuilt_strip l s in
        let l2 = rebuilt_strip l1 t in
        let e1 = length_strip l s in
        let e2 = length_strip l1 t ∙ e1 in
        rebuilt_other l2 u (apart_same l l2 u e2 c) i ou ∙ rebuilt_other l1 t (apart_same l l1 t e1 b) i ot ∙ rebuilt_other l s a i os

    -- lists that agree but for their places
    three_agree : (m : List ℤ) → length m ≡ length l → InOrder s t u → ((i : ℕ) → Outside s i → Outside t i → Outside u i → at l i ≡ at m i) → rebuilt3 l ≡ rebuilt3 m
    three_agree m e o same =
        let l1 = rebuilt_strip l s in
        let m1 = rebuilt_strip m s in
        let l2 = rebuilt_strip l1 t in
        let m2 = rebuilt_strip m1 t in
        let el1 : length l1 ≡ length l = length_strip l s in
        let em1 : length m1 ≡ length l = length_strip m s ∙ e in
        let el2 : length l2 ≡ length l = length_strip l1 t ∙ el1 in
        let em2 : length m2 ≡ length l = length_strip m1 t ∙ em1 in
        let D1 : ℕ → Type 0 = λ i. Outside t i × Outside u i in
        let D2 : ℕ → Type 0 = λ i. Outside u i in
        let D3 : ℕ → Type 0 = λ i. Unit {0} in
        let first : (i : ℕ) → D1 i → at l1 i ≡ at m1 i =
        agree_strip s l m D1 a (apart_same l m s e a)
        (λ i h. (
          outside_plane l t b (s.rebuilt + i) (λ g. absurd (omega (arith, o.first))),
          outside_plane l u c (s.rebuilt + i) (λ g. absurd (omega (arith, o.first, o.second))),
        ))
        (λ i h. (outside_plane l t b i (λ g. omega (arith, o.second, o.behind-s)), outside_plane l u c i (λ g. omega (arith, o.behind-s))))
        (λ i os d. same i os d.0 d.1) in
        let second : (i : ℕ) → D2 i → at l2 i ≡ at m2 i =
        agree_strip t l1 m1 D2 (apart_same l l1 t el1 b) (apart_same l m1 t em1 b)
        (λ i h. outside_plane l u c (t.rebuilt + i) (λ g. absurd (omega (arith, o.second))))
        (λ i h. outside_plane l u c i (λ g. omega (arith, o.behind_t)))
        (λ i ot d. first i (ot, d)) in
        let third : (i : ℕ) → D3 i → at (rebuilt_strip l2 u) i ≡ at (rebuilt_strip m2 u) i =
        agree_strip u l2 m2 D3 (apart_same l l2 u el2 c) (apart_same l m2 u em2 c)
        (λ i h. tt)
        (λ i h. tt)
        (λ i ou d. second i ou) in
        ext_get_or (pos 0) (rebuilt3 l) (rebuilt3 m) (length_three l ∙ sym e ∙ sym (length_three m)) (λ i h. third i tt)

-- ---- the strips of a slice
-- where they lie does not depend on the index
outside-same : (p : Picture) (c : Component) (k q r i : ℕ) → Outside (strip0 p c k q) i → Outside (strip0 p c k r) i
unfolding strip_of
outside-same p c k q r i o y x j e = o y x (record { below = j.below; above = j.above; right_of = j.right_of; left-of = j.left-of }) e

apart_index : (p : Picture) (c : Component) (k q r : ℕ) (w : List ℤ) → Apart w (strip0 p c k q) → Apart w (strip0 p c k r)
unfolding strip_of
apart_index p c k q r w a = record { rows = a.rows; columns = a.columns; wide = a.wide; high = a.high; room = a.room; ahead = a.ahead }

apart_strip : (p : Picture) (c : Component) (k q : ℕ) (w : List ℤ) → RunIn p.layout c c p.front p.end k 0 w → Apart w (strip0 p c k q)
apart_strip p c k q w r = apart_index p c k 0 q w (apart_run p.layout c c p.front p.end k 0 w r)

in_order_lem : (p : Picture) (k q : ℕ) → Arranged p → InOrder (strip0 p p.y k q) (strip0 p p.c1 k q) (strip0 p p.c2 k q)
unfolding strip_of
in_order_lem p k q a = record {
  first = omega (arith, first_fits p.layout p.y, a.behind_y);
  second = omega (arith, first_fits p.layout p.c1, a.behind_c1);
  behind-s = omega (arith, first_fits p.layout p.c2, a.c2.rebuilt, a.y.coefs.0);
  behind_t = omega (arith, first_fits p.layout p.c2, a.c2.rebuilt, a.c1.coefs.0);
}

pub length-rebuilt : (w : List ℤ) (p : Picture) (k q : ℕ) → length (rebuilt_in w p k q) ≡ length w
unfolding rebuilt_in
length-rebuilt w p k q = length_three (strip0 p p.y k q) (strip0 p p.c1 k q) (strip0 p p.c2 k q) w

-- index q gives the same planes where index r was rebuilt before it
pub again : (p : Picture) (w : List ℤ) (k q r : ℕ) → SliceIn p w k 0 → rebuilt_in (rebuilt_in w p k r) p k q ≡ rebuilt_in w p k q
unfolding rebuilt_in
again p w k q r h =
    let y : ℕ → Strip = strip0 p p.y k in
    let c1 : ℕ → Strip = strip0 p p.c1 k in
    let c2 : ℕ → Strip = strip0 p p.c2 k in
    let ay : (q : ℕ) → Apart w (y q) = λ q. apart_strip p p.y k q w (run_y h) in
    let a1 : (q : ℕ) → Apart w (c1 q) = λ q. apart_strip p p.c1 k q w (run_c1 h) in
    let a2 : (q : ℕ) → Apart w (c2 q) = λ q. apart_strip p p.c2 k q w (run_c2 h) in
    sym (three_agree (y q) (c1 q) (c2 q) w (ay q) (a1 q) (a2 q) (rebuilt3 (y r) (c1 r) (c2 r) w) (length_three (y r) (c1 r) (c2 r) w) (in_order_lem p k q h.arranged)
    (λ i oy o1 o2.
    sym (three_other (y r) (c1 r) (c2 r) w (ay r) (a1 r) (a2 r) i
    (outside-same p p.y k q r i oy) (outside-same p p.c1 k q r i o1) (outside-same p p.c2 k q r i o2))))

-- what stands behind the rebuilt planes stays
pub rebuilt-behind : {p : Picture} {w : List ℤ} {k : ℕ} → SliceIn p w k 0 → (q i : ℕ) → p.front ≤ i → at (rebuilt_in w p k q) i ≡ at w i
unfolding rebuilt_in strip_of
rebuilt-behind {p} {w} {k} h q i f =
    let ay = apart_strip p p.y k q w (run_y h) in
    let a1 = apart_strip p p.c1 k q w (run_c1 h) in
    let a2 = apart_strip p p.c2 k q w (run_c2 h) in
    three_other (strip0 p p.y k q) (strip0 p p.c1 k q) (strip0 p p.c2 k q) w ay a1 a2 i
    (out p.y h.arranged.y.rebuilt ay) (out p.c1 h.arranged.c1.rebuilt a1) (out p.c2 h.arranged.c2.rebuilt a2)
  where
    out : (c : Component) → c.rebuilt + c.width * c.height ≤ p.front → Apart w (strip0 p c k q) → Outside (strip0 p c k q) i
    out c r a = outside_plane w (strip0 p c k q) a i (λ g. omega (arith, first_fits p.layout c, r, f))

-- ---- candidates
module _ (p : Picture) (k : ℕ) where
  -- before any trial
  pub tried_none : (w : List ℤ) → Small p.front p.end w → Tried p k w w
  tried_none w s = record { same = λ q. refl; small = s; size = refl }

  -- one trial more
  pub tried_more : (w v u : List ℤ) (q : ℕ) → Arranged p → k < slices_in p → Tried p k w v → u ≡ rebuilt_in v p k q → Small p.front p.end u → Tried p k w u
  tried_more w v u q a h t e s = record {
    same = λ r. ap (λ (x : List ℤ). rebuilt_in x p k r) e ∙ again p v k r q (record { arranged = a; small = t.small; slice = h; index = omega arith }) ∙ t.same r;
    small = s;
    size = ap length e ∙ length-rebuilt v p k q ∙ t.size;
  }

  -- trials one after the other
  pub tried_then : (w v u : List ℤ) → Tried p k w v → Tried p k v u → Tried p k w u
  tried_then w v u t o = record { same = λ q. o.same q ∙ t.same q; small = o.small; size = o.size ∙ t.size }

  -- trials do not change what fits
  pub tried_fits : (w v : List ℤ) (room : ℕ) → Tried p k w v → low_fits_in v p room k ≡ low_fits_in w p room k
  unfolding low_fits_in
  tried_fits w v room t = fun_ext (λ q. rw (t.same q))
