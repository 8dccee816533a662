-- Laws of the index of a high-quality slice: what a component needs, a slice's size, the shares of a target, and the
-- index by its rate.
use Rattle.std.specs.Prelude.{◌≡◌, refl, List, ℕ, zero, suc, ◌+◌, ◌*◌, ◌-◌, ◌/◌, ◌%◌, ◌^◌, ◌≤◌, ◌<◌, leb, ℤ}
use Rattle.std.proofs.Math.Path.{sym, ap, subst}
use Rattle.std.proofs.Common.{ap₂, ◌∙◌, div-mul-le_self, zero-mul, arith, lt-ltb, le-ltb, length-append}
use Rattle.std.proofs.Math.Bool.{false}
use Rattle.std.proofs.Math.Nat.{div-eq_of_lt, div-eq_of_lt-le}
use Rattle.std.proofs.lemmas.Bool.{lt-leb}
use Rattle.std.proofs.lemmas.Nat.{div-add-mod'}
use Rattle.std.proofs.Math.ListN.{length}
use Rattle.laws.specs.Ceiling.{ceiling, rounded_up}
use Rattle.unit.specs.declared.PictureKind.TheVariants.{HighQuality}
use Rattle.unit.specs.declared.RateControl.{RateControl}
use Rattle.unit.specs.declared.RateControl.TheVariants.{Lossless, FixedQuantIndex, PictureBytes}
use Rattle.unit.specs.Limits.{area_limit, last_index}
use Rattle.unit.specs.Three.{Three}
use Rattle.unit.specs.Slices.{part_size}
use Rattle.unit.proofs.Laws.Slice.{part_size-most}
use Rattle.unit.specs.Trim.{trimmed_cost}
use Rattle.unit.proofs.Laws.Trim.{cost-most}
use Rattle.unit.specs.Elect.{elect}
use Rattle.unit.proofs.Laws.Elect.{elected}
use Rattle.unit.proofs.Laws.Test.{no_truth}
use Rattle.unit.specs.Code.Valid.{RateFits}
use Rattle.unit.specs.HighQuality.{slice_size_by, need_of, slice_size, share_of, fits_by, index_by}
use Rattle.picture.specs.declared.slices.layout.Component.{Component}
use Rattle.picture.specs.declared.slices.layout.Layout.{Layout}
use Rattle.picture.specs.declared.slices.layout.Picture.{Picture}
use Rattle.picture.specs.declared.high.size.Needs.{Needs}
use Rattle.picture.specs.declared.slices.tally.Trimmed.{Trimmed}
use Rattle.picture.specs.declared.high.packed.Packed.{Packed}
use Rattle.picture.specs.declared.high.choice.Choice.{Choice}
use Rattle.picture.specs.declared.high.plan.Terms.{Terms}
use Rattle.picture.specs.declared.high.plan.Plan.{Plan}
use Rattle.picture.specs.Code.Strip.{Small}
use Rattle.picture.specs.Code.Packed.{packed}
use Rattle.picture.specs.Laws.Unpacked.{packed_few}
use Rattle.picture.specs.Code.Layout.{band_count, grid_in, band_size, start_of, strip_of, run_numbers}
use Rattle.picture.specs.Laws.Layout.{start-next, band-fits, band_numbers, run_none, run-next, run_small}
use Rattle.picture.specs.Laws.Region.{strip_part}
use Rattle.picture.specs.Laws.Number.{length-region}
use Rattle.picture.specs.Code.Picture.{slices_in, run_of, numbers_in, Arranged, SliceIn}
use Rattle.picture.specs.Code.Tally.{trimmed_of}
use Rattle.picture.specs.Code.Choice.{index_in, packed_of, choice_by, choice_in, needs_by, is_target, FewBits, TermsIn, PlanIn, NeedsOf}

-- ---- what a component needs
module _ (w : List ℤ) (l : Layout) (c : Component) (k q : ℕ) where
  pub band_many : (n : ℕ) → length (band_numbers w l c c false k q n) ≡ part_size (grid_in l) (band_size l c n) k
  unfolding strip_of
  band_many n = ap length (strip_part w (strip_of l c c false n (start_of l c n) k q) refl) ∙ length-region _ _ _ _ _

  run_many : (n : ℕ) → length (run_numbers w l c c false k q n) ≤ start_of l c n
  run_many zero = omega (arith, ap length (run_none w l c c false k q))
  run_many (suc n) =
      omega (arith, ap length (run-next w l c c false k q n), length-append (run_numbers w l c c false k q n) (band_numbers w l c c false k q n), run_many n, band_many n, part_size-most (grid_in l) (band_size l c n) k, start-next l c n)

  -- a slice has no more numbers of a component than this has coefficients
  pub run-most : length (run_numbers w l c c false k q (band_count l)) ≤ c.width * c.height
  run-most =
      let n : ℕ = l.depth_ho + 3 * l.depth in
      let e : band_count l ≡ suc n = omega arith in
      omega (arith, run_many (band_count l), ap (start_of l c) e, start-next l c n, band-fits l c n (omega arith))

-- a component's run is short
run_few : (w : List ℤ) (p : Picture) (c : Component) (k q : ℕ) → c.width * c.height ≤ area_limit
    → (length (packed 0 (run_of w p c k q)) ≤ 2 ^ 33) × (trimmed_cost (run_of w p c k q) ≤ 2 ^ 33)
run_few w p c k q few =
    let xs = run_of w p c k q in
    let m = run-most w p.layout c k q in
    (omega (arith, packed_few xs, m), omega (arith, cost-most xs (run_small w p.layout c c false k q (band_count p.layout)), m))

pub run-bits : (w : List ℤ) (p : Picture) (c : Component) (k q : ℕ) → c.width * c.height ≤ area_limit → (t : Trimmed) → t ≡ trimmed_of (run_of w p c k q) → t.bits ≤ 2 ^ 33
run-bits w p c k q few t e = omega (arith, (run_few w p c k q few).1, ap (λ (t : Trimmed). t.bits) e)

-- a slice's choices have few bits
pub choice_few : (w : List ℤ) (p : Picture) (k q : ℕ) → Arranged p → q ≤ 255 → FewBits (choice_by (numbers_in w p k) q)
unfolding numbers_in
choice_few w p k q a h =
    let y = run_few w p p.y k q a.y.area in
    let c1 = run_few w p p.c1 k q a.c1.area in
    let c2 = run_few w p p.c2 k q a.c2.area in
    record { index = h; words = (y.0, (c1.0, c2.0)); bits = (y.1, (c1.1, c2.1)) }

-- a choice put together of its three runs
pub choice_is : (w : List ℤ) (p : Picture) (k q : ℕ) (y c1 c2 : Packed) → y ≡ packed_of (run_of w p p.y k q) → c1 ≡ packed_of (run_of w p p.c1 k q)
    → c2 ≡ packed_of (run_of w p p.c2 k q) → ◌≡◌ {A = Choice} (record { index = q; y = y; c1 = c1; c2 = c2 }) (choice_by (numbers_in w p k) q)
unfolding numbers_in
choice_is w p k q y c1 c2 a b d =
    ap (λ (y : Packed). record { index = q; y = y; c1 = c1; c2 = c2 }) a
    ∙ ap₂ (λ (c1 c2 : Packed). record { index = q; y = packed_of (run_of w p p.y k q); c1 = c1; c2 = c2 }) b d

-- the choice of a slice has few bits
pub own_few : (w : List ℤ) (p : Picture) (t : Terms) (k : ℕ) (c : Choice) → Arranged p → index_in w p t k ≤ 255 → c ≡ choice_in w p t k → FewBits c
own_few w p t k c a h e = subst FewBits (sym e) (choice_few w p k (index_in w p t k) a h)

-- a size by the needs is the size by the numbers
pub fits_is : (z : Three (List ℤ)) (n : Needs) (p c share size : ℕ) → NeedsOf z n
    → size ≡ slice_size_by p c n.y n.c1 n.c2 → leb size share ≡ leb (slice_size p c z) share
unfolding slice_size
fits_is z n p c share size h e =
    ap (λ (s : ℕ). leb s share)
    (e ∙ ap (λ (y : ℕ). slice_size_by p c y n.c1 n.c2) h.y
    ∙ ap (λ (c1 : ℕ). slice_size_by p c (need_of z.y) c1 n.c2) h.c1
    ∙ ap (λ (c2 : ℕ). slice_size_by p c (need_of z.y) (need_of z.c1) c2) h.c2)

-- the bytes that the runs of a slice need, by their bits
module _ (w : List ℤ) (p : Picture) (k q : ℕ) (a : Arranged p) (y c1 c2 : Trimmed) (ey : y ≡ trimmed_of (run_of w p p.y k q))
    (e1 : c1 ≡ trimmed_of (run_of w p p.c1 k q)) (e2 : c2 ≡ trimmed_of (run_of w p p.c2 k q)) where
  pub bits_few : (y.bits ≤ 2 ^ 33) × ((c1.bits ≤ 2 ^ 33) × (c2.bits ≤ 2 ^ 33))
  bits_few = (run-bits w p p.y k q a.y.area y ey, (run-bits w p p.c1 k q a.c1.area c1 e1, run-bits w p p.c2 k q a.c2.area c2 e2))

  needs_are : NeedsOf (numbers_in w p k q) (needs_by y.bits c1.bits c2.bits)
  unfolding numbers_in
  needs_are = record {
    y = ap (λ (t : Trimmed). ceiling t.bits 8) ey;
    c1 = ap (λ (t : Trimmed). ceiling t.bits 8) e1;
    c2 = ap (λ (t : Trimmed). ceiling t.bits 8) e2;
    few = (omega (arith, bits_few.0), (omega (arith, bits_few.1.0), omega (arith, bits_few.1.1)));
  }

  -- the slice fits by their size
  pub fits_by_lem : (n : Needs) (x c share size : ℕ) → n ≡ needs_by y.bits c1.bits c2.bits
      → size ≡ slice_size_by x c n.y n.c1 n.c2 → leb size share ≡ fits_by x c share (numbers_in w p k) q
  fits_by_lem n x c share size e d = fits_is (numbers_in w p k q) n x c share size (subst (NeedsOf (numbers_in w p k q)) (sym e) needs_are) d

-- the bytes that a choice needs are those that its numbers need
pub needs_chosen : (z : ℕ → Three (List ℤ)) (q : ℕ) → let c = choice_by z q in FewBits c → NeedsOf (z q) (needs_by c.y.bits c.c1.bits c.c2.bits)
needs_chosen z q h = record {
  y = refl;
  c1 = refl;
  c2 = refl;
  few = (omega (arith, h.bits.0), (omega (arith, h.bits.1.0), omega (arith, h.bits.1.1)));
}

-- ---- sizes
-- the least multiple of c from n on, as the machine has it
pub rounded_is : (n c r : ℕ) → 1 ≤ c → n ≤ r → r < n + c → r % c ≡ 0 → r ≡ rounded_up c n
rounded_is n c r h a b m =
    let e = div-add-mod' r c in
    let k : ceiling n c ≡ r / c = div-eq_of_lt-le c (omega (arith, e, m, b)) (omega (arith, e, m, a)) in
    omega (arith, e, m, ap (λ (k : ℕ). k * c) k)

-- 0 bytes take 0 scalers
ceiling-none : (c : ℕ) → 1 ≤ c → ceiling 0 c * c ≡ 0
ceiling-none c h = let e : 0 + (c - 1) < c = omega arith in rw (div-eq_of_lt e, zero-mul)

-- where luma alone does not fit, the slice does not
pub fits_not : (w : List ℤ) (p : Picture) (k q y x c share size : ℕ) → 1 ≤ c → y ≡ need_of (run_of w p p.y k q)
    → size ≡ slice_size_by x c y 0 0 → share < size → false ≡ fits_by x c share (numbers_in w p k) q
unfolding slice_size numbers_in
fits_not w p k q y x c share size h e f l =
    let z = numbers_in w p k q in
    let n : ceiling y c * c ≡ ceiling (need_of z.y) c * c = ap (λ (n : ℕ). ceiling n c * c) e in
    sym (lt-leb (slice_size x c z) share (omega (arith, f, l, n, ceiling-none c h)))

pub alone_not : (w : List ℤ) (p : Picture) (k q : ℕ) (y : Trimmed) (n : Needs) (x c share size : ℕ) → 1 ≤ c → y ≡ trimmed_of (run_of w p p.y k q)
    → n ≡ needs_by y.bits 0 0 → size ≡ slice_size_by x c n.y n.c1 n.c2 → share < size
    → false ≡ fits_by x c share (numbers_in w p k) q
alone_not w p k q y n x c share size h e d f l =
    fits_not w p k q (ceiling y.bits 8) x c share size h (ap (λ (t : Trimmed). ceiling t.bits 8) e)
    (f ∙ ap (λ (n : Needs). slice_size_by x c n.y n.c1 n.c2) d) l

-- ---- shares
module _ (n d k : ℕ) where
  pub share_more : k < n % d → n / d + 1 ≡ share_of n d k
  unfolding share_of
  share_more h = rw (lt-ltb k (n % d) h)

  pub share_plain : n % d ≤ k → n / d ≡ share_of n d k
  unfolding share_of
  share_plain h = rw (le-ltb k (n % d) h) (omega arith)

-- ---- the index
-- the slices of a plan whose coefficients stand in w can be planned
pub plan_ready : (d : Plan) {w : List ℤ} → Small d.picture.front d.picture.end w → PlanIn d.picture d.terms w
plan_ready d h = record { arranged = d.arranged; plain = d.plain; small = h; terms = d.fits }

-- where slices can be planned each of them can be read
pub plan_slice : {p : Picture} {t : Terms} {w : List ℤ} → PlanIn p t w → (k q : ℕ) → k < slices_in p → q ≤ 255 → SliceIn p w k q
plan_slice h k q l m = record { arranged = h.arranged; small = h.small; slice = l; index = m }

module _ (w : List ℤ) (p : Picture) (t : Terms) (k : ℕ) where
  index_by_lem : (r : RateControl) → t.rate ≡ r → index_in w p t k ≡ index_by t.lo r t.prefix t.scaler (share_of t.bytes (slices_in p) k) (numbers_in w p k)
  unfolding index_in
  index_by_lem r e = ap (λ (r : RateControl). index_by t.lo r t.prefix t.scaler (share_of t.bytes (slices_in p) k) (numbers_in w p k)) e

  pub index_lossless : t.rate ≡ Lossless → 0 ≡ index_in w p t k
  unfolding index_by
  index_lossless e = sym (index_by_lem Lossless e)

  pub index_fixed : TermsIn t → (q : ℕ) → t.rate ≡ FixedQuantIndex q → (q ≡ index_in w p t k) × (q ≤ 255)
  unfolding index_by
  index_fixed h q e = (sym (index_by_lem (FixedQuantIndex q) e), subst (RateFits HighQuality) e h.rate)

  pub index_elected : (b d share q : ℕ) → t.rate ≡ PictureBytes b → d ≡ slices_in p → share ≡ share_of t.bytes d k
      → q ≡ elect t.lo (last_index HighQuality) (fits_by t.prefix t.scaler share (numbers_in w p k)) → q ≡ index_in w p t k
  unfolding index_by
  index_elected b d share q e f g h =
      h ∙ ap (λ (s : ℕ). elect t.lo (last_index HighQuality) (fits_by t.prefix t.scaler s (numbers_in w p k))) (g ∙ ap (λ (d : ℕ). share_of t.bytes d k) f)
      ∙ sym (index_by_lem (PictureBytes b) e)

  pub index-most : TermsIn t → index_in w p t k ≤ 255
  index-most h = by t.rate refl
    where
      by : (r : RateControl) → t.rate ≡ r → index_in w p t k ≤ 255
      by Lossless e = omega (arith, index_lossless e)
      by (FixedQuantIndex q) e = let i = index_fixed h q e in omega (arith, i.0, i.1)
      by (PictureBytes b) e =
          let d : ℕ = slices_in p in
          let share : ℕ = share_of t.bytes d k in
          let f = fits_by t.prefix t.scaler share (numbers_in w p k) in
          omega (arith, index_elected b d share (elect t.lo (last_index HighQuality) f) e refl refl refl, (elected f t.lo (last_index HighQuality) h.lo).high)

-- without a byte target the terms of one rate have the same index
pub index_stands : (w : List ℤ) (p : Picture) (t x : Terms) (k : ℕ) → x.rate ≡ t.rate → is_target t.rate ≡ false → index_in w p x k ≡ index_in w p t k
unfolding index_in index_by is_target
index_stands w p t x k e f =
    ap (λ (r : RateControl). index_by x.lo r x.prefix x.scaler (share_of x.bytes (slices_in p) k) (numbers_in w p k)) e ∙ by t.rate f
  where
    by : (r : RateControl) → is_target r ≡ false
        → index_by x.lo r x.prefix x.scaler (share_of x.bytes (slices_in p) k) (numbers_in w p k)
        ≡ index_by t.lo r t.prefix t.scaler (share_of t.bytes (slices_in p) k) (numbers_in w p k)
    by Lossless h = refl
    by (FixedQuantIndex q) h = refl
    by (PictureBytes b) h = no_truth h

-- ---- further laws
pub needs_by_lem : (a b d y c1 c2 : ℕ) → (y ≡ ceiling a 8) × (y ≤ 2 ^ 30) → (c1 ≡ ceiling b 8) × (c1 ≤ 2 ^ 30) → (c2 ≡ ceiling d 8) × (c2 ≤ 2 ^ 30)
    → (◌≡◌ {A = Needs} (record { y = y; c1 = c1; c2 = c2 }) (needs_by a b d)) × ((y ≤ 2 ^ 30) × ((c1 ≤ 2 ^ 30) × (c2 ≤ 2 ^ 30)))
needs_by_lem a b d y c1 c2 hy h1 h2 = (
  ap (λ (y : ℕ). record { y = y; c1 = c1; c2 = c2 }) hy.0 ∙ ap₂ (λ (c1 c2 : ℕ). record { y = ceiling a 8; c1 = c1; c2 = c2 }) h1.0 h2.0,
  (hy.1, (h1.1, h2.1)),
)

pub ceiling_near : (n c : ℕ) → n ≤ 2 ^ 30 → c ≤ 2 ^ 24 → ceiling n c * c ≤ 2 ^ 31
ceiling_near n c h l = omega (arith, div-mul-le_self (n + (c - 1)) c)

pub size_is : (z : Needs) (p c y c1 c2 : ℕ) → p ≤ 255 → (y ≡ ceiling z.y c) × (y * c ≤ 2 ^ 31) → (c1 ≡ ceiling z.c1 c) × (c1 * c ≤ 2 ^ 31)
    → (c2 ≡ ceiling z.c2 c) × (c2 * c ≤ 2 ^ 31)
    → let r = 4 + p + (y * c + c1 * c + c2 * c) in (r ≡ slice_size_by p c z.y z.c1 z.c2) × (r ≤ 2 ^ 34)
size_is z p c y c1 c2 h a b d = (
  ap (λ (y : ℕ). 4 + p + (y * c + c1 * c + c2 * c)) a.0
      ∙ ap (λ (c1 : ℕ). 4 + p + (ceiling z.y c * c + c1 * c + c2 * c)) b.0
      ∙ ap (λ (c2 : ℕ). 4 + p + (ceiling z.y c * c + ceiling z.c1 c * c + c2 * c)) d.0,
  omega (arith, a.1, b.1, d.1),
)
