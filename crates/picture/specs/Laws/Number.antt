-- The numbers that the code makes of the work slice are those of the unit's definition: where the bands stand, high
-- quality, the two colours together, and low delay.
use Rattle.std.specs.Prelude.{◌≡◌, Bool, true, ◌&&◌, ℤ, ◌-ℤ◌, length}
use Rattle.std.proofs.Math.Path.{refl, sym, ap, ap₂}
use Rattle.std.proofs.Common.{◌∙◌, mul_comm, add_assoc}
use Rattle.std.proofs.Math.Bool.{false}
use mathlib.Core.List.{List, [], ◌∷◌, ◌++◌, append_assoc, append-nil}
use Prim.Native.Nat.{ℕ, zero, suc, ◌+◌, ◌*◌, ◌-◌, ◌/◌, ◌%◌, ◌^◌, ◌≤◌, ◌<◌}
use native.Mathlib.Omega.{arith}
use Rattle.std.proofs.Math.Decide.{dec_le}
use borrow.Author.Tests.{le-leb, lt-leb, ne_eqb}
use Rattle.std.proofs.Math.Dec.{eqb}
use Rattle.std.proofs.Math.Arith.{digits_lt}
use Rattle.std.proofs.Math.IntN.{+ℤ_idr}
use Rattle.std.proofs.Math.ListN.{get_or, length-append}
use Rattle.laws.specs.Rows.{at}
use Rattle.laws.specs.Laws.Rows.{length-span}
use Rattle.laws.specs.Plane.{Plane, as_list}
use Rattle.laws.specs.Laws.Plane.{Agree, length-as_list, row_lt, column-lt}
use Rattle.laws.specs.Code.Chunks.{chunks}
use Rattle.laws.specs.Laws.Chunks.{chunks_ext}
use Rattle.quantiser.specs.Quant.{quant_factor, quant_offset, forward_by, forward_quant, band_index}
use Rattle.wavelet.specs.Planes.{Band, coefficients, dwt, band_at}
use Rattle.wavelet.specs.Laws.Plane.{length-dwt}
use Rattle.wavelet.specs.Laws.Bands.{halvings, Sides, offset_of, low_sides, high_sides, coefficient-at}
use Rattle.unit.specs.Sizes.{Size, area}
use Rattle.unit.specs.Slices.{Grid, slice_count, top, bottom, left, right, part, region}
use Rattle.unit.specs.Predict.{predict}
use Rattle.unit.specs.Quantised.{size_of, numbers_from, numbers_hq, number_at, rebuilt, numbers_ld, left_ld}
use Rattle.unit.specs.LowDelay.{alternated}
use Rattle.unit.proofs.Laws.Slice.{bound_rises, bound-most}
use Rattle.picture.specs.Laws.Layout.{level_low, first_fits, run-chunks}
use Rattle.picture.specs.declared.slices.strip.Origin.{Origin}
use Rattle.picture.specs.declared.slices.strip.Strip.{Strip}
use Rattle.picture.specs.declared.slices.layout.Component.{Component}
use Rattle.picture.specs.declared.slices.layout.Layout.{Layout}
use Rattle.picture.specs.Code.Strip.{plane_from, number_in, strip_numbers, rebuilt_strip, Inside}
use Rattle.picture.specs.Code.Layout.{level_of, band_count, grid_in, band_size, start_of, origin_of, strip_of, run_numbers, RunIn}
use Rattle.picture.specs.Laws.Strip.{prediction_no}
use Rattle.picture.specs.Laws.Region.{firsts, seconds, region_cong, strip_part, strip_pair, alternated-append, Apart, rebuilt-outside, Predicted, rebuilt_is, strip_predicted}
use Rattle.picture.specs.Code.Analysed.{Holds}

-- ---- where the bands stand
level_high : (k m r : ℕ) → r < 3 → level_of k (1 + k + 3 * m + r) ≡ k + 1 + m
unfolding level_of
level_high k m r h = let n : ℕ = 1 + k + 3 * m + r in rw (lt-leb n k (omega arith)) (omega arith)

abbrev sized : ℕ → ℕ → Size
sized w h = record { width = w; height = h }

module _ (l : Layout) (c : Component) where
  abbrev ho : ℕ
  ho = l.depth_ho

  size_low : (n : ℕ) → n ≤ ho → band_size l c n ≡ sized (c.width / 2 ^ halvings ho l.depth n) (c.height / 2 ^ l.depth)
  unfolding band_size halvings
  size_low zero h = rw (level_low ho 0 h, le-leb 0 ho h)
  size_low (suc n) h =
      let e : ho + l.depth - suc n + 1 ≡ ho + l.depth - n = omega arith in
      rw (level_low ho (suc n) h, ne_eqb (suc n) 0 (λ p. omega arith), le-leb (suc n) ho h, e)

  size_high : (m r : ℕ) → m < l.depth → r < 3 → band_size l c (1 + ho + 3 * m + r) ≡ sized (c.width / 2 ^ (l.depth - m)) (c.height / 2 ^ (l.depth - m))
  unfolding band_size
  size_high m r h q =
      let e : ho + l.depth - (ho + 1 + m) + 1 ≡ l.depth - m = omega arith in
      rw (level_high ho m r q, ne_eqb (ho + 1 + m) 0 (λ p. omega arith), lt-leb (ho + 1 + m) ho (omega arith), e)

-- bs are bands of the sides and at the places that the layout says
pub record Bands (l : Layout) (c : Component) (bs : List Band) : Type 0 where
  pub many : length bs ≡ band_count l
  pub size : (n : ℕ) → n < band_count l → size_of (band_at bs n) ≡ band_size l c n
  pub start : (n : ℕ) → n < band_count l → start_of l c n ≡ offset_of bs n

offset-suc : (bs : List Band) (n : ℕ) → n < length bs → offset_of bs (suc n) ≡ offset_of bs n + (band_at bs n).high * (band_at bs n).wide
unfolding offset_of
offset-suc [] n h = absurd (omega arith)
offset-suc (b ∷ bs) zero h = omega arith
offset-suc (b ∷ bs) (suc n) h = omega (arith, offset-suc bs n (omega arith))

offset_room : (bs : List Band) (n : ℕ) → n < length bs → offset_of bs n + (band_at bs n).high * (band_at bs n).wide ≤ length (coefficients bs)
unfolding offset_of
offset_room [] n h = absurd (omega arith)
offset_room (b ∷ bs) zero h =
    omega (arith, length-append (as_list b.high b.wide b.plane) (coefficients bs), length-as_list b.high b.wide b.plane)
offset_room (b ∷ bs) (suc n) h =
    omega (arith, length-append (as_list b.high b.wide b.plane) (coefficients bs), length-as_list b.high b.wide b.plane, offset_room bs n (omega arith))

start_by : (l : Layout) (c : Component) (bs : List Band) (e : ℕ) → e ≤ length bs → ((n : ℕ) → n < e → size_of (band_at bs n) ≡ band_size l c n)
    → (n : ℕ) → n ≤ e → start_of l c n ≡ offset_of bs n
unfolding start_of
start_by l c bs e h size zero m = unfold offset_of in refl
start_by l c bs e h size (suc n) m =
    ap₂ ◌+◌ (start_by l c bs e h size n (omega arith)) (ap area (sym (size n m)) ∙ mul_comm (band_at bs n).wide (band_at bs n).high)
    ∙ sym (offset-suc bs n (omega arith))

module _ (wr : ℤ → ℤ) (i j : ℕ) (l : Layout) (c : Component) (f : Plane) where
  abbrev pub analysed : List Band
  analysed = dwt wr i j l.depth_ho l.depth c.height c.width f

  sides_are : (n p q : ℕ) → Sides (band_at analysed n) c.height c.width p q → band_size l c n ≡ sized (c.width / 2 ^ q) (c.height / 2 ^ p)
      → size_of (band_at analysed n) ≡ band_size l c n
  sides_are n p q s e = ap₂ sized s.wide s.high ∙ sym e

  pub size_is : (n : ℕ) → n < band_count l → size_of (band_at analysed n) ≡ band_size l c n
  size_is n h = by (dec_le n k)
    where
      k : ℕ
      k = l.depth_ho

      d : ℕ
      d = l.depth

      by : Dec (n ≤ k) → size_of (band_at analysed n) ≡ band_size l c n
      by (yes o) = sides_are n d (halvings k d n) (low_sides wr i j k d c.height c.width f n o) (size_low l c n o)
      by (no o) =
          let m : ℕ = (n - 1 - k) / 3 in
          let r : ℕ = (n - 1 - k) % 3 in
          let e : n ≡ 1 + k + 3 * m + r = omega arith in
          let hm : m < d = omega arith in
          let hr : r < 3 = omega arith in
          rw e (sides_are (1 + k + 3 * m + r) (d - m) (d - m) (high_sides wr i j k d c.height c.width f m r hm hr) (size_high l c m r hm hr))

  pub bands_are : Bands l c analysed
  bands_are =
      let long = length-dwt wr i j l.depth_ho l.depth c.height c.width f in
      record {
        many = long;
        size = size_is;
        start = λ n h. start_by l c analysed (band_count l) (omega (arith, long)) size_is n (omega arith);
      }

-- ---- coefficients in the work slice
pub held : (w : List ℤ) (base : ℕ) (bs : List Band) → Holds w base bs → (n y x : ℕ) → n < length bs → y < (band_at bs n).high → x < (band_at bs n).wide
    → plane_from w (base + offset_of bs n) (band_at bs n).wide y x ≡ (band_at bs n).plane y x
held w base bs h n y x hn hy hx =
    let b = band_at bs n in
    let i : ℕ = offset_of bs n + (y * b.wide + x) in
    let p : y * b.wide + x < b.high * b.wide = digits_lt hy hx in
    ap (at w) (add_assoc base (offset_of bs n) (y * b.wide + x))
    ∙ h.holds i (omega (arith, offset_room bs n hn))
    ∙ coefficient-at bs n y x hn hy hx

-- a band's coefficient as the strip reads it
pub coefficient_is : (w : List ℤ) (l : Layout) (c : Component) (bs : List Band) → Bands l c bs → Holds w c.coefs bs
    → (n y x : ℕ) → n < band_count l → y < (band_size l c n).height → x < (band_size l c n).width
    → plane_from w (c.coefs + start_of l c n) (band_size l c n).width y x ≡ (band_at bs n).plane y x
coefficient_is w l c bs bands has n y x hn hy hx =
    let z = bands.size n hn in
    let hy' : y < (band_at bs n).high = rw (ap (λ (z : Size). z.height) z) hy in
    let hx' : x < (band_at bs n).wide = rw (ap (λ (z : Size). z.width) z) hx in
    ap₂ (λ (o : ℕ) (z : Size). plane_from w (c.coefs + o) z.width y x) (bands.start n hn) (sym z)
    ∙ held w c.coefs bs has n y x (omega (arith, bands.many)) hy' hx'

-- a window lies in its subband
module _ (g : Grid) (z : Size) (k : ℕ) (h : k < slice_count g) where
  pub bottom-most : bottom g z k ≤ z.height
  bottom-most = bound-most g.down z.height (suc (k / g.across)) (row_lt g.down g.across k h)

  pub right-most : right g z k ≤ z.width
  right-most = bound-most g.across z.width (suc (k % g.across)) (column-lt g.down g.across k h)

-- ---- runs, band by band
pub chunks-front : (F : ℕ → List ℤ) (n : ℕ) → chunks F (suc n) ≡ F 0 ++ chunks (λ j. F (suc j)) n
unfolding chunks
chunks-front F zero = sym (append-nil (F 0))
chunks-front F (suc n) = ap (λ (r : List ℤ). r ++ F (suc n)) (chunks-front F n) ∙ append_assoc (F 0) (chunks (λ j. F (suc j)) n) (F (suc n))

-- slice k's part of band j, where the matrix's values are from the n-th on
abbrev pub band_part : Grid → List ℕ → List Band → ℕ → ℕ → ℕ → ℕ → List ℤ
band_part g m bs q k n j = part g (size_of (band_at bs j)) k (λ y x. forward_quant ((band_at bs j).plane y x) (band_index q (get_or m (n + j) 0)))

pub from_chunks : (g : Grid) (m : List ℕ) (n : ℕ) (bs : List Band) (q k : ℕ) → numbers_from g m n bs q k ≡ chunks (band_part g m bs q k n) (length bs)
unfolding numbers_from
from_chunks g m n [] q k = unfold chunks in refl
from_chunks g m n (b ∷ bs) q k =
    let F : ℕ → ℕ → List ℤ = λ t. λ j. part g (size_of (band_at (b ∷ bs) j)) k (λ y x. forward_quant ((band_at (b ∷ bs) j).plane y x) (band_index q (get_or m t 0))) in
    ap₂ ◌++◌ (ap (λ (t : ℕ). F t 0) (omega arith))
    (from_chunks g m (suc n) bs q k ∙ chunks_ext (band_part g m bs q k (suc n)) (λ j. F (n + suc j) (suc j)) (length bs) (λ j h. ap (λ (t : ℕ). F t (suc j)) (omega arith)))
    ∙ sym (chunks-front (band_part g m (b ∷ bs) q k n) (length bs))

-- ---- bands that are not predicted
number_plain : (w : List ℤ) (s : Strip) (b : Band) (i y x : ℕ) → s.factor ≡ quant_factor i → s.predicted ≡ false
    → plane_from w s.coefs s.width y x ≡ b.plane y x → number_in w s s.coefs s.rebuilt y x ≡ forward_quant (b.plane y x) i
unfolding forward_quant
number_plain w s b i y x f p e =
    ap₂ (λ (f : ℕ) (v : ℤ). forward_by f v) f
    (ap₂ (λ (u v : ℤ). u -ℤ v) e (sym (prediction_no w s s.rebuilt y x p)) ∙ +ℤ_idr (b.plane y x))

module _ (w : List ℤ) (l : Layout) (c second : Component) (m : List ℕ) (bs : List Band) (k q : ℕ) (bands : Bands l c bs) (has : Holds w c.coefs bs)
    (slice : k < slice_count (grid_in l)) (values : (n : ℕ) → n < band_count l → get_or l.values n 0 ≡ get_or m n 0) where
  pub band_plain : (n : ℕ) → n < band_count l → (l.predicted && eqb n 0) ≡ false
      → strip_numbers w (strip_of l c second false n (start_of l c n) k q) ≡ band_part (grid_in l) m bs q k 0 n
  unfolding strip_of
  band_plain n hn p =
      let s = strip_of l c second false n (start_of l c n) k q in
      let g = grid_in l in
      let z = band_size l c n in
      let b = band_at bs n in
      let i : ℕ = band_index q (get_or m (0 + n) 0) in
      let e : get_or l.values n 0 ≡ get_or m (0 + n) 0 = values n hn ∙ ap (λ (t : ℕ). get_or m t 0) (omega arith) in
      let F : Plane = λ y x. forward_quant (b.plane y x) i in
      strip_part w s refl
      ∙ region_cong (firsts w s) F (top g z k) (bottom g z k) (left g z k) (right g z k)
      (λ y x a t d r.
      number_plain w s b i y x (ap (λ (t : ℕ). quant_factor (band_index q t)) e) p
      (coefficient_is w l c bs bands has n y x hn (omega (arith, bottom-most g z k slice)) (omega (arith, right-most g z k slice))))
      ∙ ap (λ (z : Size). part g z k F) (sym (bands.size n hn))

  -- high quality
  pub numbers_high : l.predicted ≡ false → run_numbers w l c second false k q (band_count l) ≡ numbers_hq (grid_in l) m bs q k
  numbers_high p =
      run-chunks w l c second false k q (band_count l)
      ∙ chunks_ext (λ j. strip_numbers w (strip_of l c second false j (start_of l c j) k q)) (band_part (grid_in l) m bs q k 0) (band_count l)
      (λ j h. band_plain j h (ap (λ (t : Bool). t && eqb j 0) p))
      ∙ ap (chunks (band_part (grid_in l) m bs q k 0)) (sym bands.many)
      ∙ sym (from_chunks (grid_in l) m 0 bs q k)

-- ---- the two colours together
pub length-region : (f : Plane) (t b l r : ℕ) → length (region f t b l r) ≡ (b - t) * (r - l)
unfolding region
length-region f t b l r = length-span _ 0 ((b - t) * (r - l))

module _ (w : List ℤ) (l : Layout) (c second d e : Component) (k q : ℕ) (wide : second.width ≡ c.width) (high : second.height ≡ c.height) where
  -- components of equal sides have subbands of equal sides
  same_size : (n : ℕ) → band_size l second n ≡ band_size l c n
  unfolding band_size
  same_size n = rw (wide, high)

  same_start : (n : ℕ) → start_of l second n ≡ start_of l c n
  unfolding start_of
  same_start zero = refl
  same_start (suc n) = ap₂ ◌+◌ (same_start n) (ap area (same_size n))

  abbrev window : Plane → ℕ → List ℤ
  window f n = part (grid_in l) (band_size l c n) k f

  -- the two strips together, and each of them alone
  abbrev both : ℕ → Strip
  both n = strip_of l c second true n (start_of l c n) k q

  -- where the second stands
  abbrev other : ℕ → Origin
  other n = origin_of second (start_of l c n)

  strip_both : (n : ℕ) → strip_numbers w (both n) ≡ alternated (window (firsts w (both n)) n) (window (seconds w (both n) (other n)) n)
  unfolding strip_of
  strip_both n = strip_pair w (both n) (other n) refl

  strip_first : (n : ℕ) → strip_numbers w (strip_of l c d false n (start_of l c n) k q) ≡ window (firsts w (both n)) n
  unfolding strip_of
  strip_first n = strip_part w (strip_of l c d false n (start_of l c n) k q) refl

  strip_second : (n : ℕ) → strip_numbers w (strip_of l second e false n (start_of l second n) k q) ≡ window (seconds w (both n) (other n)) n
  unfolding strip_of
  strip_second n = rw (same_start n) (strip_part w (strip_of l second e false n (start_of l c n) k q) refl ∙ rw (same_size n))

  strips_length : (n : ℕ) → length (strip_numbers w (strip_of l c d false n (start_of l c n) k q)) ≡ length (strip_numbers w (strip_of l second e false n (start_of l second n) k q))
  strips_length n =
      ap length (strip_first n) ∙ length-region (firsts w (both n)) _ _ _ _ ∙ sym (length-region (seconds w (both n) (other n)) _ _ _ _) ∙ sym (ap length (strip_second n))

  runs-length : (n : ℕ) → length (run_numbers w l c d false k q n) ≡ length (run_numbers w l second e false k q n)
  unfolding run_numbers
  runs-length zero = refl
  runs-length (suc n) =
      length-append (run_numbers w l c d false k q n) (strip_numbers w (strip_of l c d false n (start_of l c n) k q))
      ∙ ap₂ ◌+◌ (runs-length n) (strips_length n)
      ∙ sym (length-append (run_numbers w l second e false k q n) (strip_numbers w (strip_of l second e false n (start_of l second n) k q)))

  pub numbers_pair : (n : ℕ) → run_numbers w l c second true k q n ≡ alternated (run_numbers w l c d false k q n) (run_numbers w l second e false k q n)
  unfolding run_numbers
  numbers_pair zero = unfold alternated in refl
  numbers_pair (suc n) =
      ap₂ ◌++◌ (numbers_pair n) (strip_both n ∙ ap₂ alternated (sym (strip_first n)) (sym (strip_second n)))
      ∙ sym (alternated-append (run_numbers w l c d false k q n) (run_numbers w l second e false k q n)
      (strip_numbers w (strip_of l c d false n (start_of l c n) k q)) (strip_numbers w (strip_of l second e false n (start_of l second n) k q)) (runs-length n))

-- ---- low delay
low-front : (g : Grid) (m : List ℕ) (bs : List Band) (r : Plane) (q k n : ℕ) → length bs ≡ suc n → let i = band_index q (get_or m 0 0) in
    numbers_ld g m bs r q k
    ≡ part g (size_of (band_at bs 0)) k (λ y x. number_at i ((band_at bs 0).plane y x) (predict (rebuilt g (band_at bs 0) i k r) y x))
    ++ chunks (λ j. band_part g m bs q k 0 (suc j)) n
unfolding numbers_ld
low-front g m [] r q k n e = absurd (omega arith)
low-front g m (b ∷ bs) r q k n e =
    let i : ℕ = band_index q (get_or m 0 0) in
    let h : length bs ≡ n = omega arith in
    ap (λ (z : List ℤ). part g (size_of b) k (λ y x. number_at i (b.plane y x) (predict (rebuilt g b i k r) y x)) ++ z)
    (from_chunks g m 1 bs q k
    ∙ chunks_ext (band_part g m bs q k 1) (λ j. band_part g m (b ∷ bs) q k 0 (suc j)) (length bs)
    (λ j o. ap (λ (t : ℕ). part g (size_of (band_at bs j)) k (λ y x. forward_quant ((band_at bs j).plane y x) (band_index q (get_or m t 0)))) (omega arith))
    ∙ ap (chunks (λ j. band_part g m (b ∷ bs) q k 0 (suc j))) h)

-- what a slice leaves is the first band's rebuilt plane
pub left-front : (g : Grid) (m : List ℕ) (bs : List Band) (r : Plane) (q k : ℕ) → 0 < length bs
    → left_ld g m bs r q k ≡ rebuilt g (band_at bs 0) (band_index q (get_or m 0 0)) k r
unfolding left_ld
left-front g m [] r q k h = absurd (omega arith)
left-front g m (b ∷ bs) r q k h = refl

pub apart_run : (l : Layout) (c second : Component) (a e k q : ℕ) (w : List ℤ) → RunIn l c second a e k q w → Apart w (strip_of l c second false 0 0 k q)
unfolding strip_of
apart_run l c second a e k q w r =
    let g = grid_in l in
    let z = band_size l c 0 in
    record {
      rows = bound_rises g.down z.height (omega arith);
      columns = bound_rises g.across z.width (omega arith);
      wide = right-most g z k r.slice;
      high = bottom-most g z k r.slice;
      room = omega (arith, first_fits l c, r.rebuilt, r.small.order, r.small.long);
      ahead = omega (arith, first_fits l c, r.rebuilt, r.coefs.0);
    }

-- the coefficients are still there
pub holds_rebuilt : (w : List ℤ) (s : Strip) (base : ℕ) (bs : List Band) → Apart w s → s.rebuilt + s.height * s.width ≤ base → Holds w base bs
    → Holds (rebuilt_strip w s) base bs
holds_rebuilt w s base bs fits h has = record {
  holds = λ i o. rebuilt-outside w s fits (base + i) (λ p. omega arith) ∙ has.holds i o;
}

module _ (w : List ℤ) (l : Layout) (c second : Component) (m : List ℕ) (bs : List Band) (k q : ℕ) (bands : Bands l c bs) (has : Holds w c.coefs bs)
    (slice : k < slice_count (grid_in l)) (values : (n : ℕ) → n < band_count l → get_or l.values n 0 ≡ get_or m n 0) (predicted : l.predicted ≡ true) where
  -- slice k's strip of level 0, its band and its index
  abbrev pub strip0 : Strip
  strip0 = strip_of l c second false 0 0 k q

  abbrev pub band0 : Band
  band0 = band_at bs 0

  abbrev pub index0 : ℕ
  index0 = band_index q (get_or m 0 0)

  predicted_strip : Predicted (grid_in l) band0 index0 k strip0
  unfolding strip_of
  predicted_strip =
      let e = sym (bands.size 0 (omega arith)) in
      let v = values 0 (omega arith) in
      record {
        width = ap (λ (z : Size). z.width) e;
        height = ap (λ (z : Size). z.height) e;
        first-row = ap (λ (z : Size). top (grid_in l) z k) e;
        last_row = ap (λ (z : Size). bottom (grid_in l) z k) e;
        first-column = ap (λ (z : Size). left (grid_in l) z k) e;
        last_column = ap (λ (z : Size). right (grid_in l) z k) e;
        factor = ap (λ (t : ℕ). quant_factor (band_index q t)) v;
        offset = ap (λ (t : ℕ). quant_offset (band_index q t)) v;
        predicted = ap (λ (t : Bool). t && eqb 0 0) predicted;
      }

  coefficients_are : (y x : ℕ) → Inside strip0 y x → plane_from w strip0.coefs strip0.width y x ≡ band0.plane y x
  unfolding strip_of start_of
  coefficients_are y x i =
      let g = grid_in l in
      let z = band_size l c 0 in
      coefficient_is w l c bs bands has 0 y x (omega arith)
      (omega (arith, i.above, bottom-most g z k slice)) (omega (arith, i.left-of, right-most g z k slice))

  -- the plane that the code leaves, from one that agrees with r
  pub rebuilt-low : (r : Plane) → Apart w strip0 → Agree band0.high band0.wide (plane_from w strip0.rebuilt strip0.width) r
      → Agree band0.high band0.wide (plane_from (rebuilt_strip w strip0) strip0.rebuilt strip0.width) (rebuilt (grid_in l) band0 index0 k r)
  rebuilt-low r fits old = rebuilt_is (grid_in l) band0 index0 k strip0 predicted_strip w coefficients_are r fits old

  band-low : (n : Plane) → Agree band0.high band0.wide (plane_from w strip0.rebuilt strip0.width) n
      → strip_numbers w (strip_of l c second false 0 (start_of l c 0) k q) ≡ part (grid_in l) (size_of band0) k (λ y x. number_at index0 (band0.plane y x) (predict n y x))
  unfolding strip_of start_of
  band-low n same =
      let g = grid_in l in
      let z = band_size l c 0 in
      strip_predicted g band0 index0 k strip0 predicted_strip w coefficients_are n refl (bottom-most g z k slice) (right-most g z k slice) same
      ∙ ap (λ (z : Size). part g z k (λ y x. number_at index0 (band0.plane y x) (predict n y x))) (sym (bands.size 0 (omega arith)))

  -- the numbers, where the work slice has the rebuilt plane
  pub numbers_low : (r : Plane) → Agree band0.high band0.wide (plane_from w strip0.rebuilt strip0.width) (rebuilt (grid_in l) band0 index0 k r)
      → run_numbers w l c second false k q (band_count l) ≡ numbers_ld (grid_in l) m bs r q k
  numbers_low r same =
      let g = grid_in l in
      let n : ℕ = l.depth_ho + 3 * l.depth in
      let e : band_count l ≡ suc n = omega arith in
      let F : ℕ → List ℤ = λ j. strip_numbers w (strip_of l c second false j (start_of l c j) k q) in
      run-chunks w l c second false k q (band_count l) ∙ ap (chunks F) e ∙ chunks-front F n
      ∙ ap₂ ◌++◌ (band-low (rebuilt g band0 index0 k r) same)
      (chunks_ext (λ j. F (suc j)) (λ j. band_part g m bs q k 0 (suc j)) n
      (λ j h.
      band_plain w l c second m bs k q bands has slice values (suc j) (omega arith)
      (ap (λ (t : Bool). t && eqb (suc j) 0) predicted ∙ ne_eqb (suc j) 0 (λ o. omega arith))))
      ∙ sym (low-front g m bs r q k n (bands.many ∙ e))
