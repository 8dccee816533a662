-- The code's low-delay slices are the unit's: rebuilt planes, numbers, indices, bytes and cuts, slice by slice.
use Rattle.std.specs.Prelude.{◌≡◌, refl, Bool, true, false, not, ℤ, pos, get_or, drop, Ok, Err}
use Rattle.std.proofs.Math.Path.{sym, ap, ap₂, fun_ext, subst}
use Rattle.std.proofs.Common.{◌∙◌, mul-pos, arith}
use Rattle.std.proofs.Math.Bool.{cond}
use mathlib.Core.List.{List, ◌++◌, map, flatten}
use Prim.Native.Nat.{ℕ, zero, suc, ◌+◌, ◌*◌, ◌≤◌, ◌<◌}
use Rattle.std.proofs.Math.Arith.{digits_lt}
use Rattle.std.proofs.Math.Dec.{leb}
use Rattle.std.proofs.Math.ListN.{length}
use Rattle.laws.specs.Rows.{at, span, total}
use Rattle.laws.specs.Laws.Rows.{span_ext, map-span}
use Rattle.laws.specs.Plane.{Plane}
use Rattle.laws.specs.Laws.Plane.{Agree}
use Rattle.laws.specs.Laws.Chunks.{chunks_ext}
use Rattle.laws.specs.Code.Laid.{Lays}
use Rattle.codewords.specs.Bytes.{to_bytes}
use Rattle.quantiser.specs.Quant.{band_index}
use Rattle.wavelet.specs.Planes.{Band, band_at}
use Rattle.unit.specs.Limits.{target_limit, lowest_index, last_index}
use Rattle.unit.specs.Three.{Three}
use Rattle.unit.specs.Sizes.{Size}
use Rattle.unit.specs.Slices.{Grid, slice_count}
use Rattle.unit.proofs.Laws.Slice.{bound_rises}
use Rattle.unit.specs.Trim.{trimmed_cost}
use Rattle.unit.specs.Elect.{elect}
use Rattle.unit.specs.Quantised.{size_of, rebuilt, numbers_ld, left_ld}
use Rattle.unit.specs.Plan.{SlicePlan, Plan}
use Rattle.unit.specs.LowDelay.{numerator, slice_bytes, room_of, alternated, low_bits, kept_runs, low_numbers, low_left, low_fits, low_index, low_plan, low_slices, zero_plane, zero_planes}
use Rattle.unit.proofs.Laws.Planned.{low_state, low_elected, low_at, low-span}
use Rattle.unit.specs.declared.Settings.{Settings}
use Rattle.unit.specs.declared.PictureKind.{PictureKind}
use Rattle.unit.specs.declared.PictureKind.TheVariants.{LowDelay}
use Rattle.unit.specs.declared.Coded.{Coded}
use Rattle.refusals.specs.declared.Refusal.{Refusal}
use Rattle.refusals.specs.Number.{number}
use Rattle.unit.specs.Parameters.{low_delay, Parameters, overhead}
use Rattle.unit.specs.Matrix.{matrix_values}
use Rattle.unit.specs.Coefficients.{coefficients_of}
use Rattle.unit.specs.Code.Valid.{RateFits}
use Rattle.unit.proofs.Laws.Valid.{target_few}
use Rattle.unit.specs.Unit.{major_version, grid_of, parameters_by, target_of, low_parameters, numerator_of, plan_by, plan_of, slice_runs, head_bits, length_of}
use Rattle.unit.specs.Cut.{cut_of, cut_count}
use Rattle.unit.specs.Outcome.{scaler_in, coded_of, coding_refusal}
use Rattle.unit.proofs.Laws.LowDelay.{numerator-least, bytes_all, low_bytes}
use Rattle.unit.proofs.Laws.Soundness.{length_is}
use Rattle.unit.proofs.Laws.Drop.{cut_unfit, alike_of}
use Rattle.picture.specs.declared.slices.layout.Component.{Component}
use Rattle.picture.specs.declared.slices.layout.Picture.{Picture}
use Rattle.picture.specs.Code.Strip.{plane_from, rebuilt_strip, Small}
use Rattle.picture.specs.Code.Layout.{band_count, grid_in, band_size, strip_of}
use Rattle.picture.specs.Laws.Layout.{first_fits}
use Rattle.picture.specs.Laws.Region.{Apart, rebuilt-outside}
use Rattle.picture.specs.Laws.Number.{Bands, bottom-most, right-most, left-front, holds_rebuilt, rebuilt-low, numbers_low, numbers_pair}
use Rattle.picture.specs.Code.Analysed.{Holds, is_low, front_of, layout_of, picture_of, Called, Analysed}
use Rattle.picture.specs.Code.Picture.{slices_in, run_of, Placed, Arranged}
use Rattle.picture.specs.Code.Low.{strip0, rebuilt_in, luma_in, colour_in, low_fits_in, cut_by, low_bits_by, low_cut_by, bytes_at, low_index_in, low_work_in, low_bits_in, low_cut_in, work_at, low_runs, cuts_in, LowIn}
use Rattle.picture.specs.Code.Coded.{Coding, CodesAny}
use Rattle.picture.specs.Laws.Analysed.{called_arranged, count_few, grid_is, slices_are, values_in_lem, bands_y, bands_c1, bands_c2, small_by, holds_y, holds_c1, holds_c2, flatten-span, codes_refused, codes_written}
use Rattle.picture.specs.Laws.Again.{length_strip}

cond-not : (t : Bool) → ◌≡◌ {A = ℕ} (cond t 0 1) (cond (not t) 1 0)
cond-not true = refl
cond-not false = refl

-- a picture whose components have the bands b, with the values m
pub record Linked (p : Picture) (m : List ℕ) (b : Three (List Band)) : Type 0 where
  pub arranged : Arranged p
  pub values : (n : ℕ) → n < band_count p.layout → get_or p.layout.values n 0 ≡ get_or m n 0
  pub predicted : p.layout.predicted ≡ true
  pub y : Bands p.layout p.y b.y
  pub c1 : Bands p.layout p.c1 b.c1
  pub c2 : Bands p.layout p.c2 b.c2

-- the work slice w has a component's coefficients, and the rebuilt plane r of its level 0
pub record Has (p : Picture) (c : Component) (bs : List Band) (r : Plane) (w : List ℤ) : Type 0 where
  pub coefs : Holds w c.coefs bs
  pub plane : Agree (band_at bs 0).high (band_at bs 0).wide (plane_from w c.rebuilt (band_size p.layout c 0).width) r

-- the rebuilt planes of the three components
pub record Follows (p : Picture) (b : Three (List Band)) (r : Three Plane) (w : List ℤ) : Type 0 where
  pub room : p.front ≤ length w
  pub y : Has p p.y b.y r.y w
  pub c1 : Has p p.c1 b.c1 r.c1 w
  pub c2 : Has p p.c2 b.c2 r.c2 w

module _ (p : Picture) (k q : ℕ) (slice : k < slices_in p) where
  abbrev grid : Grid
  grid = grid_in p.layout

  apart_in : (c : Component) (w : List ℤ) → Placed p c → p.front ≤ length w → Apart w (strip0 p c k q)
  unfolding strip_of
  apart_in c w d h =
      let z = band_size p.layout c 0 in
      let f = first_fits p.layout c in
      record {
        rows = bound_rises p.layout.down z.height (omega arith);
        columns = bound_rises p.layout.across z.width (omega arith);
        wide = right-most grid z k slice;
        high = bottom-most grid z k slice;
        room = omega (arith, f, d.rebuilt);
        ahead = omega (arith, f, d.rebuilt, d.coefs.0);
      }

  -- component d's strip leaves component c, whose plane is elsewhere, as it was
  has_other : (c d : Component) (bs : List Band) (r : Plane) (w : List ℤ) → Bands p.layout c bs → Placed p c → Placed p d → p.front ≤ length w
      → ((i : ℕ) → i < c.width * c.height → d.rebuilt ≤ c.rebuilt + i → d.rebuilt + d.width * d.height ≤ c.rebuilt + i)
      → Has p c bs r w → Has p c bs r (rebuilt_strip w (strip0 p d k q))
  unfolding strip_of
  has_other c d bs r w bands pc pd room out has =
      let s = strip0 p d k q in
      let z = band_size p.layout c 0 in
      let fits = apart_in d w pd room in
      let e = bands.size 0 (omega arith) in
      let eh : (band_at bs 0).high ≡ z.height = ap (λ (z : Size). z.height) e in
      let ew : (band_at bs 0).wide ≡ z.width = ap (λ (z : Size). z.width) e in
      let fc = first_fits p.layout c in
      let fd = first_fits p.layout d in
      record {
        coefs = holds_rebuilt w s c.coefs bs fits (omega (arith, fd, pd.rebuilt, pc.coefs.0)) has.coefs;
        plane = record {
          same = λ y x hy hx.
              let i : ℕ = y * z.width + x in
              let hi : i < z.height * z.width = digits_lt {q = y} {m = z.height} {r = x} {c = z.width} (omega arith) (omega arith) in
              rebuilt-outside w s fits (c.rebuilt + i) (λ o. omega (arith, fd, out i (omega arith) o)) ∙ has.plane.same y x hy hx;
        };
      }

  -- a component's own strip of level 0
  module _ (c : Component) (m : List ℕ) (bs : List Band) (r : Plane) (bands : Bands p.layout c bs)
      (values : (n : ℕ) → n < band_count p.layout → get_or p.layout.values n 0 ≡ get_or m n 0) (predicted : p.layout.predicted ≡ true) where
    left_is : left_ld grid m bs r q k ≡ rebuilt grid (band_at bs 0) (band_index q (get_or m 0 0)) k r
    left_is = left-front grid m bs r q k (omega (arith, bands.many))

    has_own : (w : List ℤ) → Placed p c → p.front ≤ length w → Has p c bs r w → Has p c bs (left_ld grid m bs r q k) (rebuilt_strip w (strip0 p c k q))
    unfolding strip_of
    has_own w d room has =
        let s = strip0 p c k q in
        let fits = apart_in c w d room in
        record {
          coefs = holds_rebuilt w s c.coefs bs fits (omega (arith, first_fits p.layout c, d.rebuilt, d.coefs.0)) has.coefs;
          plane = rw left_is (rebuilt-low w p.layout c c m bs k q bands has.coefs slice values predicted r fits has.plane);
        }

    -- a component's numbers, where its plane is rebuilt
    numbers_own : (v : List ℤ) → Has p c bs (left_ld grid m bs r q k) v → run_of v p c k q ≡ numbers_ld grid m bs r q k
    unfolding strip_of
    numbers_own v has =
        numbers_low v p.layout c c m bs k q bands has.coefs slice values predicted r (rw left_is at has.plane)

-- ---- one slice
module _ (p : Picture) (m : List ℕ) (b : Three (List Band)) (h : Linked p m b) where
  abbrev g : Grid
  g = grid_in p.layout

  module _ (r : Three Plane) (w : List ℤ) (k : ℕ) (slice : k < slices_in p) (f : Follows p b r w) where
    -- the rebuilt planes at any index
    pub follows_rebuilt : (q : ℕ) → Follows p b (low_left g m b r k q) (rebuilt_in w p k q)
    unfolding rebuilt_in
    follows_rebuilt q =
        let a = h.arranged in
        let y = p.y in
        let c1 = p.c1 in
        let c2 = p.c2 in
        let w1 = rebuilt_strip w (strip0 p y k q) in
        let w2 = rebuilt_strip w1 (strip0 p c1 k q) in
        let r0 = f.room in
        let r1 : p.front ≤ length w1 = omega (arith, length_strip w (strip0 p y k q)) in
        let r2 : p.front ≤ length w2 = omega (arith, length_strip w1 (strip0 p c1 k q)) in
        let e1 = a.behind_y in
        let e2 = a.behind_c1 in
        record {
          room = omega (arith, length_strip w2 (strip0 p c2 k q));
          y = has_other p k q slice y c2 b.y _ w2 h.y a.y a.c2 r2 (λ i u v. omega arith)
              (has_other p k q slice y c1 b.y _ w1 h.y a.y a.c1 r1 (λ i u v. omega arith)
              (has_own p k q slice y m b.y r.y h.y h.values h.predicted w a.y r0 f.y));
          c1 = has_other p k q slice c1 c2 b.c1 _ w2 h.c1 a.c1 a.c2 r2 (λ i u v. omega arith)
              (has_own p k q slice c1 m b.c1 r.c1 h.c1 h.values h.predicted w1 a.c1 r1
              (has_other p k q slice c1 y b.c1 r.c1 w h.c1 a.c1 a.y r0 (λ i u v. omega arith) f.c1));
          c2 = has_own p k q slice c2 m b.c2 r.c2 h.c2 h.values h.predicted w2 a.c2 r2
              (has_other p k q slice c2 c1 b.c2 r.c2 w1 h.c2 a.c2 a.c1 r1 (λ i u v. omega arith)
              (has_other p k q slice c2 y b.c2 r.c2 w h.c2 a.c2 a.y r0 (λ i u v. omega arith) f.c2));
        }

    luma_is : (q : ℕ) → luma_in (rebuilt_in w p k q) p k q ≡ (low_numbers g m b r k q).y
    luma_is q = numbers_own p k q slice p.y m b.y r.y h.y h.values h.predicted (rebuilt_in w p k q) (follows_rebuilt q).y

    colour_is : (q : ℕ) → colour_in (rebuilt_in w p k q) p k q ≡ alternated (low_numbers g m b r k q).c1 (low_numbers g m b r k q).c2
    colour_is q =
        let v = rebuilt_in w p k q in
        numbers_pair v p.layout p.c1 p.c2 p.c1 p.c2 k q h.arranged.wide h.arranged.high (band_count p.layout)
        ∙ ap₂ alternated
        (numbers_own p k q slice p.c1 m b.c1 r.c1 h.c1 h.values h.predicted v (follows_rebuilt q).c1)
        (numbers_own p k q slice p.c2 m b.c2 r.c2 h.c2 h.values h.predicted v (follows_rebuilt q).c2)

    fits_are : (room : ℕ) → low_fits_in w p room k ≡ low_fits g m b room r k
    unfolding low_fits_in
    fits_are room = fun_ext (λ q. ap₂ (λ (y c : List ℤ). leb (trimmed_cost y + trimmed_cost c) room) (luma_is q) (colour_is q))

    bits_are : (n q : ℕ) → low_bits_by (rebuilt_in w p k q) p n k q ≡ (low_plan g m b n r k q).bits
    unfolding low_bits_by low_plan
    bits_are n q =
        ap₂ (λ (y c : List ℤ). low_bits n q (kept_runs (room_of n) y c).luma (kept_runs (room_of n) y c).colour) (luma_is q) (colour_is q)

    cut_is : map size_of b.c1 ≡ map size_of b.c2 → (n q : ℕ) → low_cut_by (rebuilt_in w p k q) p n k q ≡ cut_of (low_plan g m b n r k q)
    unfolding low_cut_by
    cut_is alike n q =
        ap₂ (cut_by (room_of n)) (luma_is q) (colour_is q) ∙ cond-not (low_fits g m b (room_of n) r k q)
        ∙ ap (λ (t : Bool). cond t 1 0) (sym (cut_unfit g m b alike r n k q))

    module _ (n : ℕ) where
      pub index_is : low_index_in p n w k ≡ low_index g m b (slice_bytes n (slice_count g) k) r k
      unfolding low_index_in low_index
      index_is = ap (elect lowest_index (last_index LowDelay)) (fits_are (room_of (bytes_at p n k)))

      pub slice_is : low_bits_in p n w k ≡ (low_plan g m b (slice_bytes n (slice_count g) k) r k (low_index g m b (slice_bytes n (slice_count g) k) r k)).bits
      slice_is =
          bits_are (bytes_at p n k) (low_index_in p n w k)
          ∙ ap (λ (q : ℕ). (low_plan g m b (slice_bytes n (slice_count g) k) r k q).bits) index_is

      pub follows_next : Follows p b (low_left g m b r k (low_index g m b (slice_bytes n (slice_count g) k) r k)) (low_work_in p n w k)
      follows_next = rw (← index_is) (follows_rebuilt (low_index_in p n w k))

  -- ---- the start
  -- coefficients behind a front of zeros
  has_start : (c : Component) (bs : List Band) (w : List ℤ) → Bands p.layout c bs → Placed p c → Holds w c.coefs bs
      → ((i : ℕ) → i < p.front → at w i ≡ pos 0) → Has p c bs zero_plane w
  has_start c bs w bands d has zeros =
      let z = band_size p.layout c 0 in
      let e = bands.size 0 (omega arith) in
      let eh : (band_at bs 0).high ≡ z.height = ap (λ (z : Size). z.height) e in
      let ew : (band_at bs 0).wide ≡ z.width = ap (λ (z : Size). z.width) e in
      record {
        coefs = has;
        plane = record {
          same = λ y x hy hx.
              let hi : y * z.width + x < z.height * z.width = digits_lt {q = y} {m = z.height} {r = x} {c = z.width} (omega arith) (omega arith) in
              zeros (c.rebuilt + (y * z.width + x)) (omega (arith, first_fits p.layout c, d.rebuilt));
        };
      }

  pub follows_start : (w : List ℤ) → p.front ≤ length w → Holds w p.y.coefs b.y → Holds w p.c1.coefs b.c1 → Holds w p.c2.coefs b.c2
      → ((i : ℕ) → i < p.front → at w i ≡ pos 0) → Follows p b zero_planes w
  follows_start w room y c1 c2 zeros = record {
    room = room;
    y = has_start p.y b.y w h.y h.arranged.y y zeros;
    c1 = has_start p.c1 b.c1 w h.c1 h.arranged.c1 c1 zeros;
    c2 = has_start p.c2 b.c2 w h.c2 h.arranged.c2 c2 zeros;
  }

  -- ---- slice after slice; n is the numerator
  module _ (n : ℕ) (w : List ℤ) (start : Follows p b zero_planes w) where
    pub follows_at : (k : ℕ) → k ≤ slices_in p → Follows p b (low_state g m b n k) (work_at p n w k)
    unfolding low_state work_at
    follows_at zero o = start
    follows_at (suc k) o = follows_next (low_state g m b n k) (work_at p n w k) k o (follows_at k (omega arith)) n

    pub index_at : (k : ℕ) → k < slices_in p → low_index_in p n (work_at p n w k) k ≡ low_elected g m b n k
    index_at k o = index_is (low_state g m b n k) (work_at p n w k) k o (follows_at k (omega arith)) n

    pub slice_at : (k : ℕ) → k < slices_in p → low_bits_in p n (work_at p n w k) k ≡ (low_at g m b n k).bits
    slice_at k o = slice_is (low_state g m b n k) (work_at p n w k) k o (follows_at k (omega arith)) n

    spans : low_slices g m b n zero_planes 0 (slices_in p) ≡ span (low_at g m b n) 0 (slices_in p)
    unfolding low_state
    spans = low-span g m b n 0 (slices_in p)

    -- the bytes of all slices
    pub low-runs : low_runs p n w (slices_in p) ≡ flatten (slice_runs (low_slices g m b n zero_planes 0 (slices_in p)))
    low-runs =
        chunks_ext (λ k. to_bytes (low_bits_in p n (work_at p n w k) k)) (λ k. to_bytes (low_at g m b n k).bits) (slices_in p) (λ k o. ap to_bytes (slice_at k o))
        ∙ sym (flatten-span (low_at g m b n) (slices_in p))
        ∙ ap (λ (ps : List SlicePlan). flatten (slice_runs ps)) (sym spans)

    module _ (alike : map size_of b.c1 ≡ map size_of b.c2) where
      cut_at : (k : ℕ) → k < slices_in p → low_cut_in p n (work_at p n w k) k ≡ cut_of (low_at g m b n k)
      cut_at k o =
          let z = slice_bytes n (slice_count g) k in
          let r = low_state g m b n k in
          cut_is r (work_at p n w k) k o (follows_at k (omega arith)) alike z (low_index_in p n (work_at p n w k) k)
          ∙ ap (λ (q : ℕ). cut_of (low_plan g m b z r k q)) (index_at k o)

      -- how many of them are cut
      pub low_cuts : cuts_in p n w (slices_in p) ≡ total (map cut_of (low_slices g m b n zero_planes 0 (slices_in p)))
      low_cuts =
          ap total
          (span_ext (λ k. low_cut_in p n (work_at p n w k) k) (λ k. cut_of (low_at g m b n k)) 0 (slices_in p) (λ k a o. cut_at k (omega arith))
          ∙ sym (map-span cut_of (low_at g m b n) 0 (slices_in p)) ∙ ap (map cut_of) (sym spans))

-- ---- a low-delay call
numerator-most : (version target slices : ℕ) (t : ℕ → Parameters) (n : ℕ) → target ≤ n → slices ≤ n → numerator version target slices t ≤ n
unfolding numerator
numerator-most version target slices t n a b = omega arith

abbrev coded_by : ℕ → ℕ → ℕ → Coded
coded_by l c z = record { written = l; cut_slices = c; slice_size_scaler = z }

module _ {s : Settings} {m : List ℕ} (called : Called s m) (low : s.kind ≡ LowDelay) where
  predicted_in : (picture_of s m).layout.predicted ≡ true
  unfolding picture_of layout_of
  predicted_in = ap is_low low

  slices-some : 1 ≤ slice_count (grid_of s)
  slices-some = mul-pos {m = s.slices_y} {n = s.slices_x} called.shape.down.some called.shape.across.some

  numerator-some : slice_count (grid_of s) ≤ numerator_of s m
  unfolding numerator_of
  numerator-some = numerator-least (major_version s) (target_of s.rate) (slice_count (grid_of s)) (low_parameters s m)

  pub numerator_few : numerator_of s m ≤ target_limit
  unfolding numerator_of
  numerator_few =
      let f : RateFits LowDelay s.rate = subst (λ (k : PictureKind). RateFits k s.rate) low called.rate in
      numerator-most (major_version s) (target_of s.rate) (slice_count (grid_of s)) (low_parameters s m) target_limit (target_few LowDelay s.rate f) (omega (arith, count_few called))

  pub low_in : (w : List ℤ) → Small (front_of s) (front_of s + front_of s) w → LowIn (picture_of s m) (numerator_of s m) w
  low_in w h = record {
    arranged = called_arranged called;
    small = small_by s m h;
    enough = omega (arith, slices_are s m, numerator-some);
    few = omega (arith, numerator_few);
  }

  module _ (pl : Three (List ℕ)) where
    abbrev bands : Three (List Band)
    bands = coefficients_of s pl

    linked : Linked (picture_of s m) (matrix_values s m) bands
    linked = record {
      arranged = called_arranged called;
      values = values_in_lem s m called;
      predicted = predicted_in;
      y = bands_y s m pl;
      c1 = bands_c1 s m pl;
      c2 = bands_c2 s m pl;
    }

    plan_is : plan_of s m pl ≡ plan_by s m LowDelay bands
    unfolding plan_of
    plan_is = ap (λ (k : PictureKind). plan_by s m k bands) low

    parameters_are : low_parameters s m (numerator_of s m) ≡ (plan_of s m pl).parameters
    parameters_are = ap (λ (a : Plan). a.parameters) (sym plan_is)

    -- in low delay the setting's scaler
    scaler_is : s.slice_size_scaler ≡ scaler_in (plan_of s m pl).parameters.slice_parameters s.slice_size_scaler
    scaler_is = ap (λ (a : Plan). scaler_in a.parameters.slice_parameters s.slice_size_scaler) (sym plan_is)

    coded_is : {l c : ℕ} → l ≡ length_of s (plan_of s m pl) → c ≡ cut_count (plan_of s m pl) → coded_by l c s.slice_size_scaler ≡ coded_of s (plan_of s m pl)
    unfolding coded_of
    coded_is el ec =
        ap₂ (λ (l c : ℕ). coded_by l c s.slice_size_scaler) el ec
        ∙ ap (coded_by (length_of s (plan_of s m pl)) (cut_count (plan_of s m pl))) scaler_is

    -- the slices take the numerator
    length-low : length_of s (plan_of s m pl) ≡ overhead (major_version s) (low_parameters s m (numerator_of s m)) + numerator_of s m
    length-low =
        let n = numerator_of s m in
        let g = grid_of s in
        let o : ℕ = overhead (major_version s) (low_parameters s m n) in
        ap (length_of s) plan_is ∙ length_is s (plan_by s m LowDelay bands)
        ∙ ap (λ (k : ℕ). o + k) (ap total (low_bytes g (matrix_values s m) bands n zero_planes 0 (slice_count g) slices-some numerator-some) ∙ bytes_all n (slice_count g) slices-some)

    module _ (w : List ℤ) (an : Analysed s pl w) where
      front_room : (picture_of s m).front ≤ length w
      unfolding picture_of
      front_room = omega (arith, an.small.order, an.small.long)

      front-zeros : (i : ℕ) → i < (picture_of s m).front → at w i ≡ pos 0
      unfolding picture_of
      front-zeros i h = an.front i h

      start : Follows (picture_of s m) bands zero_planes w
      start = follows_start (picture_of s m) (matrix_values s m) bands linked w front_room (holds_y s m an) (holds_c1 s m an) (holds_c2 s m an) front-zeros

      runs_are : low_runs (picture_of s m) (numerator_of s m) w (slices_in (picture_of s m)) ≡ flatten (slice_runs (plan_of s m pl).slices)
      runs_are =
          low-runs (picture_of s m) (matrix_values s m) bands linked (numerator_of s m) w start
          ∙ ap (λ (g : Grid). flatten (slice_runs (low_slices g (matrix_values s m) bands (numerator_of s m) zero_planes 0 (slice_count g)))) (grid_is s m)
          ∙ ap (λ (a : Plan). flatten (slice_runs a.slices)) (sym plan_is)

      cuts_are : cuts_in (picture_of s m) (numerator_of s m) w (slices_in (picture_of s m)) ≡ cut_count (plan_of s m pl)
      unfolding cut_count
      cuts_are =
          low_cuts (picture_of s m) (matrix_values s m) bands linked (numerator_of s m) w start (alike_of s pl)
          ∙ ap (λ (g : Grid). total (map cut_of (low_slices g (matrix_values s m) bands (numerator_of s m) zero_planes 0 (slice_count g)))) (grid_is s m)
          ∙ sym (ap cut_count plan_is)

-- what is worked out before the output is written: numerator n, d slices, and the unit's length l
pub record Worked (s : Settings) (m : List ℕ) (p : Picture) (w : List ℤ) (n d l : ℕ) : Type 0 where
  pub coding : Coding s m LowDelay p w
  pub numerator : n ≡ numerator_of s m
  pub slices : d ≡ slices_in p
  pub long : l ≡ overhead (major_version s) (parameters_by s m (low_delay n d)) + n

module _ {s : Settings} {m : List ℕ} {p : Picture} {w : List ℤ} {n d l : ℕ} (h : Worked s m p w n d l) where
  abbrev worked-parameters : Parameters
  worked-parameters = parameters_by s m (low_delay n d)

  same-parameters : worked-parameters ≡ low_parameters s m (numerator_of s m)
  same-parameters =
      ap₂ (λ (n d : ℕ). parameters_by s m (low_delay n d)) h.numerator (h.slices ∙ ap slices_in h.coding.picture ∙ slices_are s m)

  -- the length, whatever the planes
  same_length : (pl : Three (List ℕ)) → l ≡ length_of s (plan_of s m pl)
  same_length pl =
      h.long ∙ ap₂ (λ (t : Parameters) (n : ℕ). overhead (major_version s) t + n) same-parameters h.numerator
      ∙ sym (length-low h.coding.called h.coding.same pl)

  same-refusal : (out : List ℕ) (pl : Three (List ℕ)) → coding_refusal (length out) l ≡ coding_refusal (length out) (length_of s (plan_of s m pl))
  same-refusal out pl = ap (coding_refusal (length out)) (same_length pl)

  -- the slices can be coded
  pub low_ready : LowIn p n w
  low_ready = rw (h.coding.picture, h.numerator) (low_in h.coding.called h.coding.same w h.coding.small)

  -- coding refuses the unit
  pub low_refused : (out : List ℕ) (r : Refusal) → number r ≡ coding_refusal (length out) l → CodesAny s m w out out (Err r)
  low_refused out r e = record { codes = λ pl an. codes_refused s (plan_of s m pl) out r (e ∙ same-refusal out pl) }

  -- the head at the output's start, and the slices behind it
  pub low_written : (out o o' : List ℕ) (at r c : ℕ) → coding_refusal (length out) l ≡ 0 → at ≡ overhead (major_version s) (parameters_by s m (low_delay n d))
      → o ≡ to_bytes (head_bits s l (parameters_by s m (low_delay n d))) ++ drop at out → Lays o at (low_runs p n w (slices_in p)) o' r → c ≡ cuts_in p n w (slices_in p)
      → CodesAny s m w out o' (Ok (record { written = l; cut_slices = c; slice_size_scaler = s.slice_size_scaler }))
  low_written out o o' at r c e ea eo lays ec = record {
    codes = λ pl an.
        let et = same-parameters ∙ parameters_are called low pl in
        codes_written s (plan_of s m pl) out l at r o o' (coded_by l c s.slice_size_scaler) (sym (same-refusal out pl) ∙ e) (same_length pl)
        (ea ∙ ap (λ (t : Parameters). overhead (major_version s) t) et)
        (eo ∙ ap (λ (t : Parameters). to_bytes (head_bits s l t) ++ drop at out) et)
        (subst (λ (v : List ℕ). Lays o at v o' r)
        (ap₂ (λ (p : Picture) (n : ℕ). low_runs p n w (slices_in p)) h.coding.picture h.numerator ∙ runs_are called low pl w an) lays)
        (coded_is called low pl (same_length pl)
        (ec ∙ ap₂ (λ (p : Picture) (n : ℕ). cuts_in p n w (slices_in p)) h.coding.picture h.numerator ∙ cuts_are called low pl w an));
  }
    where
      called : Called s m
      called = h.coding.called

      low : s.kind ≡ LowDelay
      low = h.coding.same
