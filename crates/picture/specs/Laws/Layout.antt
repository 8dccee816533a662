-- Laws of layouts: the bands of a component follow one another within its padded area, a slice's strips lie within, and
-- its numbers band by band.
use Rattle.std.specs.Prelude.{◌≡◌, Some, None, Option, unwrap_or, Bool, true, false, cond, ◌&&◌, eqb, leb, ℤ, length, get_or}
use Rattle.std.proofs.Math.Path.{refl, sym, ap, ap₂}
use Rattle.std.proofs.Common.{◌∙◌, pow-suc, div-one, div-le_self, div-lt_iff_lt-mul, mod-lt, add-one, length-append}
use Rattle.std.proofs.Math.Bool.{and-false}
use mathlib.Core.List.{List, [], ◌++◌, append-nil, append_assoc}
use Prim.Native.Nat.{ℕ, zero, suc, ◌+◌, ◌*◌, ◌-◌, ◌/◌, ◌%◌, ◌^◌, ◌≤◌, ◌<◌}
use Rattle.std.proofs.Math.Nat.{div-div-eq-div-mul, mul_comm, mul_assoc}
use native.Mathlib.Omega.{arith}
use Rattle.std.proofs.Math.Decide.{dec_le}
use borrow.Author.Tests.{ne_eqb, le-leb, lt-leb}
use Rattle.laws.specs.Code.Chunks.{chunks}
use Rattle.quantiser.specs.Quant.{quant_factor, quant_offset, band_index}
use Rattle.codewords.specs.Code.Writer.{Sound, Room}
use Rattle.unit.specs.Limits.{area_limit}
use Rattle.wavelet.specs.RowCall.{row_limit}
use Rattle.unit.specs.Sizes.{Size, area}
use Rattle.unit.specs.Slices.{bound, slice_count, part_size}
use Rattle.unit.proofs.Laws.Subband.{half, quarter}
use Rattle.unit.proofs.Laws.Slice.{bound_rises, bound-most, part_size-most}
use Rattle.unit.proofs.Laws.Trim.{small_append}
use Rattle.unit.proofs.Laws.Trim as trim
use Rattle.picture.specs.declared.slices.strip.Origin.{Origin}
use Rattle.picture.specs.declared.slices.strip.Strip.{Strip}
use Rattle.picture.specs.declared.slices.cost.Cost.{Cost}
use Rattle.picture.specs.declared.low.put.Put.{Put}
use Rattle.picture.specs.declared.slices.layout.Component.{Component}
use Rattle.picture.specs.declared.slices.layout.Layout.{Layout}
use Rattle.picture.specs.declared.slices.layout.Window.{Window}
use Rattle.picture.specs.declared.slices.tally.Tally.{Tally}
use Rattle.picture.specs.Code.Strip.{strip_numbers, Within, Lies, PlainLies}
use Rattle.picture.specs.Laws.Strip.{rows_small, rows-length}
use Rattle.picture.specs.Code.Cost.{add1, added, add_all, no_cost, Counted, Countable}
use Rattle.picture.specs.Laws.Added.{added_none, added-append, added-start, added-turn}
use Rattle.picture.specs.Code.Counter.{Counts, tally_counts}
use Rattle.picture.specs.Laws.Counter.{counted_fewer, counted_after}
use Rattle.picture.specs.Laws.Cost.{countable_after}
use Rattle.picture.specs.Code.Tally.{tally1, tally_all, no_tally, Addable}
use Rattle.picture.specs.Laws.Tally.{tally_of_lem, TallyOf}
use Rattle.picture.specs.Code.Put.{RoomFor, Puts}
use Rattle.picture.specs.Laws.Put.{puts_none, puts_same, puts_then, room_same, part_room}
use Rattle.picture.specs.Code.Layout.{level_of, band_count, grid_in, band_size, start_of, window_of, origin_of, strip_of, run_numbers, rest_numbers, LayoutIn, WindowIn, StripIn, RunIn, RunLies}

-- ---- levels
pub level_low : (k n : ℕ) → n ≤ k → level_of k n ≡ n
unfolding level_of
level_low k n h = rw (le-leb n k h)

pub level_high : (k n : ℕ) → k < n → level_of k n ≡ k + 1 + (n - 1 - k) / 3
unfolding level_of
level_high k n h = rw (lt-leb n k h)

pub level_most_lem : (k d n : ℕ) → n < 1 + k + 3 * d → level_of k n ≤ k + d
level_most_lem k d n h = by (dec_le n k)
  where
    by : Dec (n ≤ k) → level_of k n ≤ k + d
    by (yes l) = omega (arith, level_low k n l)
    by (no l) = let g : k < n = omega arith in omega (arith, level_high k n g)

-- ---- sizes
narrower : (b : Bool) (w x y : ℕ) → cond b (w / x) (w / y) ≤ w
narrower true w x y = div-le_self w x
narrower false w x y = div-le_self w y

-- a side halved once more
halves : (w m : ℕ) → w / 2 ^ suc m ≡ w / 2 ^ m / 2
halves w m = ap (λ (x : ℕ). w / x) (pow-suc 2 m) ∙ sym (div-div-eq-div-mul w (2 ^ m) 2)

module _ (l : Layout) (c : Component) where
  pub band_narrow : (n : ℕ) → (band_size l c n).width ≤ c.width
  unfolding band_size
  band_narrow n =
      let t = l.depth_ho + l.depth in
      let level = level_of l.depth_ho n in
      narrower (eqb level 0) c.width (2 ^ t) (2 ^ (t - level + 1))

  pub band-low : (n : ℕ) → (band_size l c n).height ≤ c.height
  unfolding band_size
  band-low n =
      let level = level_of l.depth_ho n in
      narrower (leb level l.depth_ho) c.height (2 ^ l.depth) (2 ^ (l.depth_ho + l.depth - level + 1))

  -- the area whose sides are halved i and j times
  abbrev cut : ℕ → ℕ → ℕ
  cut i j = c.width / 2 ^ i * (c.height / 2 ^ j)

  size_first : area (band_size l c 0) ≡ cut (l.depth_ho + l.depth) l.depth
  unfolding band_size
  size_first = rw (level_low l.depth_ho 0 (omega arith), le-leb 0 l.depth_ho (omega arith))

  size_wide : (n : ℕ) → n < l.depth_ho → area (band_size l c (suc n)) ≡ cut (l.depth_ho + l.depth - n) l.depth
  unfolding band_size
  size_wide n h =
      let b : l.depth_ho + l.depth - suc n + 1 ≡ l.depth_ho + l.depth - n = omega arith in
      rw (level_low l.depth_ho (suc n) h, ne_eqb (suc n) 0 (omega arith), le-leb (suc n) l.depth_ho h, b)

  size_deep : (m n : ℕ) → m < l.depth → l.depth_ho + 3 * m < n → n ≤ l.depth_ho + 3 * m + 3 → area (band_size l c n) ≡ cut (l.depth - m) (l.depth - m)
  unfolding band_size
  size_deep m n h a b =
      let k : ℕ = l.depth_ho in
      let g : k < n = omega arith in
      let i : k + 1 + (n - 1 - k) / 3 ≡ k + 1 + m = omega arith in
      let j : k + l.depth - (k + 1 + m) + 1 ≡ l.depth - m = omega arith in
      rw (level_high k n g ∙ i, ne_eqb (k + 1 + m) 0 (omega arith), lt-leb (k + 1 + m) k (omega arith), j)

  -- ---- where bands begin
  pub start-next : (n : ℕ) → start_of l c (suc n) ≡ start_of l c n + area (band_size l c n)
  unfolding start_of
  start-next n = refl

  pub start_first : start_of l c 0 ≡ 0
  unfolding start_of
  start_first = refl

  start_rises : (m n : ℕ) → start_of l c n ≤ start_of l c (m + n)
  start_rises zero n = let e : 0 + n ≡ n = omega arith in omega (arith, ap (start_of l c) e)
  start_rises (suc m) n =
      let e : suc m + n ≡ suc (m + n) = omega arith in
      omega (arith, ap (start_of l c) e, start-next (m + n), start_rises m n)

  wide-start : (n : ℕ) → n ≤ l.depth_ho → start_of l c (suc n) ≤ cut (l.depth_ho + l.depth - n) l.depth
  wide-start zero h =
      let e : l.depth_ho + l.depth ≡ l.depth_ho + l.depth - 0 = omega arith in
      omega (arith, start-next 0, start_first, size_first, ap (λ (x : ℕ). cut x l.depth) e)
  wide-start (suc n) h =
      let t : ℕ = l.depth_ho + l.depth in
      let e : t - n ≡ suc (t - suc n) = omega arith in
      let y : ℕ = c.height / 2 ^ l.depth in
      let x : ℕ = c.width / 2 ^ (t - suc n) in
      let f : cut (t - n) l.depth ≡ x / 2 * y = ap (λ (x : ℕ). cut x l.depth) e ∙ ap (λ (x : ℕ). x * y) (halves c.width (t - suc n)) in
      omega (arith, start-next (suc n), wide-start n (omega arith), size_wide n h, f, half y x)

  deep_start : (m : ℕ) → m ≤ l.depth → start_of l c (1 + l.depth_ho + 3 * m) ≤ cut (l.depth - m) (l.depth - m)
  deep_start zero h =
      let k : ℕ = l.depth_ho in
      let e : 1 + k + 3 * 0 ≡ suc k = omega arith in
      let f : k + l.depth - k ≡ l.depth - 0 = omega arith in
      let g : l.depth ≡ l.depth - 0 = omega arith in
      omega (arith, ap (start_of l c) e, wide-start k (omega arith), ap₂ cut f g)
  deep_start (suc m) h =
      let n : ℕ = 1 + l.depth_ho + 3 * m in
      let i : ℕ = l.depth - suc m in
      let e : 1 + l.depth_ho + 3 * suc m ≡ suc (suc (suc n)) = omega arith in
      let d : l.depth - m ≡ suc i = omega arith in
      let x : ℕ = c.width / 2 ^ i in
      let y : ℕ = c.height / 2 ^ i in
      let f : cut (l.depth - m) (l.depth - m) ≡ x / 2 * (y / 2) = ap₂ cut d d ∙ ap₂ ◌*◌ (halves c.width i) (halves c.height i) in
      omega (arith, ap (start_of l c) e, start-next n, start-next (suc n), start-next (suc (suc n)), deep_start m (omega arith), size_deep m n h (omega arith) (omega arith), size_deep m (suc n) h (omega arith) (omega arith), size_deep m (suc (suc n)) h (omega arith) (omega arith), f, quarter y x)

  -- every band lies within the padded area
  pub band-fits : (n : ℕ) → n < band_count l → start_of l c n + area (band_size l c n) ≤ c.width * c.height
  band-fits n h =
      let m : ℕ = band_count l - suc n in
      let e : m + suc n ≡ band_count l = omega arith in
      let d : l.depth - l.depth ≡ 0 = omega arith in
      let f : cut (l.depth - l.depth) (l.depth - l.depth) ≡ c.width * c.height = ap₂ cut d d ∙ ap₂ ◌*◌ (div-one c.width) (div-one c.height) in
      omega (arith, start-next n, start_rises m (suc n), ap (start_of l c) e, deep_start l.depth (omega arith), f)

  pub first_most : start_of l c 1 ≤ c.width * c.height
  first_most = omega (arith, start_first, start-next 0, band-fits 0 (omega arith))

  -- level 0 has at most as many numbers as its component
  pub first_fits : (band_size l c 0).height * (band_size l c 0).width ≤ c.width * c.height
  first_fits = omega (arith, band-fits 0 (omega arith), mul_comm (band_size l c 0).width (band_size l c 0).height)

-- ---- slices
module _ {l : Layout} {k : ℕ} (i : LayoutIn l) (h : k < slice_count (grid_in l)) where
  pub row_of : k / l.across < l.down
  row_of = (div-lt_iff_lt-mul {k = l.across} {x = k} {y = l.down} i.across.0).1 h

  pub column-of : k % l.across < l.across
  column-of = mod-lt k i.across.0

-- ---- strips
-- where the second's part of a subband stands, where there is a second
origin_is : (pair : Bool) (second : Component) (start : ℕ) (o : Origin) → cond pair (Some (origin_of second start)) None ≡ Some o → origin_of second start ≡ o
origin_is true second start o e = ap (λ (m : Option Origin). unwrap_or m (origin_of second start)) e
origin_is false second start o e = ap (λ (m : Option Origin). unwrap_or m (origin_of second start)) e

module _ {l : Layout} {c second : Component} {a e k q : ℕ} {w : List ℤ} (h : RunIn l c second a e k q w) where
  pub run_lies : RunLies l c second k q w
  run_lies = record { front = a; end = e; holds = h }

  pub strip_within : (pair : Bool) (n : ℕ) → n < band_count l → Within a e (strip_of l c second pair n (start_of l c n) k q)
  unfolding strip_of
  strip_within pair n b =
      let z = band_size l c n in
      let f = band-fits l c n b in
      let m = mul_comm z.width z.height in
      let start : ℕ = start_of l c n in
      record {
        rows = bound_rises l.down z.height (omega arith);
        columns = bound_rises l.across z.width (omega arith);
        wide = bound-most l.across z.width (suc (k % l.across)) (column-of h.layout h.slice);
        high = bound-most l.down z.height (suc (k / l.across)) (row_of h.layout h.slice);
        rebuilt = omega (arith, f, m, h.rebuilt);
        rebuilt2 = λ o i. omega (arith, f, m, h.rebuilt2, ap (λ (o : Origin). o.rebuilt) (origin_is pair second start o i));
        behind = omega (arith, h.coefs);
        behind2 = λ o i. omega (arith, h.coefs2, ap (λ (o : Origin). o.coefs) (origin_is pair second start o i));
        coefs = omega (arith, f, m, h.coefs);
        coefs2 = λ o i. omega (arith, f, m, h.coefs2, ap (λ (o : Origin). o.coefs) (origin_is pair second start o i));
        factor = refl;
        offset = refl;
        index = omega (arith, h.index);
      }

  strip_lies : (pair : Bool) (n : ℕ) → n < band_count l → Lies w (strip_of l c second pair n (start_of l c n) k q)
  strip_lies pair n b = record { front = a; end = e; holds = (h.small, strip_within pair n b) }

  -- what a strip asks
  pub strip_in : (n start : ℕ) → n < band_count l → start ≡ start_of l c n → StripIn l c second n start k q
  strip_in n start b s = record {
    layout = h.layout;
    first = h.first;
    other = h.other;
    band = b;
    start = omega (arith, s, band-fits l c n b, h.coefs, h.small.few);
    slice = h.slice;
    index = h.index;
  }

-- ---- numbers, band by band
-- what slice k has of the n-th subband, which stands behind those before it
abbrev pub band_strip : Layout → Component → Component → Bool → ℕ → ℕ → ℕ → Strip
band_strip l c second pair k q n = strip_of l c second pair n (start_of l c n) k q

module _ (w : List ℤ) (l : Layout) (c second : Component) (pair : Bool) (k q : ℕ) where
  abbrev pub band_numbers : ℕ → List ℤ
  band_numbers n = strip_numbers w (band_strip l c second pair k q n)

  pub run-chunks : (n : ℕ) → run_numbers w l c second pair k q n ≡ chunks band_numbers n
  unfolding run_numbers chunks
  run-chunks zero = refl
  run-chunks (suc n) = ap (λ (r : List ℤ). r ++ band_numbers n) (run-chunks n)

  pub run_none : run_numbers w l c second pair k q 0 ≡ []
  unfolding run_numbers
  run_none = refl

  pub run-next : (n : ℕ) → run_numbers w l c second pair k q (suc n) ≡ run_numbers w l c second pair k q n ++ band_numbers n
  unfolding run_numbers
  run-next n = refl

  pub run_small : (n : ℕ) → trim.Small (run_numbers w l c second pair k q n)
  unfolding run_numbers
  run_small zero = tt
  run_small (suc n) = small_append (run_numbers w l c second pair k q n) (band_numbers n) (run_small n) (rows_small w (band_strip l c second pair k q n) _ _)

  -- how many numbers a slice has of a band
  abbrev band_part : ℕ → ℕ
  band_part n = part_size (grid_in l) (band_size l c n) k

  band-length : (n : ℕ) → length (band_numbers n) ≤ 2 * band_part n
  unfolding strip_of
  band-length n =
      let s = band_strip l c second pair k q n in
      let x : ℕ = s.right - s.left in
      let y : ℕ = s.bottom - s.top in
      omega (arith, rows-length w s s.top y, mul_assoc y x 2)

  pub run_length : (n : ℕ) → length (run_numbers w l c second pair k q n) ≤ 2 * start_of l c n
  run_length zero = omega (arith, ap length run_none)
  run_length (suc n) =
      omega (arith, ap length (run-next n), length-append (run_numbers w l c second pair k q n) (band_numbers n), run_length n, band-length n, part_size-most (grid_in l) (band_size l c n) k, start-next l c n)

  -- the next band can be counted
  pub run_countable : (t : Cost) (n : ℕ) → n < band_count l → Countable t (2 * (c.width * c.height))
      → let s = band_strip l c second pair k q n in Countable (add_all t (run_numbers w l c second pair k q n)) (2 * ((s.bottom - s.top) * (s.right - s.left)))
  unfolding strip_of
  run_countable t n h u =
      countable_after t (run_numbers w l c second pair k q n) _ _ u (run_small n)
      (omega (arith, run_length n, part_size-most (grid_in l) (band_size l c n) k, band-fits l c n h))

-- ---- windows
-- a window as the code makes it
pub window_is : (l : Layout) (c : Component) (n k : ℕ) (z : Size) (t b x y : ℕ)
    → z ≡ band_size l c n
    → t ≡ bound l.down z.height (k / l.across)
    → b ≡ bound l.down z.height (k / l.across + 1)
    → x ≡ bound l.across z.width (k % l.across)
    → y ≡ bound l.across z.width (k % l.across + 1)
    → record { width = z.width; height = z.height; top = t; bottom = b; left = x; right = y } ≡ window_of l c n k
unfolding window_of
window_is l c n k z t b x y ez et eb ex ey = rw (et, eb, ex, ey, ez, add-one (k / l.across), add-one (k % l.across))

-- the sides of a slice's band and the slice's row and column are small
pub window_small : {l : Layout} {c : Component} {n k : ℕ} {z : Size} → WindowIn l c n k → z ≡ band_size l c n
    → ((z.height ≤ row_limit) × (k / l.across < l.down)) × ((z.width ≤ row_limit) × (k % l.across < l.across))
window_small {l} {c} {n} h e =
    ((rw e (omega (arith, band-low l c n, h.first.height)), row_of h.layout h.slice), (rw e (omega (arith, band_narrow l c n, h.first.width)), column-of h.layout h.slice))

same_third : (i j : ℕ) → i ≡ suc j → (i % 3 ≡ 0 → ⊥) → j / 3 ≡ i / 3
same_third i j e d = omega (arith, d)

-- the subbands of a level are alike
pub window_same : (l : Layout) (c : Component) (n k : ℕ) → l.depth_ho < n → ((n - l.depth_ho) % 3 ≡ 1 → ⊥) → window_of l c (n - 1) k ≡ window_of l c n k
unfolding window_of band_size
window_same l c n k h d =
    let m : ℕ = l.depth_ho in
    let g : m < n - 1 = above n m h d in
    let e : (n - 1 - 1 - m) / 3 ≡ (n - 1 - m) / 3 = same_third (n - 1 - m) (n - 1 - 1 - m) (omega (arith, g)) (rest n m h d) in
    rw (level_high m (n - 1) g ∙ ap (λ (i : ℕ). m + 1 + i) e ∙ sym (level_high m n h))
  where
    rest : (n m : ℕ) → m < n → ((n - m) % 3 ≡ 1 → ⊥) → (n - 1 - m) % 3 ≡ 0 → ⊥
    rest n m h d e = let i : n - m ≡ suc (n - 1 - m) = omega arith in d (rw i (omega (arith, e)))

    above : (n m : ℕ) → m < n → ((n - m) % 3 ≡ 1 → ⊥) → m < n - 1
    above n m h d = by (dec_le n (suc m))
      where
        by : Dec (n ≤ suc m) → m < n - 1
        by (yes l) = let i : n - m ≡ 1 = omega arith in absurd (d (rw i refl))
        by (no l) = omega arith

-- a strip by its window
pub strip_by : (l : Layout) (c second : Component) (pair : Bool) (n start k q : ℕ) (v : Window) (i f o : ℕ) (p : Bool)
    → v ≡ window_of l c n k
    → i ≡ band_index q (get_or l.values n 0)
    → f ≡ quant_factor i
    → o ≡ quant_offset i
    → p ≡ (l.predicted && eqb n 0)
    → record {
      coefs = c.coefs + start;
      rebuilt = c.rebuilt;
      second = cond pair (Some (origin_of second start)) None;
      width = v.width;
      height = v.height;
      top = v.top;
      bottom = v.bottom;
      left = v.left;
      right = v.right;
      index = i;
      factor = f;
      offset = o;
      predicted = p;
    } ≡ strip_of l c second pair n start k q
unfolding strip_of window_of
strip_by l c second pair n start k q v i f o p ev ei ef eo ep = rw (ep, ef, eo, ev, ei)

-- the window of the band before the n-th, at first and in each turn of a loop
pub window-first : (l : Layout) (c : Component) (k : ℕ) (v : Window) → v ≡ window_of l c 0 k → v ≡ window_of l c (0 - 1) k
window-first l c k v e = let d : 0 ≡ 0 - 1 = omega arith in e ∙ ap (λ (n : ℕ). window_of l c n k) d

pub window-turn : (l : Layout) (c : Component) (n k : ℕ) (v : Window) → v ≡ window_of l c n k → v ≡ window_of l c (n + 1 - 1) k
window-turn l c n k v e = let d : n ≡ n + 1 - 1 = omega arith in e ∙ ap (λ (n : ℕ). window_of l c n k) d

-- the first subband's area
pub window-area : (l : Layout) (c : Component) (k : ℕ) (v : Window) → v ≡ window_of l c 0 k → v.width * v.height ≡ start_of l c 1
unfolding window_of
window-area l c k v e =
    let f : area (band_size l c 0) ≡ start_of l c 1 = omega (arith, start_first l c, start-next l c 0) in
    ap (λ (v : Window). v.width * v.height) e ∙ f

pub window_few : {l : Layout} {c second : Component} {a e k q : ℕ} {w : List ℤ} → RunIn l c second a e k q w → (v : Window) → v ≡ window_of l c 0 k → v.width * v.height < 2 ^ 30
window_few {l} {c} {second} {a} {e} {k} h v d =
    omega (arith, window-area l c k v d, start_first l c, start-next l c 0, band-fits l c 0 (omega arith), h.coefs, h.small.few)

-- what a window asks
module _ {l : Layout} {c second : Component} {k q : ℕ} where
  pub run-window : {a e : ℕ} {w : List ℤ} → RunIn l c second a e k q w → (n : ℕ) → n < band_count l → WindowIn l c n k
  run-window h n b = record { layout = h.layout; first = h.first; band = b; slice = h.slice }

-- ---- turns of the loops over the bands
module _ (l : Layout) (c second : Component) (pair : Bool) (k q : ℕ) where
  -- the strip that the code makes
  pub strip_from : (s : Strip) (n start : ℕ) → s ≡ strip_of l c second pair n start k q → start ≡ start_of l c n → s ≡ band_strip l c second pair k q n
  strip_from s n start e d = e ∙ ap (λ (x : ℕ). strip_of l c second pair n x k q) d

  pub start-turn : (s : Strip) (n start : ℕ) → s ≡ strip_of l c second pair n start k q → start ≡ start_of l c n → start + s.width * s.height ≡ start_of l c (n + 1)
  unfolding strip_of
  start-turn s n start e d =
      let f : suc n ≡ n + 1 = omega arith in
      ap₂ (λ (x : ℕ) (s : Strip). x + s.width * s.height) d e ∙ sym (start-next l c n) ∙ ap (start_of l c) f

module _ (w : List ℤ) (l : Layout) (c second : Component) (pair : Bool) (k q : ℕ) where
  pub run-turn : (n : ℕ) → run_numbers w l c second pair k q n ++ band_numbers w l c second pair k q n ≡ run_numbers w l c second pair k q (n + 1)
  run-turn n = let f : suc n ≡ n + 1 = omega arith in sym (run-next w l c second pair k q n) ∙ ap (run_numbers w l c second pair k q) f

  -- the cost of the subbands so far
  pub cost-none : (t : Cost) → t ≡ add_all t (run_numbers w l c second pair k q 0)
  cost-none t = sym (ap (add_all t) (run_none w l c second pair k q) ∙ added_none add1 t)

  pub cost-turn : (t r u : Cost) (s : Strip) (n : ℕ) → s ≡ band_strip l c second pair k q n → r ≡ add_all t (run_numbers w l c second pair k q n)
      → u ≡ add_all r (strip_numbers w s) → u ≡ add_all t (run_numbers w l c second pair k q (n + 1))
  cost-turn t r u s n e d f =
      f ∙ ap₂ (λ (r : Cost) (s : Strip). add_all r (strip_numbers w s)) d e
      ∙ sym (added-append add1 t (run_numbers w l c second pair k q n) (band_numbers w l c second pair k q n)) ∙ ap (add_all t) (run-turn n)

  -- the bits written of the subbands so far
  pub put-none : {o : List ℕ} {p : Put} {n : ℕ} → Room o p.writer n → Puts o p (run_numbers w l c second pair k q 0) o p
  put-none r = puts_same (sym (run_none w l c second pair k q)) (puts_none r)

  pub put-turn : {o o' o'' : List ℕ} {p p' p'' : Put} (s : Strip) (n : ℕ) → s ≡ band_strip l c second pair k q n → Sound p.writer
      → Puts o p (run_numbers w l c second pair k q n) o' p' → Puts o' p' (strip_numbers w s) o'' p'' → Puts o p (run_numbers w l c second pair k q (n + 1)) o'' p''
  put-turn s n e sound a b = puts_same (run-turn n) (puts_then sound a (puts_same (ap (strip_numbers w) e) b))

  module _ {a e : ℕ} (h : RunIn l c second a e k q w) (s : Strip) (n : ℕ) (b : n < band_count l) where
    -- starts and areas are small
    pub start_small : (start : ℕ) → s ≡ strip_of l c second pair n start k q → start ≡ start_of l c n → start + s.width * s.height < 2 ^ 30
    start_small start d f =
        let g : start + s.width * s.height ≡ start_of l c (n + 1) = start-turn l c second pair k q s n start d f in
        let i : n + 1 ≡ suc n = omega arith in
        omega (arith, g, ap (start_of l c) i, start-next l c n, band-fits l c n b, h.coefs, h.small.few)

    pub cost_ready : (t r : Cost) → s ≡ band_strip l c second pair k q n → r ≡ add_all t (run_numbers w l c second pair k q n)
        → Countable t (2 * (c.width * c.height))
        → Lies w s × Countable r (2 * ((s.bottom - s.top) * (s.right - s.left)))
    cost_ready t r d f u = rw (f, d) (strip_lies h pair n b, run_countable w l c second pair k q t n b u)

    pub put_ready : {o o' : List ℕ} {p p' : Put} → s ≡ band_strip l c second pair k q n → RoomFor o p (run_numbers w l c second pair k q (band_count l))
        → Puts o p (run_numbers w l c second pair k q n) o' p' → RoomFor o' p' (strip_numbers w s) × Lies w s
    put_ready {p = p} d r u =
        rw d (
          part_room (band_numbers w l c second pair k q) (band_count l) n b (room_same p _ _ (run-chunks w l c second pair k q (band_count l)) r)
              (puts_same (run-chunks w l c second pair k q n) u),
          strip_lies h pair n b,
        )

-- ---- the first subband, and the others
module _ (w : List ℤ) (l : Layout) (c second : Component) (pair : Bool) (k q : ℕ) where
  -- the strip of level 0
  abbrev pub first_strip : Strip
  first_strip = strip_of l c second pair 0 0 k q

  pub rest_none : rest_numbers w l c second pair k q 0 ≡ []
  unfolding rest_numbers
  rest_none = refl

  rest_next : (n : ℕ) → rest_numbers w l c second pair k q (suc n) ≡ rest_numbers w l c second pair k q n ++ band_numbers w l c second pair k q (suc n)
  unfolding rest_numbers
  rest_next n = refl

  pub run-first : (n : ℕ) → run_numbers w l c second pair k q (suc n) ≡ strip_numbers w first_strip ++ rest_numbers w l c second pair k q n
  unfolding start_of
  run-first zero =
      run-next w l c second pair k q 0 ∙ ap (λ (r : List ℤ). r ++ strip_numbers w first_strip) (run_none w l c second pair k q)
      ∙ sym (ap (λ (r : List ℤ). strip_numbers w first_strip ++ r) rest_none ∙ append-nil (strip_numbers w first_strip))
  run-first (suc n) =
      run-next w l c second pair k q (suc n)
      ∙ ap (λ (r : List ℤ). r ++ band_numbers w l c second pair k q (suc n)) (run-first n)
      ∙ append_assoc (strip_numbers w first_strip) (rest_numbers w l c second pair k q n) (band_numbers w l c second pair k q (suc n))
      ∙ ap (λ (r : List ℤ). strip_numbers w first_strip ++ r) (sym (rest_next n))

  pub run_rest : run_numbers w l c second pair k q (band_count l) ≡ strip_numbers w first_strip ++ rest_numbers w l c second pair k q (band_count l - 1)
  run_rest =
      let e : band_count l ≡ suc (band_count l - 1) = omega arith in
      ap (run_numbers w l c second pair k q) e ∙ run-first (band_count l - 1)

  pub rest_small : (n : ℕ) → trim.Small (rest_numbers w l c second pair k q n)
  unfolding rest_numbers
  rest_small zero = tt
  rest_small (suc n) = small_append (rest_numbers w l c second pair k q n) (band_numbers w l c second pair k q (suc n)) (rest_small n) (rows_small w (band_strip l c second pair k q (suc n)) _ _)

  rest_length : (n : ℕ) → length (rest_numbers w l c second pair k q n) + 2 * start_of l c 1 ≤ 2 * start_of l c (suc n)
  rest_length zero = omega (arith, ap length rest_none)
  rest_length (suc n) =
      omega (arith, ap length (rest_next n), length-append (rest_numbers w l c second pair k q n) (band_numbers w l c second pair k q (suc n)), rest_length n, band-length w l c second pair k q (suc n), part_size-most (grid_in l) (band_size l c (suc n)) k, start-next l c (suc n))

  pub first_length : length (strip_numbers w first_strip) ≤ 2 * start_of l c 1
  first_length =
      let xs = strip_numbers w first_strip in
      omega (arith, ap length (run-first 0), length-append xs (rest_numbers w l c second pair k q 0), run_length w l c second pair k q 1)

  -- the first subband and the others are all
  pub added_whole : {A : Type 0} (step : A → ℤ → A) (t f u : A) → f ≡ added step t (strip_numbers w first_strip)
      → u ≡ added step f (rest_numbers w l c second pair k q (band_count l - 1)) → u ≡ added step t (run_numbers w l c second pair k q (band_count l))
  added_whole {A} step t f u e d =
      d ∙ ap (λ (f : A). added step f (rest_numbers w l c second pair k q (band_count l - 1))) e
      ∙ sym (added-append step t (strip_numbers w first_strip) (rest_numbers w l c second pair k q (band_count l - 1))) ∙ ap (added step t) (sym run_rest)

  -- the tally of the subbands so far
  pub first_addable : {a e : ℕ} → RunIn l c second a e k q w → c.width * c.height ≤ area_limit → (t : Tally) → t ≡ tally_all no_tally (strip_numbers w first_strip)
      → Addable t (2 * (c.width * c.height))
  first_addable h m t e =
      let xs = strip_numbers w first_strip in
      rw e (counted_after tally_counts no_tally xs (4 * (c.width * c.height)) (2 * (c.width * c.height)) (record { bits = omega arith; count = omega (arith, m) })
      (rows_small w first_strip _ _)
      (omega (arith, first_length, first_most l c)))

  pub tally_whole : (t f : Tally) → f ≡ tally_all no_tally (strip_numbers w first_strip) → t ≡ tally_all f (rest_numbers w l c second pair k q (band_count l - 1))
      → TallyOf (run_numbers w l c second pair k q (band_count l)) t
  tally_whole t f e d =
      tally_of_lem (run_numbers w l c second pair k q (band_count l)) t (added_whole tally1 no_tally f t e d)

  module _ {A : Type 0} (step : A → ℤ → A) where
    pub rest-added-none : (t : A) → t ≡ added step t (rest_numbers w l c second pair k q (1 - 1))
    rest-added-none t = added-start step t (rest_numbers w l c second pair k q) 1 rest_none

    pub rest-added-turn : (t r u : A) (s : Strip) (n : ℕ) → 1 ≤ n → s ≡ band_strip l c second pair k q n → r ≡ added step t (rest_numbers w l c second pair k q (n - 1))
        → u ≡ added step r (strip_numbers w s) → u ≡ added step t (rest_numbers w l c second pair k q (n + 1 - 1))
    rest-added-turn t r u s n h e d f =
        let bands = band_numbers w l c second pair k q in
        let rest = rest_numbers w l c second pair k q in
        added-turn step t r u rest bands 1 n h (λ m. let i : suc m ≡ 1 + m = omega arith in rest_next m ∙ ap (λ (i : ℕ). rest m ++ bands i) i) d
        (f ∙ ap (λ (s : Strip). added step r (strip_numbers w s)) e)

  pub tally_none : (t : Tally) → t ≡ tally_all t (rest_numbers w l c second pair k q (1 - 1))
  tally_none = rest-added-none tally1

  pub tally_turn : (t r u : Tally) (s : Strip) (n : ℕ) → 1 ≤ n → s ≡ band_strip l c second pair k q n → r ≡ tally_all t (rest_numbers w l c second pair k q (n - 1))
      → u ≡ tally_all r (strip_numbers w s) → u ≡ tally_all t (rest_numbers w l c second pair k q (n + 1 - 1))
  tally_turn = rest-added-turn tally1

  module _ {a e : ℕ} (h : RunIn l c second a e k q w) (s : Strip) (n : ℕ) (b : n < band_count l) where
    -- what the next band asks
    pub rest_ready : {A : Type 0} {step : A → ℤ → A} {bits count : A → ℕ} → Counts step bits count → (t r : A) → 1 ≤ n → s ≡ band_strip l c second pair k q n
        → r ≡ added step t (rest_numbers w l c second pair k q (n - 1))
        → Counted (bits t) (count t) (2 * (c.width * c.height - start_of l c 1))
        → Lies w s × ((s.predicted ≡ false) × Counted (bits r) (count r) (2 * ((s.bottom - s.top) * (s.right - s.left))))
    unfolding strip_of
    rest_ready i t r g d f u =
        let m : suc (n - 1) ≡ n = omega arith in
        rw (f, d) (
          strip_lies h pair n b,
          (
            ap (λ (b : Bool). l.predicted && b) (ne_eqb n 0 (omega arith)) ∙ and-false l.predicted,
            counted_after i t (rest_numbers w l c second pair k q (n - 1)) _ _ u (rest_small (n - 1))
                (omega (arith, rest_length (n - 1), ap (start_of l c) m, part_size-most (grid_in l) (band_size l c n) k, band-fits l c n b)),
          ),
        )

    pub tally_ready : (t r : Tally) → 1 ≤ n → s ≡ band_strip l c second pair k q n → r ≡ tally_all t (rest_numbers w l c second pair k q (n - 1))
        → Addable t (2 * (c.width * c.height))
        → PlainLies w s × Addable r (2 * ((s.bottom - s.top) * (s.right - s.left)))
    tally_ready t r g d f u =
        let d2 = rest_ready tally_counts t r g d f (counted_fewer u (omega arith)) in
        (record { front = a; end = e; holds = record { small = h.small; within = rw d (strip_within h pair n b); plain = d2.1.0 } }, d2.1.1)

-- the strip of level 0
pub first-within : {l : Layout} {c second : Component} {a e k q : ℕ} {w : List ℤ} → RunIn l c second a e k q w → (pair : Bool) (s : Strip) → s ≡ strip_of l c second pair 0 0 k q → Within a e s
unfolding start_of
first-within h pair s e = rw e (strip_within h pair 0 (omega arith))

pub first_lies : {l : Layout} {c second : Component} {a e k q : ℕ} {w : List ℤ} → RunIn l c second a e k q w → (pair : Bool) (s : Strip) → s ≡ strip_of l c second pair 0 0 k q → Lies w s
first_lies h pair s e = record { front = _; end = _; holds = (h.small, first-within h pair s e) }

-- the first strip has no more numbers than its subband
pub first_part : (l : Layout) (c second : Component) (pair : Bool) (k q : ℕ) (s : Strip) → s ≡ strip_of l c second pair 0 0 k q → (s.bottom - s.top) * (s.right - s.left) ≤ start_of l c 1
unfolding start_of strip_of
first_part l c second pair k q s e = rw e (omega (arith, part_size-most (grid_in l) (band_size l c 0) k))

-- the numbers of the first strip can be counted
pub first_ready : (w : List ℤ) (l : Layout) (c second : Component) (pair : Bool) (k q : ℕ) {a e : ℕ} → RunIn l c second a e k q w → (s : Strip)
    → c.width * c.height ≤ area_limit → s ≡ strip_of l c second pair 0 0 k q
    → Lies w s × Countable (no_cost 0) (2 * ((s.bottom - s.top) * (s.right - s.left)))
unfolding start_of strip_of
first_ready w l c second pair k q h s m e =
    (first_lies h pair s e, record { bits = omega arith; count = rw e (omega (arith, m, part_size-most (grid_in l) (band_size l c 0) k, band-fits l c 0 (omega arith))) })
