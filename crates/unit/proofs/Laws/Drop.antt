-- Which slices can drop numbers, and which are cut.
use Rattle.std.specs.Prelude.{◌≡◌, refl, ◌↔◌, Bool, true, false, not, cond, List, [], ◌∷◌, map, ℤ, length}
use Rattle.std.proofs.Common.{sym, ◌∙◌, leb-true}
use Rattle.std.proofs.Math.Path.{ap}
use Prim.Native.Nat.{ℕ, zero, suc, ◌+◌, ◌/◌, ◌≤◌}
use native.Mathlib.Omega.{arith}
use Rattle.std.proofs.Math.Decide.{dec_le}
use Rattle.std.proofs.lemmas.Bool.{not-false}
use Rattle.laws.specs.Plane.{Plane}
use Rattle.laws.specs.Rows.{span, total}
use Rattle.wavelet.specs.Planes.{Band}
use Rattle.unit.specs.declared.Settings.{Settings}
use Rattle.unit.specs.declared.PictureKind.{PictureKind}
use Rattle.unit.specs.declared.PictureKind.TheVariants.{LowDelay, HighQuality}
use Rattle.unit.specs.Three.{Three}
use Rattle.unit.specs.Sizes.{Size}
use Rattle.unit.specs.Slices.{Grid, slice_count}
use Rattle.unit.specs.Matrix.{matrix_values}
use Rattle.unit.specs.Coefficients.{coefficients_of}
use Rattle.unit.specs.Quantised.{size_of}
use Rattle.unit.specs.Plan.{SlicePlan}
use Rattle.unit.specs.LowDelay.{slice_bytes, room_of, low_numbers, low_left, low_fits, low_index, low_plan, low_plan_of, low_slices, zero_planes}
use Rattle.unit.specs.HighQuality.{high_plan}
use Rattle.unit.specs.Unit.{grid_of, numerator_of, plan_by, plan_of}
use Rattle.unit.specs.Cut.{is_cut, cut_of, cut_count}
use Rattle.unit.specs.Reader.{number_count}
use Rattle.unit.specs.Demand.{All, bytes_of, Undropped, LowDrops, Drops}
use Rattle.unit.specs.Code.Valid.{Valid}
use Rattle.unit.proofs.Laws.Subband.{sizes-of}
use Rattle.unit.proofs.Laws.Slice.{counted-low}
use Rattle.unit.proofs.Laws.LowDelay.{bytes_some, low-length, low-whole, low-index, low_fits_lem}
use Rattle.unit.proofs.Laws.Cut.{whole_uncut, low-cut}
use Rattle.unit.proofs.Laws.Test.{no_truth}
use Rattle.unit.proofs.Laws.Soundness.{numerator-some}
use Rattle.unit.proofs.Laws.Valid.{slice_count_lem}

-- a reader gets a slice's numbers as they were quantised
abbrev pub Whole : SlicePlan → Type 0
Whole a = a.kept ≡ a.numbers

-- a slice is cut just where it is not whole, and a cut one carries index 127
pub record Cuts (a : SlicePlan) : Type 0 where
  pub whole : (is_cut a ≡ false) ↔ Whole a
  pub last : is_cut a ≡ true → a.index ≡ 127

-- ---- low delay
module _ (g : Grid) (m : List ℕ) (b : Three (List Band)) where
  -- what holds of slice k at its own index, whatever the planes before it, holds of all slices
  all_low : (P : SlicePlan → Type 0) (n : ℕ)
      → ((r : Three Plane) (k : ℕ) → let z = slice_bytes n (slice_count g) k in P (low_plan g m b z r k (low_index g m b z r k)))
      → (r : Three Plane) (k j : ℕ) → All P (low_slices g m b n r k j)
  unfolding low_slices
  all_low P n f r k zero = tt
  all_low P n f r k (suc j) = (f r k, all_low P n f (low_left g m b r k (low_index g m b (slice_bytes n (slice_count g) k) r k)) (suc k) j)

  module _ (alike : map size_of b.c1 ≡ map size_of b.c2) where
    -- as many numbers of one colour as of the other
    colours_many : (r : Three Plane) (k q : ℕ) → let z = low_numbers g m b r k q in length z.c1 ≡ length z.c2
    colours_many r k q =
        (counted-low g m b.c1 r.c1 q k).many ∙ ap (λ (zs : List Size). number_count g zs k) alike ∙ sym (counted-low g m b.c2 r.c2 q k).many

    -- slice k of n bytes at index q is cut just where it does not fit
    pub cut_unfit : (r : Three Plane) (n k q : ℕ) → is_cut (low_plan g m b n r k q) ≡ not (low_fits g m b (room_of n) r k q)
    unfolding low_plan
    cut_unfit r n k q = low-cut g m b n q (low_numbers g m b r k q) (colours_many r k q)

    low-drop : (n : ℕ) → 1 ≤ slice_count g → slice_count g ≤ n → (r : Three Plane) (k : ℕ)
        → let z = slice_bytes n (slice_count g) k in LowDrops (low_plan g m b z r k (low_index g m b z r k))
    unfolding low_plan
    low-drop n a h r k =
        let z = slice_bytes n (slice_count g) k in
        let q = low_index g m b z r k in
        let x = low_numbers g m b r k q in
        let e : bytes_of (low_plan_of g m b z q x) ≡ z = ap (λ (x : ℕ). x / 8) (low-length g m b z q x (bytes_some n (slice_count g) k a h)) ∙ omega arith in
        record {
          whole = λ f. low-whole g m b z q x (colours_many r k q) (rw e at f);
          fits = λ i. rw e (low_fits_lem g m b z r k i);
        }

    cuts_low : (n : ℕ) (r : Three Plane) (k : ℕ) → let z = slice_bytes n (slice_count g) k in Cuts (low_plan g m b z r k (low_index g m b z r k))
    unfolding low_plan
    cuts_low n r k = record { whole = (λ e. low-whole g m b z q x (colours_many r k q) (leb-true _ (room_of z) (not-false _ (sym c ∙ e))), whole_uncut a); last = by (dec_le 127 q) }
      where
        z : ℕ
        z = slice_bytes n (slice_count g) k

        q : ℕ
        q = low_index g m b z r k

        x : Three (List ℤ)
        x = low_numbers g m b r k q

        a : SlicePlan
        a = low_plan_of g m b z q x

        c : is_cut a ≡ not (low_fits g m b (room_of z) r k q)
        c = cut_unfit r z k q

        by : Dec (127 ≤ q) → is_cut a ≡ true → q ≡ 127
        by (yes h) e = omega (arith, low-index g m b z r k)
        by (no h) e = no_truth (sym e ∙ whole_uncut a (low-whole g m b z q x (colours_many r k q) (low_fits_lem g m b z r k (omega arith))))

-- ---- high quality
pub all_high : (P : SlicePlan → Type 0) (f : ℕ → SlicePlan) → ((k : ℕ) → P (f k)) → (k j : ℕ) → All P (span f k j)
all_high P f e k zero = tt
all_high P f e k (suc j) = (e k, all_high P f e (suc k) j)

cuts_high : (a : SlicePlan) → Whole a → Cuts a
cuts_high a k = record { whole = (λ e. k, whole_uncut a); last = λ e. no_truth (sym e ∙ whole_uncut a k) }

-- ---- a call
-- the colours' subbands are of the same sizes
pub alike_of : (s : Settings) (p : Three (List ℕ)) → map size_of (coefficients_of s p).c1 ≡ map size_of (coefficients_of s p).c2
unfolding coefficients_of
alike_of s p = sizes-of s _ _ p.c1 ∙ sym (sizes-of s _ _ p.c2)

module _ (s : Settings) (m : List ℕ) (p : Three (List ℕ)) where
  abbrev slices : PictureKind → List SlicePlan
  slices kind = (plan_by s m kind (coefficients_of s p)).slices

  low_of : (P : SlicePlan → Type 0)
      → ((r : Three Plane) (k : ℕ)
      → let g = grid_of s in let v = matrix_values s m in let b = coefficients_of s p in let z = slice_bytes (numerator_of s m) (slice_count g) k in
      P (low_plan g v b z r k (low_index g v b z r k)))
      → All P (slices LowDelay)
  low_of P f = all_low (grid_of s) (matrix_values s m) (coefficients_of s p) P (numerator_of s m) f zero_planes 0 (slice_count (grid_of s))

  drops_by : (work : List ℤ) → Valid s m p work → (kind : PictureKind) → All (Drops kind) (slices kind)
  unfolding high_plan
  drops_by work v LowDelay =
      low_of LowDrops (low-drop (grid_of s) (matrix_values s m) (coefficients_of s p) (alike_of s p) (numerator_of s m) (slice_count_lem v).some (numerator-some s m p work v))
  drops_by work v HighQuality = all_high Whole _ (λ k. refl) 0 (slice_count (grid_of s))

  pub drops_of : (work : List ℤ) → Valid s m p work → All (Drops s.kind) (plan_of s m p).slices
  unfolding plan_of
  drops_of work v = drops_by work v s.kind

  cuts_by : (kind : PictureKind) → All Cuts (slices kind)
  unfolding high_plan
  cuts_by LowDelay = low_of Cuts (cuts_low (grid_of s) (matrix_values s m) (coefficients_of s p) (alike_of s p) (numerator_of s m))
  cuts_by HighQuality = all_high Cuts _ (λ k. cuts_high _ refl) 0 (slice_count (grid_of s))

  pub cuts_of : All Cuts (plan_of s m p).slices
  unfolding plan_of
  cuts_of = cuts_by s.kind

-- no slice counts as cut just where every slice is whole
count_whole : (ss : List SlicePlan) → All Cuts ss → total (map cut_of ss) ≡ 0 → All Whole ss
count_whole [] c e = tt
count_whole (a ∷ ss) c e = by (is_cut a) refl e (count_whole ss c.1)
  where
    by : (t : Bool) → is_cut a ≡ t → cond t 1 0 + total (map cut_of ss) ≡ 0 → (total (map cut_of ss) ≡ 0 → All Whole ss)
        → All Whole (a ∷ ss)
    by true f e r = absurd (omega arith)
    by false f e r = (c.0.whole.0 f, r (omega arith))

pub whole_count : (ss : List SlicePlan) → All Whole ss → total (map cut_of ss) ≡ 0
whole_count [] h = refl
whole_count (a ∷ ss) h = rw (whole_uncut a h.0) (omega (arith, whole_count ss h.1))

module _ (s : Settings) (m : List ℕ) (p : Three (List ℕ)) where
  -- the count is 0 just where no slice has dropped a number that is not 0
  pub cut-none : (cut_count (plan_of s m p) ≡ 0) ↔ Undropped (plan_of s m p)
  unfolding cut_count
  cut-none = (count_whole (plan_of s m p).slices (cuts_of s m p), whole_count (plan_of s m p).slices)

  -- document 01: "it is 0 in high quality"
  pub high-none : s.kind ≡ HighQuality → cut_count (plan_of s m p) ≡ 0
  unfolding plan_of cut_count high_plan
  high-none e =
      ap (λ (k : PictureKind). total (map cut_of (slices s m p k))) e
      ∙ whole_count (slices s m p HighQuality) (all_high Whole _ (λ k. refl) 0 (slice_count (grid_of s)))
