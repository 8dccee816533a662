-- The slices of a plan, low delay and high quality alike: slice k has its component's numbers at the indices of the
-- slices up to it. So what is read of a unit's slices is near the coefficients that the plan was made of.
use Rattle.std.specs.Prelude.{◌≡◌, ℤ, length, get_or}
use Rattle.std.proofs.Math.Path.{refl, ap, fun_ext}
use Rattle.std.proofs.Common.{sym, ap₂, ◌∙◌, zero-add, arith}
use mathlib.Core.List.{List, [], ◌∷◌, map}
use Prim.Native.Nat.{ℕ, zero, suc, ◌^◌, ◌<◌}
use Rattle.laws.specs.Plane.{Plane}
use Rattle.laws.specs.Rows.{span}
use Rattle.laws.specs.Laws.Rows.{length-span, get_or-span, map-span}
use Rattle.wavelet.specs.Planes.{Band}
use Rattle.unit.specs.declared.PictureKind.{PictureKind}
use Rattle.unit.specs.declared.PictureKind.TheVariants.{LowDelay, HighQuality}
use Rattle.unit.specs.declared.RateControl.{RateControl}
use Rattle.unit.specs.declared.Settings.{Settings}
use Rattle.unit.specs.Three.{Three}
use Rattle.unit.specs.Sizes.{Size}
use Rattle.unit.specs.Slices.{Grid, slice_count}
use Rattle.unit.specs.Quantised.{size_of, numbers_ld, left_ld}
use Rattle.unit.specs.Plan.{SlicePlan}
use Rattle.unit.specs.LowDelay.{slice_bytes, low_numbers, low_left, low_index, low_plan, low_slices, zero_plane, zero_planes}
use Rattle.unit.specs.HighQuality.{high_numbers, high_index, high_plan, high_slices}
use Rattle.unit.specs.Matrix.{matrix_values}
use Rattle.unit.specs.Coefficients.{coefficients_of}
use Rattle.unit.specs.Unit.{grid_of, numerator_of, high_bytes, scaler_of, plan_by, plan_of}
use Rattle.unit.specs.Reader.{SliceRead, Reading, grid_in, band_sizes_in, empty_slice, values_in, read_bands_by, read_bands_of, read_bands}
use Rattle.unit.specs.Demand.{All, SameSlices, NearBands}
use Rattle.unit.proofs.Laws.Rebuilt.{state_at}
use Rattle.unit.proofs.Laws.Near.{numbers_by, numbers_by_cong, ReadBands, EqualBands, near_bands, equal_bands, bands-read}
use Rattle.wavelet.specs.Laws.PlaneBound.{AllSmall}

-- ---- one of three
pub data Component : Type 0 where
  Y C1 C2 : Component

abbrev pub pick : {A : Type 0} → Component → Three A → A
pick Y t = t.y
pick C1 t = t.c1
pick C2 t = t.c2

-- ---- slices
abbrev pub empty_plan : SlicePlan
empty_plan = record { index = 0; numbers = record { y = []; c1 = []; c2 = [] }; kept = record { y = []; c1 = []; c2 = [] }; bits = [] }

abbrev pub plan_at : List SlicePlan → ℕ → SlicePlan
plan_at ps k = get_or ps k empty_plan

abbrev pub index_in : List SlicePlan → ℕ → ℕ
index_in ps k = get_or (map (λ (s : SlicePlan). s.index) ps) k 0

-- The slices ps are a kind's slices of the coefficients b.
pub record Planned (kind : PictureKind) (g : Grid) (m : List ℕ) (b : Three (List Band)) (ps : List SlicePlan) : Type 0 where
  pub many : length ps ≡ slice_count g
  pub numbers : (c : Component) (k : ℕ) → k < slice_count g → pick c (plan_at ps k).numbers ≡ numbers_by kind g m (pick c b) (index_in ps) k

module _ (f : ℕ → SlicePlan) (n : ℕ) where
  pub plan-span : (k : ℕ) → k < n → plan_at (span f 0 n) k ≡ f k
  plan-span k h = get_or-span f 0 n k empty_plan h ∙ ap f (zero-add k)

  pub index-span : (k : ℕ) → k < n → index_in (span f 0 n) k ≡ (f k).index
  index-span k h =
      ap (λ (l : List ℕ). get_or l k 0) (map-span (λ (s : SlicePlan). s.index) f 0 n)
      ∙ get_or-span (λ k. (f k).index) 0 n k 0 h ∙ ap (λ (j : ℕ). (f j).index) (zero-add k)

-- slices that are given one by one
pub planned_span : (kind : PictureKind) (g : Grid) (m : List ℕ) (b : Three (List Band)) (f : ℕ → SlicePlan)
    → ((c : Component) (k : ℕ) → pick c (f k).numbers ≡ numbers_by kind g m (pick c b) (λ j. (f j).index) k) → Planned kind g m b (span f 0 (slice_count g))
planned_span kind g m b f e = record {
  many = length-span f 0 (slice_count g);
  numbers = λ c k hk.
      ap (λ (s : SlicePlan). pick c s.numbers) (plan-span f (slice_count g) k hk)
      ∙ e c k
      ∙ numbers_by_cong kind g m (pick c b) (λ j. (f j).index) (index_in (span f 0 (slice_count g))) k (λ j h. sym (index-span f (slice_count g) j (omega arith)));
}

-- ---- high quality
module _ (g : Grid) (m : List ℕ) (b : Three (List Band)) (p : ℕ) (r : RateControl) (c n : ℕ) where
  abbrev high_at : ℕ → SlicePlan
  high_at k = high_plan g m b p c k (high_index g m b p r c n k)

  high_numbers_lem : (d : Component) (k : ℕ) → pick d (high_at k).numbers ≡ numbers_by HighQuality g m (pick d b) (λ j. (high_at j).index) k
  unfolding high_plan high_numbers
  high_numbers_lem Y k = refl
  high_numbers_lem C1 k = refl
  high_numbers_lem C2 k = refl

  pub high_planned : Planned HighQuality g m b (high_slices g m b p r c n)
  high_planned = planned_span HighQuality g m b high_at high_numbers_lem

-- ---- low delay
-- the rebuilt planes that slices 0 to k - 1 leave
unfoldable pub low_state : Grid → List ℕ → Three (List Band) → ℕ → ℕ → Three Plane
low_state g m b n zero = zero_planes
low_state g m b n (suc k) = let r = low_state g m b n k in low_left g m b r k (low_index g m b (slice_bytes n (slice_count g) k) r k)

module _ (g : Grid) (m : List ℕ) (b : Three (List Band)) (n : ℕ) where
  -- the index of slice k
  abbrev pub low_elected : ℕ → ℕ
  low_elected k = low_index g m b (slice_bytes n (slice_count g) k) (low_state g m b n k) k

  abbrev pub low_at : ℕ → SlicePlan
  low_at k = low_plan g m b (slice_bytes n (slice_count g) k) (low_state g m b n k) k (low_elected k)

  pub low-span : (k j : ℕ) → low_slices g m b n (low_state g m b n k) k j ≡ span low_at k j
  unfolding low_slices low_state
  low-span k zero = refl
  low-span k (suc j) = ap (λ (ps : List SlicePlan). low_at k ∷ ps) (low-span (suc k) j)

  zero-pick : (c : Component) → pick c zero_planes ≡ zero_plane
  zero-pick Y = refl
  zero-pick C1 = refl
  zero-pick C2 = refl

  left-pick : (c : Component) (r : Three Plane) (k q : ℕ) → pick c (low_left g m b r k q) ≡ left_ld g m (pick c b) (pick c r) q k
  left-pick Y r k q = refl
  left-pick C1 r k q = refl
  left-pick C2 r k q = refl

  numbers_pick : (c : Component) (r : Three Plane) (k q : ℕ) → pick c (low_numbers g m b r k q) ≡ numbers_ld g m (pick c b) (pick c r) q k
  numbers_pick Y r k q = refl
  numbers_pick C1 r k q = refl
  numbers_pick C2 r k q = refl

  -- of each component these are the planes that its slices leave at the elected indices
  pub state_pick : (c : Component) (k : ℕ) → pick c (low_state g m b n k) ≡ state_at g m (pick c b) low_elected k
  unfolding low_state state_at
  state_pick c zero = zero-pick c
  state_pick c (suc k) =
      left-pick c (low_state g m b n k) k (low_elected k) ∙ ap (λ (r : Plane). left_ld g m (pick c b) r (low_elected k) k) (state_pick c k)

  low_numbers_lem : (c : Component) (k : ℕ) → pick c (low_at k).numbers ≡ numbers_by LowDelay g m (pick c b) (λ j. (low_at j).index) k
  unfolding low_plan
  low_numbers_lem c k =
      numbers_pick c (low_state g m b n k) k (low_elected k) ∙ ap (λ (r : Plane). numbers_ld g m (pick c b) r (low_elected k) k) (state_pick c k)

  pub low_planned : Planned LowDelay g m b (low_slices g m b n zero_planes 0 (slice_count g))
  unfolding low_state
  low_planned = rw (low-span 0 (slice_count g)) (planned_span LowDelay g m b low_at low_numbers_lem)

-- the slices of a call's plan
pub call_planned : (s : Settings) (m : List ℕ) (p : Three (List ℕ))
    → Planned s.kind (grid_of s) (matrix_values s m) (coefficients_of s p) (plan_of s m p).slices
unfolding plan_of
call_planned s m p = by s.kind
  where
    by : (kind : PictureKind) → Planned kind (grid_of s) (matrix_values s m) (coefficients_of s p) (plan_by s m kind (coefficients_of s p)).slices
    by LowDelay = low_planned (grid_of s) (matrix_values s m) (coefficients_of s p) (numerator_of s m)
    by HighQuality =
        let b = coefficients_of s p in
        let c = scaler_of s m b in
        high_planned (grid_of s) (matrix_values s m) b s.slice_prefix_bytes s.rate c (high_bytes s m c)

-- ---- what is read of the slices
abbrev pub read_at : List SliceRead → ℕ → SliceRead
read_at rs k = get_or rs k empty_slice

pub index_read : (ps : List SlicePlan) (rs : List SliceRead) → SameSlices ps rs → (k : ℕ) → (read_at rs k).index ≡ index_in ps k
index_read [] [] s k = refl
index_read [] (r ∷ rs) s k = absurd s
index_read (p ∷ ps) [] s k = absurd s
index_read (p ∷ ps) (r ∷ rs) s zero = s.0.index
index_read (p ∷ ps) (r ∷ rs) s (suc k) = index_read ps rs s.1 k

pub numbers_read : (ps : List SlicePlan) (rs : List SliceRead) → SameSlices ps rs → All (λ (s : SlicePlan). s.kept ≡ s.numbers) ps
    → (k : ℕ) → (read_at rs k).numbers ≡ (plan_at ps k).numbers
numbers_read [] [] s u k = refl
numbers_read [] (r ∷ rs) s u k = absurd s
numbers_read (p ∷ ps) [] s u k = absurd s
numbers_read (p ∷ ps) (r ∷ rs) s u zero = s.0.numbers ∙ u.0
numbers_read (p ∷ ps) (r ∷ rs) s u (suc k) = numbers_read ps rs s.1 u.1 k

zero-index : (ps : List SlicePlan) → All (λ (s : SlicePlan). s.index ≡ 0) ps → (k : ℕ) → index_in ps k ≡ 0
zero-index [] z k = refl
zero-index (p ∷ ps) z zero = z.0
zero-index (p ∷ ps) z (suc k) = zero-index ps z.1 k

-- the kind, grid, matrix values and subbands' sizes of a reading of components of sizes z are those of the coefficients
-- b
pub record ReadAs (kind : PictureKind) (g : Grid) (m : List ℕ) (b : Three (List Band)) (z : Three Size) (r : Reading) : Type 0 where
  pub same_kind : r.kind ≡ kind
  pub grid : grid_in r.parameters ≡ g
  pub values : values_in r.parameters ≡ m
  pub sizes : (c : Component) → pick c (band_sizes_in z r.parameters) ≡ map size_of (pick c b)

read-pick : (z : Three Size) (r : Reading) (c : Component)
    → pick c (read_bands z r) ≡ read_bands_of z r (pick c (band_sizes_in z r.parameters)) (λ s. pick c s.numbers)
unfolding read_bands
read-pick z r Y = refl
read-pick z r C1 = refl
read-pick z r C2 = refl

module _ (kind : PictureKind) (g : Grid) (m : List ℕ) (b : Three (List Band)) (z : Three Size) (r : Reading) (alike : ReadAs kind g m b z r) where
  -- what is read of a component
  pub bands_are : (c : Component)
      → pick c (read_bands z r) ≡ read_bands_by g m (λ k. (read_at r.slices k).index) kind (map size_of (pick c b)) (λ k. pick c (read_at r.slices k).numbers)
  bands_are c =
      let i : ℕ → ℕ = λ k. (read_at r.slices k).index in
      let s : ℕ → List ℤ = λ k. pick c (read_at r.slices k).numbers in
      let zs = pick c (band_sizes_in z r.parameters) in
      read-pick z r c
      ∙ ap₂ (λ (h : Grid) (v : List ℕ). read_bands_by h v i r.kind zs s) alike.grid alike.values
      ∙ ap₂ (λ (k : PictureKind) (l : List Size). read_bands_by g m i k l s) alike.same_kind (alike.sizes c)

  module _ (ps : List SlicePlan) (planned : Planned kind g m b ps) (same : SameSlices ps r.slices) (undropped : All (λ (s : SlicePlan). s.kept ≡ s.numbers) ps)
      (hm : 0 < g.down) (hn : 0 < g.across) (n : ℕ) (room : n < 2 ^ 51) (small : (c : Component) → AllSmall n (pick c b)) where
    planned_read : (c : Component) → ReadBands g m (index_in ps) 0 (pick c b) (pick c (read_bands z r))
    planned_read c =
        rw (bands_are c, fun_ext (index_read ps r.slices same))
        (bands-read g hm hn m (index_in ps) n room kind (pick c b) (λ k. pick c (read_at r.slices k).numbers) (small c)
        (λ k hk. ap (pick c) (numbers_read ps r.slices same undropped k) ∙ planned.numbers c k hk))

    -- every coefficient read is near the encoder's
    pub planned_near : (c : Component) → NearBands g m (index_in ps) 0 (pick c b) (pick c (read_bands z r))
    planned_near c = near_bands g m (index_in ps) 0 (pick c b) (pick c (read_bands z r)) (planned_read c)

    -- what is read is equal to the coefficients where every index is 0
    pub planned_equal : All (λ (s : SlicePlan). s.index ≡ 0) ps → (c : Component) → EqualBands (pick c b) (pick c (read_bands z r))
    planned_equal zeros c =
        equal_bands g hm hn m (index_in ps) (λ k hk. zero-index ps zeros k) 0 (pick c b) (pick c (read_bands z r)) (planned_read c)
