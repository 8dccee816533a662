-- The plan of an accepted call is sound: its parameters are legal, and its slices can be read.
use Rattle.std.specs.Prelude.{◌≡◌, refl, ℤ, length}
use Rattle.std.proofs.Common.{sym, ap, ap₂, ◌∙◌, arith, length-append}
use Rattle.std.proofs.Math.Path.{subst}
use mathlib.Core.List.{List, [], ◌∷◌, map, flatten}
use Prim.Native.Nat.{ℕ, zero, suc, ◌+◌, ◌*◌, ◌-◌, ◌^◌, ◌≤◌, ◌<◌}
use Rattle.std.proofs.Math.Nat.{le_trans, zero-div, zero-mod}
use Rattle.std.proofs.Math.Decide.{dec_le}
use Rattle.laws.specs.Rows.{span, total}
use Rattle.laws.specs.Plane.{Plane}
use Rattle.codewords.specs.Bytes.{to_bytes}
use Rattle.codewords.specs.Laws.Byte.{length-to_bytes}
use Rattle.codewords.specs.Laws.Read.{Reads}
use Rattle.wavelet.specs.Planes.{Band}
use Rattle.unit.specs.declared.Settings.{Settings}
use Rattle.unit.specs.declared.PictureKind.{PictureKind}
use Rattle.unit.specs.declared.PictureKind.TheVariants.{LowDelay, HighQuality}
use Rattle.unit.specs.Three.{Three, map3}
use Rattle.unit.specs.Sizes.{Size, luma_size, sizes_of}
use Rattle.unit.specs.Slices.{Grid, slice_count}
use Rattle.unit.specs.Matrix.{matrix_values}
use Rattle.unit.specs.Subbands.{padded_area}
use Rattle.unit.specs.Parameters.{SliceParameters, low_delay, high_quality, overhead}
use Rattle.unit.specs.Coefficients.{bands_of, coefficients_of}
use Rattle.unit.specs.Quantised.{size_of}
use Rattle.unit.specs.Plan.{SlicePlan, Plan}
use Rattle.unit.specs.LowDelay.{slice_bytes, low_numbers, low_index, low_plan_of, low_plan, low_slices, low_left, zero_planes}
use Rattle.unit.specs.HighQuality.{high_bits, slice_size, share_of, high_numbers, high_plan, largest_need}
use Rattle.unit.specs.Unit.{major_version, grid_of, parameters_by, target_of, low_parameters, high_parameters, numerator_of, high_bytes, high_slices_of, scaler_of, plan_by, plan_of, slice_runs, length_of}
use Rattle.unit.specs.Reader.{SliceRead, number_count, read_low, read_high, grid_in, counts_in}
use Rattle.unit.specs.Demand.{bytes_of, SameSlices, Bytes}
use Rattle.unit.specs.Code.Valid.{RateFits, Valid}
use Rattle.unit.proofs.Laws.Sound.{Legal, SoundSlice, SoundSlices, Sound}
use Rattle.unit.proofs.Laws.Subband.{sizes-of, areas, areas-most}
use Rattle.unit.proofs.Laws.Slice.{counted_from, counted-low}
use Rattle.unit.proofs.Laws.Valid.{colour-most, slice_count_lem, legal}
use Rattle.unit.proofs.Laws.LowDelay.{numerator-least, bytes_some, bytes_all, low_full, low_reads, low-index, low_many, low_bytes}
use Rattle.unit.proofs.Laws.HighQuality.{Needs, Within, full_high, reads_high, needs_split, needs_most, scaler_rises, scaler_ends, takes, high_many, high_bytes_lem, high-index, shares_kept}

-- ---- the components' sizes
bands-most : (s : Settings) (z : Size) (d : ℕ) (samples : List ℕ) → areas (map size_of (bands_of s z d samples)) ≤ padded_area s z
bands-most s z d samples = rw (sizes-of s z d samples) (areas-most s.dwt_depth_ho s.dwt_depth z)

pub coefficients-within : (s : Settings) (p : Three (List ℕ)) → Within (padded_area s (luma_size s)) (coefficients_of s p)
unfolding coefficients_of
coefficients-within s p = record {
  y = bands-most s _ _ p.y;
  c1 = le_trans (bands-most s _ _ p.c1) (colour-most s);
  c2 = le_trans (bands-most s _ _ p.c2) (colour-most s);
}

-- ---- counts
-- how many numbers slice k has of each component's bands
abbrev counts_of : Grid → Three (List Band) → ℕ → Three ℕ
counts_of g b k = record {
  y = number_count g (map size_of b.y) k;
  c1 = number_count g (map size_of b.c1) k;
  c2 = number_count g (map size_of b.c2) k;
}

pub three : {A : Type 0} {t u : Three A} → t.y ≡ u.y → t.c1 ≡ u.c1 → t.c2 ≡ u.c2 → t ≡ u
three p q r = λ i. record { y = p i; c1 = q i; c2 = r i }

-- the reader counts the numbers that the encoder has
pub counts_same : (s : Settings) (m : List ℕ) (p : Three (List ℕ)) (t : SliceParameters) (k : ℕ)
    → counts_in (sizes_of s) (parameters_by s m t) k ≡ counts_of (grid_of s) (coefficients_of s p) k
unfolding coefficients_of
counts_same s m p t k =
    three (ap (λ (zs : List Size). number_count (grid_of s) zs k) (sym (sizes-of s _ _ p.y)))
    (ap (λ (zs : List Size). number_count (grid_of s) zs k) (sym (sizes-of s _ _ p.c1)))
    (ap (λ (zs : List Size). number_count (grid_of s) zs k) (sym (sizes-of s _ _ p.c2)))

low_counts : (g : Grid) (m : List ℕ) (b : Three (List Band)) (r : Three Plane) (k q : ℕ) → counts_of g b k ≡ map3 length (low_numbers g m b r k q)
low_counts g m b r k q =
    three (sym (counted-low g m b.y r.y q k).many) (sym (counted-low g m b.c1 r.c1 q k).many) (sym (counted-low g m b.c2 r.c2 q k).many)

high_counts : (g : Grid) (m : List ℕ) (b : Three (List Band)) (p k q : ℕ) → counts_of g b k ≡ map3 length (high_numbers g m b p k q)
unfolding high_numbers
high_counts g m b p k q =
    three (sym (counted_from g m 0 b.y q k).many) (sym (counted_from g m 0 b.c1 q k).many) (sym (counted_from g m 0 b.c2 q k).many)

-- ---- slices
-- v are the matrix values
module _ (s : Settings) (m : List ℕ) (p : Three (List ℕ)) (v : List ℕ) where
  low_slice : (n : ℕ) (r : Three Plane) (k q : ℕ) → 1 ≤ slice_count (grid_of s) → slice_count (grid_of s) ≤ n → q < 128
      → SoundSlice (sizes_of s) (low_parameters s m n) k (low_plan (grid_of s) v (coefficients_of s p) (slice_bytes n (slice_count (grid_of s)) k) r k q)
  unfolding low_plan
  low_slice n r k q a h e =
      let g = grid_of s in
      let b = coefficients_of s p in
      let w = slice_bytes n (slice_count g) k in
      let x = low_numbers g v b r k q in
      let i = bytes_some n (slice_count g) k a h in
      record {
        full = low_full g v b w q x i;
        reads = subst (λ (c : Three ℕ). Reads (read_low w c) (low_plan_of g v b w q x).bits (record { index = q; numbers = (low_plan_of g v b w q x).kept }))
            (sym (counts_same s m p (low_delay n (slice_count g)) k ∙ low_counts g v b r k q)) (low_reads g v b w q x i e);
      }

  low_sound : (n : ℕ) (r : Three Plane) (k j : ℕ) → 1 ≤ slice_count (grid_of s) → slice_count (grid_of s) ≤ n
      → SoundSlices (sizes_of s) (low_parameters s m n) k (low_slices (grid_of s) v (coefficients_of s p) n r k j)
  unfolding low_slices
  low_sound n r k zero a h = tt
  low_sound n r k (suc j) a h =
      let g = grid_of s in
      let b = coefficients_of s p in
      let w = slice_bytes n (slice_count g) k in
      (low_slice n r k (low_index g v b w r k) a h (low-index g v b w r k), low_sound n (low_left g v b r k (low_index g v b w r k)) (suc k) j a h)

  high_slice : (x c k q : ℕ) → 1 ≤ c → q < 256 → Needs (255 * c) (high_numbers (grid_of s) v (coefficients_of s p) x k q)
      → SoundSlice (sizes_of s) (parameters_by s m (high_quality x c)) k (high_plan (grid_of s) v (coefficients_of s p) x c k q)
  unfolding high_plan
  high_slice x c k q a e f =
      let g = grid_of s in
      let b = coefficients_of s p in
      let z = high_numbers g v b x k q in
      record {
        full = full_high x c q z a;
        reads = subst (λ (u : Three ℕ). Reads (read_high x c u) (high_bits x c q z) (record { index = q; numbers = z }))
            (sym (counts_same s m p (high_quality x c) k ∙ high_counts g v b x k q)) (reads_high x c q z a e f);
      }

  high_sound : (x c : ℕ) (f : ℕ → ℕ) (k j : ℕ) → 1 ≤ c → ((i : ℕ) → f i < 256)
      → largest_need (span (λ i. high_plan (grid_of s) v (coefficients_of s p) x c i (f i)) k j) ≤ 255 * c
      → SoundSlices (sizes_of s) (parameters_by s m (high_quality x c)) k (span (λ i. high_plan (grid_of s) v (coefficients_of s p) x c i (f i)) k j)
  high_sound x c f k zero a e h = tt
  high_sound x c f k (suc j) a e h =
      let r = needs_split _ _ (255 * c) h in
      (high_slice x c k (f k) a (e k) (unfold high_plan in r.0), high_sound x c f (suc k) j a e r.1)

-- ---- the scaler
module _ (s : Settings) (m : List ℕ) (b : Three (List Band)) where
  pub scaler-some : 1 ≤ s.slice_size_scaler → 1 ≤ scaler_of s m b
  unfolding scaler_of
  scaler-some h = le_trans h (scaler_rises (high_slices_of s m b) (16 * padded_area s (luma_size s)) s.slice_size_scaler)

  -- no component needs more than 255 of the final scaler
  pub scaler-fits : Within (padded_area s (luma_size s)) b → largest_need (high_slices_of s m b (scaler_of s m b)) ≤ 255 * scaler_of s m b
  unfolding scaler_of
  scaler-fits w =
      scaler_ends (high_slices_of s m b) (16 * padded_area s (luma_size s))
      (λ c. needs_most (grid_of s) (matrix_values s m) b s.slice_prefix_bytes s.rate c (high_bytes s m c) (padded_area s (luma_size s)) w)
      (16 * padded_area s (luma_size s)) s.slice_size_scaler (omega arith)

-- ---- bytes
length_runs : (ss : List SlicePlan) → length (flatten (slice_runs ss)) ≡ total (map bytes_of ss)
unfolding flatten
length_runs [] = refl
length_runs (a ∷ ss) = length-append (to_bytes a.bits) (flatten (slice_runs ss)) ∙ ap₂ ◌+◌ (length-to_bytes a.bits) (length_runs ss)

-- a unit is its overhead and its slices' bytes
pub length_is : (s : Settings) (a : Plan) → length_of s a ≡ overhead (major_version s) a.parameters + total (map bytes_of a.slices)
unfolding length_of
length_is s a = rw (length_runs a.slices)

-- what is read of the slices has their bytes
read_bytes : (ss : List SlicePlan) (rs : List SliceRead) → SameSlices ss rs → map (λ (r : SliceRead). r.byte_count) rs ≡ map bytes_of ss
read_bytes [] [] e = refl
read_bytes [] (r ∷ rs) e = absurd e
read_bytes (a ∷ ss) [] e = absurd e
read_bytes (a ∷ ss) (r ∷ rs) e = ap₂ ◌∷◌ e.0.bytes (read_bytes ss rs e.1)

read_many : (ss : List SlicePlan) (rs : List SliceRead) → SameSlices ss rs → length rs ≡ length ss
read_many [] [] e = refl
read_many [] (r ∷ rs) e = absurd e
read_many (a ∷ ss) [] e = absurd e
read_many (a ∷ ss) (r ∷ rs) e = ap suc (read_many ss rs e.1)

plan_by_lem : (s : Settings) (m : List ℕ) (p : Three (List ℕ)) (kind : PictureKind) → s.kind ≡ kind → plan_of s m p ≡ plan_by s m kind (coefficients_of s p)
unfolding plan_of
plan_by_lem s m p kind e = ap (λ (k : PictureKind). plan_by s m k (coefficients_of s p)) e

-- high quality, with the final scaler: what slice k takes, and what the unit takes without its slices
module _ (s : Settings) (m : List ℕ) (p : Three (List ℕ)) where
  abbrev pub taken_by : ℕ → ℕ
  taken_by =
      let b = coefficients_of s p in
      let c = scaler_of s m b in
      takes (grid_of s) (matrix_values s m) b s.slice_prefix_bytes s.rate c (high_bytes s m c)

  abbrev pub high_overhead : ℕ
  high_overhead = overhead (major_version s) (high_parameters s m (scaler_of s m (coefficients_of s p)))

-- a slice takes at least 4 bytes, and a share of 0 bytes is 0
taken_some : (s : Settings) (m : List ℕ) (p : Three (List ℕ)) (k : ℕ) → 4 ≤ taken_by s m p k
unfolding slice_size
taken_some s m p k = omega arith

share_none : (n : ℕ) → share_of 0 n 0 ≡ 0
unfolding share_of
share_none n = rw (zero-div n, zero-mod n)

-- as many slices as there are in the grid
many_by : (s : Settings) (m : List ℕ) (b : Three (List Band)) (kind : PictureKind) → length (plan_by s m kind b).slices ≡ slice_count (grid_of s)
many_by s m b LowDelay = low_many (grid_of s) (matrix_values s m) b (numerator_of s m) zero_planes 0 (slice_count (grid_of s))
many_by s m b HighQuality = high_many (grid_of s) (matrix_values s m) b s.slice_prefix_bytes s.rate (scaler_of s m b) (high_bytes s m (scaler_of s m b))

-- what Sound says of the parameters and the slices, by kind
pub record SoundBy (s : Settings) (kind : PictureKind) (a : Plan) : Type 0 where
  pub legal : Legal (major_version s) kind a.parameters
  pub many : length a.slices ≡ slice_count (grid_in a.parameters)
  pub slices : SoundSlices (sizes_of s) a.parameters 0 a.slices

-- ---- an accepted call
module _ (s : Settings) (m : List ℕ) (p : Three (List ℕ)) (work : List ℤ) (v : Valid s m p work) where
  pub numerator-some : slice_count (grid_of s) ≤ numerator_of s m
  unfolding numerator_of
  numerator-some = numerator-least (major_version s) (target_of s.rate) (slice_count (grid_of s)) (low_parameters s m)

  sound_by : (kind : PictureKind) → RateFits kind s.rate → SoundBy s kind (plan_by s m kind (coefficients_of s p))
  sound_by LowDelay f = record {
    legal = legal v LowDelay _ ((slice_count_lem v).some, numerator-some);
    many = many_by s m (coefficients_of s p) LowDelay;
    slices = low_sound s m p (matrix_values s m) (numerator_of s m) zero_planes 0 (slice_count (grid_of s)) (slice_count_lem v).some numerator-some;
  }
  sound_by HighQuality f =
      let b = coefficients_of s p in
      let c = scaler_of s m b in
      let i : 1 ≤ c = scaler-some s m b v.shape.scaler.some in
      record {
        legal = legal v HighQuality _ i;
        many = many_by s m b HighQuality;
        slices = high_sound s m p (matrix_values s m) s.slice_prefix_bytes c _ 0 (slice_count (grid_of s)) i
            (high-index (grid_of s) (matrix_values s m) b s.slice_prefix_bytes s.rate f c (high_bytes s m c)) (scaler-fits s m b (coefficients-within s p));
      }

  -- the plan is sound, whatever the unit's length
  pub planned : SoundBy s s.kind (plan_of s m p)
  unfolding plan_of
  planned = sound_by s.kind v.rate

  -- ---- bytes of low delay
  pub low_each : map bytes_of (plan_by s m LowDelay (coefficients_of s p)).slices
      ≡ span (slice_bytes (numerator_of s m) (slice_count (grid_of s))) 0 (slice_count (grid_of s))
  low_each = low_bytes (grid_of s) (matrix_values s m) (coefficients_of s p) (numerator_of s m) zero_planes 0 (slice_count (grid_of s)) (slice_count_lem v).some numerator-some

  pub low_all : total (map bytes_of (plan_by s m LowDelay (coefficients_of s p)).slices) ≡ numerator_of s m
  low_all = ap total low_each ∙ bytes_all (numerator_of s m) (slice_count (grid_of s)) (slice_count_lem v).some

  bytes_by : (kind : PictureKind) (rs : List SliceRead) → SameSlices (plan_by s m kind (coefficients_of s p)).slices rs
      → Bytes (plan_by s m kind (coefficients_of s p)).parameters.slice_parameters rs
  bytes_by LowDelay rs e =
      let ss = (plan_by s m LowDelay (coefficients_of s p)).slices in
      let n : length rs ≡ slice_count (grid_of s) = read_many ss rs e ∙ many_by s m (coefficients_of s p) LowDelay in
      (read_bytes ss rs e ∙ low_each ∙ ap (span (slice_bytes (numerator_of s m) (slice_count (grid_of s))) 0) (sym n), ap total (read_bytes ss rs e) ∙ low_all)
  bytes_by HighQuality rs e = tt

  -- demand 3: each low-delay slice that is read takes exactly its slice bytes, and they sum to the numerator
  pub bytes_of_lem : (rs : List SliceRead) → SameSlices (plan_of s m p).slices rs → Bytes (plan_of s m p).parameters.slice_parameters rs
  unfolding plan_of
  bytes_of_lem rs e = bytes_by s.kind rs e

  -- ---- lengths
  pub length-high-unit : s.kind ≡ HighQuality → length_of s (plan_of s m p) ≡ high_overhead s m p + total (span (taken_by s m p) 0 (slice_count (grid_of s)))
  length-high-unit e =
      let b = coefficients_of s p in
      let c = scaler_of s m b in
      ap (length_of s) (plan_by_lem s m p HighQuality e) ∙ length_is s (plan_by s m HighQuality b)
      ∙ ap (λ (ns : List ℕ). high_overhead s m p + total ns)
      (high_bytes_lem (grid_of s) (matrix_values s m) b s.slice_prefix_bytes s.rate c (high_bytes s m c) (scaler-some s m b v.shape.scaler.some))

  -- if every high-quality slice fits its share of the target less the overhead, the unit is at most the target: where
  -- the overhead is more than the target, the share is 0, and no slice fits it
  pub target-kept : s.kind ≡ HighQuality
      → ((k : ℕ) → k < slice_count (grid_of s) → taken_by s m p k ≤ share_of (target_of s.rate - high_overhead s m p) (slice_count (grid_of s)) k)
      → length_of s (plan_of s m p) ≤ target_of s.rate
  target-kept e f = by (dec_le (high_overhead s m p) (target_of s.rate))
    where
      n : ℕ
      n = slice_count (grid_of s)

      bytes : ℕ
      bytes = target_of s.rate - high_overhead s m p

      by : Dec (high_overhead s m p ≤ target_of s.rate) → length_of s (plan_of s m p) ≤ target_of s.rate
      by (yes o) = omega (arith, length-high-unit e, shares_kept (taken_by s m p) bytes n (slice_count_lem v).some f)
      by (no o) =
          let z : bytes ≡ 0 = omega arith in
          absurd (omega (arith, f 0 (slice_count_lem v).some, ap (λ (b : ℕ). share_of b n 0) z, share_none n, taken_some s m p 0))

pub sound_of : (s : Settings) (m : List ℕ) (p : Three (List ℕ)) (work : List ℤ) → Valid s m p work
    → s.picture_number < 2 ^ 32 → s.prev_unit_len < 2 ^ 32 → length_of s (plan_of s m p) < 2 ^ 32 → Sound s (plan_of s m p)
sound_of s m p work v a b c =
    let r = planned s m p work v in
    record { number = a; previous = b; long = c; legal = r.legal; many = r.many; slices = r.slices }
