-- Demand 3 holds of the unit of every accepted call, and what its count of cut slices says.
use Rattle.std.specs.Prelude.{◌≡◌, ◌↔◌, Bool, true, false, List, [], ◌∷◌, map, ℤ, pos, ◌+ℤ◌, ltb, length, take, drop, Ok, Err}
use Rattle.std.proofs.Math.Path.{refl, sym, ap}
use Rattle.std.proofs.Common.{ap₂, ◌∙◌, arith, ltb-false}
use Rattle.std.proofs.Math.Option
use Rattle.std.proofs.Math.Option.{Option, none, some}
use Prim.Native.Nat.{ℕ, zero, suc, ◌+◌, ◌*◌, ◌-◌, ◌^◌, ◌≤◌, ◌<◌, min}
use Rattle.std.proofs.Math.ListN.{get_or}
use Rattle.std.proofs.Math.Seq.{take_at}
use Rattle.laws.specs.Laws.Integer.{sub-add}
use Rattle.wavelet.specs.Lifting.{exact, Keeps}
use Rattle.wavelet.specs.Planes.{Band, dwt, idwt}
use Rattle.wavelet.specs.Pad.{padded}
use Rattle.wavelet.specs.Laws.PlaneBound.{AllSmall}
use Rattle.wavelet.specs.Laws.Theorems.{AllBelow, Exact, component_exact}
use Rattle.refusals.specs.Laws.Number.{Named}
use Rattle.unit.specs.declared.Settings.{Settings}
use Rattle.unit.specs.declared.Coded.{Coded}
use Rattle.unit.specs.declared.PictureKind.{PictureKind}
use Rattle.unit.specs.declared.PictureKind.TheVariants.{LowDelay, HighQuality}
use Rattle.unit.specs.Limits.{unit_limit}
use Rattle.unit.specs.Three.{Three}
use Rattle.unit.specs.Sizes.{Size, sizes_of, depths_of, offset_of}
use Rattle.unit.specs.Subbands.{padded_size}
use Rattle.unit.specs.Matrix.{default_of, matrix_values, carried_matrix}
use Rattle.unit.specs.Refusal.{refusal_of}
use Rattle.unit.specs.Parameters.{SliceParameters, Parameters, overhead}
use Rattle.unit.specs.Coefficients.{bands_of, coefficients_of}
use Rattle.unit.specs.Quantised.{size_of}
use Rattle.unit.specs.Plan.{Plan}
use Rattle.unit.specs.Unit.{major_version, grid_of, parameters_by, plan_by, plan_of, length_of, unit_of}
use Rattle.unit.specs.Cut.{cut_count}
use Rattle.unit.specs.Outcome.{Answer, tells, length_in, coded_of, coding_rules, coding_refusal, coded_if, outcome_if, outcome_of}
use Rattle.unit.specs.Reader.{Reading, grid_in, band_sizes_in, values_by, values_in, read_bands, read_samples_of, read_samples}
use Rattle.unit.specs.Demand.{SameSlices, Follow, Undropped, AllZero, plan_index, NearBands, SameSamples, Demand3}
use Rattle.unit.specs.Code.Valid.{Between, Valid}
use Rattle.unit.proofs.Laws.Sound.{Sound}
use Rattle.unit.proofs.Laws.Unit.{reading_of, fulls, length-unit, reads_unit, same-slices, follow_on}
use Rattle.unit.proofs.Laws.Subband.{sizes-of}
use Rattle.unit.proofs.Laws.Soundness.{bytes_of_lem, sound_of}
use Rattle.unit.proofs.Laws.Near.{EqualBands}
use Rattle.unit.proofs.Laws.Synthesis.{idwt_back}
use Rattle.unit.proofs.Laws.Planned.{Component, Y, C1, C2, pick, ReadAs, call_planned, planned_near, planned_equal}
use Rattle.unit.proofs.Laws.Intlog2.{offset_range}
use Rattle.unit.proofs.Laws.Padded.{padded-wide, padded-high, padded_is}
use Rattle.unit.proofs.Laws.Drop.{drops_of, cut-none}
use Rattle.unit.proofs.Laws.Test.{no_truth, or-none}
use Rattle.unit.proofs.Laws.Rules.{first_named, none_of}
use Rattle.unit.proofs.Laws.Valid.{valid, sample_depths}

-- a call's numbers as its types have them: samples of 16 bits, picture number and previous length of 32
pub record Typed (s : Settings) (p : Three (List ℕ)) : Type 0 where
  pub number : s.picture_number < 2 ^ 32
  pub previous : s.prev_unit_len < 2 ^ 32
  pub samples : (c : Component) (n : ℕ) → get_or (pick c p) n 0 < 2 ^ 16

-- ---- the parameters that are read
parameters_by_lem : (s : Settings) (m : List ℕ) (kind : PictureKind) (b : Three (List Band))
    → (plan_by s m kind b).parameters ≡ parameters_by s m (plan_by s m kind b).parameters.slice_parameters
parameters_by_lem s m LowDelay b = refl
parameters_by_lem s m HighQuality b = refl

parameters-of : (s : Settings) (m : List ℕ) (p : Three (List ℕ)) → (plan_of s m p).parameters ≡ parameters_by s m (plan_of s m p).parameters.slice_parameters
unfolding plan_of
parameters-of s m p = parameters_by_lem s m s.kind (coefficients_of s p)

values_of : (s : Settings) (m : List ℕ) (t : SliceParameters) → values_in (parameters_by s m t) ≡ matrix_values s m
unfolding carried_matrix matrix_values
values_of s m t = by s.custom_matrix (default_of s)
  where
    by : (c : Bool) (d : Option (List ℕ)) → values_by (elim c [ true ↦ some m | false ↦ none ]) d ≡ elim c [ true ↦ m | false ↦ Option.get_or d [] ]
    by true d = refl
    by false none = refl
    by false (some vs) = refl

band-sizes : (s : Settings) (m : List ℕ) (p : Three (List ℕ)) (t : SliceParameters) (c : Component)
    → pick c (band_sizes_in (sizes_of s) (parameters_by s m t)) ≡ map size_of (pick c (coefficients_of s p))
unfolding coefficients_of
band-sizes s m p t Y = sym (sizes-of s _ _ p.y)
band-sizes s m p t C1 = sym (sizes-of s _ _ p.c1)
band-sizes s m p t C2 = sym (sizes-of s _ _ p.c2)

read_as : (s : Settings) (m : List ℕ) (p : Three (List ℕ)) → ReadAs s.kind (grid_of s) (matrix_values s m) (coefficients_of s p) (sizes_of s) (reading_of s (plan_of s m p))
unfolding reading_of
read_as s m p =
    let t = (plan_of s m p).parameters.slice_parameters in
    let e = parameters-of s m p in
    record {
      same_kind = refl;
      grid = ap grid_in e;
      values = ap values_in e ∙ values_of s m t;
      sizes = λ c. ap (λ (q : Parameters). pick c (band_sizes_in (sizes_of s) q)) e ∙ band-sizes s m p t c;
    }

-- ---- one component
bands-pick : (s : Settings) (p : Three (List ℕ)) (c : Component) → pick c (coefficients_of s p) ≡ bands_of s (pick c (sizes_of s)) (pick c (depths_of s)) (pick c p)
unfolding coefficients_of
bands-pick s p Y = refl
bands-pick s p C1 = refl
bands-pick s p C2 = refl

small_of : (n : ℕ) (bs : List Band) → AllBelow (suc n) bs → AllSmall n bs
small_of n [] a = tt
small_of n (b ∷ bs) a = ((λ y x hy hx. omega (arith, a.0 y x hy hx)), small_of n bs a.1)

abbrev most : ℕ
most = 2 ^ 51 - 1

-- the synthesis of bands that equal those of samples less the offset o, with the offset, is the samples
component_back : (i j k d : ℕ) (samples : List ℕ) (o : ℕ) (z : Size) (bs : List Band) → i ≤ 6 → j ≤ 6
    → EqualBands (dwt exact i j k d (padded_size k d z).height (padded_size k d z).width (padded samples o z.width z.height)) bs
    → SameSamples z samples (λ y x. idwt i j bs k d y x +ℤ pos o)
component_back i j k d samples o z bs hi hj e y x hy hx =
    let f = padded samples o z.width z.height in
    let a = idwt_back i j hi hj k d (padded_size k d z).height (padded_size k d z).width f bs (padded_is k d z) e in
    let ey : min y (z.height - 1) ≡ y = omega arith in
    let ex : min x (z.width - 1) ≡ x = omega arith in
    ap (λ (c : ℤ). c +ℤ pos o) (a.same y x (omega (arith, (padded-high k d z).enough)) (omega (arith, (padded-wide k d z).enough)))
    ∙ sub-add (pos (get_or samples (min y (z.height - 1) * z.width + min x (z.width - 1)) 0)) (pos o)
    ∙ ap₂ (λ (a b : ℕ). pos (get_or samples (a * z.width + b) 0)) ey ex

module _ (s : Settings) (m : List ℕ) (p : Three (List ℕ)) (work : List ℤ) (v : Valid s m p work) (t : Typed s p) where
  depth-of : (c : Component) → Between 16 (pick c (depths_of s))
  depth-of Y = (sample_depths v).y
  depth-of C1 = (sample_depths v).c1
  depth-of C2 = (sample_depths v).c2

  exact-of : (c : Component) → let z = pick c (sizes_of s) in let y = padded_size s.dwt_depth_ho s.dwt_depth z in
      Exact s.wavelet_index_ho s.wavelet_index s.dwt_depth_ho s.dwt_depth (pick c p) (offset_of (pick c (depths_of s))) z.width z.height y.width y.height
  exact-of c =
      let z = pick c (sizes_of s) in
      let y = padded_size s.dwt_depth_ho s.dwt_depth z in
      let o = offset_range (pick c (depths_of s)) (depth-of c) in
      component_exact s.wavelet_index_ho s.wavelet_index s.dwt_depth_ho s.dwt_depth (pick c p) (offset_of (pick c (depths_of s))) z.width z.height
      y.width y.height v.shape.wavelet-ho v.shape.wavelet (omega (arith, v.shape.depths)) (padded_is s.dwt_depth_ho s.dwt_depth z) (t.samples c) (omega arith)

  below : (c : Component) → AllBelow (2 ^ 51) (pick c (coefficients_of s p))
  unfolding bands_of
  below c = rw (bands-pick s p c) (exact-of c).below

  small : (c : Component) → AllSmall most (pick c (coefficients_of s p))
  small c = small_of most (pick c (coefficients_of s p)) (below c)

  -- the samples of a component, where the bands read equal its coefficients
  samples_back : (c : Component) (bs : List Band) → EqualBands (pick c (coefficients_of s p)) bs
      → SameSamples (pick c (sizes_of s)) (pick c p)
      (λ y x. idwt s.wavelet_index_ho s.wavelet_index bs s.dwt_depth_ho s.dwt_depth y x +ℤ pos (offset_of (pick c (depths_of s))))
  unfolding bands_of
  samples_back c bs e =
      component_back s.wavelet_index_ho s.wavelet_index s.dwt_depth_ho s.dwt_depth (pick c p) (offset_of (pick c (depths_of s))) (pick c (sizes_of s)) bs
      v.shape.wavelet-ho v.shape.wavelet (rw (bands-pick s p c) at e)

  -- a component's samples, by the parameters that are read
  samples_by : (c : Component) (bs : List Band) (q : Parameters) → q ≡ parameters_by s m q.slice_parameters → EqualBands (pick c (coefficients_of s p)) bs
      → SameSamples (pick c (sizes_of s)) (pick c p) (λ y x. idwt q.wavelet_ho q.wavelet bs q.depth_ho q.depth y x +ℤ pos (offset_of (pick c (depths_of s))))
  samples_by c bs q e b = rw e (samples_back c bs b)

  -- ---- the whole
  module _ (long : length_of s (plan_of s m p) < 2 ^ 32) where
    abbrev plan : Plan
    plan = plan_of s m p

    sound : Sound s plan
    sound = sound_of s m p work v t.number t.previous long

    abbrev reading : Reading
    reading = reading_of s plan

    same : SameSlices plan.slices reading.slices
    unfolding reading_of
    same = same-slices (overhead (major_version s) plan.parameters) plan.slices

    placed : Follow (overhead (major_version s) plan.parameters) reading.slices (length (unit_of s plan))
    unfolding reading_of length_of
    placed = rw (length-unit s plan) (follow_on (overhead (major_version s) plan.parameters) plan.slices (fulls s plan sound))

    near_all : Undropped plan → (c : Component)
        → NearBands (grid_of s) (matrix_values s m) (plan_index plan) 0 (pick c (coefficients_of s p)) (pick c (read_bands (sizes_of s) reading))
    near_all u =
        planned_near s.kind (grid_of s) (matrix_values s m) (coefficients_of s p) (sizes_of s) reading (read_as s m p) plan.slices (call_planned s m p) same u
        v.shape.down.some v.shape.across.some most (omega arith) small

    equal_all : Undropped plan → AllZero plan → (c : Component) → EqualBands (pick c (coefficients_of s p)) (pick c (read_bands (sizes_of s) reading))
    equal_all u =
        planned_equal s.kind (grid_of s) (matrix_values s m) (coefficients_of s p) (sizes_of s) reading (read_as s m p) plan.slices (call_planned s m p) same u
        v.shape.down.some v.shape.across.some most (omega arith) small

    samples_all : Undropped plan → AllZero plan → (c : Component)
        → SameSamples (pick c (sizes_of s)) (pick c p) (read_samples_of (sizes_of s) reading (pick c (read_bands (sizes_of s) reading)) (pick c (depths_of s)))
    unfolding reading_of
    samples_all u z c =
        samples_by c (pick c (read_bands (sizes_of s) reading)) plan.parameters (parameters-of s m p) (equal_all u z c)

    holds : Demand3 s m p (unit_of s plan)
    unfolding read_samples
    holds = record {
      reading = reading;
      reads = reads_unit s plan sound;
      kind = unfold reading_of in refl;
      number = unfold reading_of in refl;
      parameters = unfold reading_of in refl;
      slices = same;
      drops = drops_of s m p work v;
      places = unfold reading_of in placed;
      bytes = unfold reading_of in bytes_of_lem s m p work v reading.slices same;
      near = λ u. (near_all u Y, near_all u C1, near_all u C2);
      samples = λ u z. (samples_all u z Y, samples_all u z C1, samples_all u z C2);
    }

-- for every accepted call: settings, lent matrix, planes and work slice that none of refusals 1 to 13 turns away, and a
-- unit that a length of 32 bits can tell
pub demand : (s : Settings) (m : List ℕ) (p : Three (List ℕ)) (work : List ℤ) → Typed s p → refusal_of s m p work ≡ 0 → length_of s (plan_of s m p) < 2 ^ 32
    → Demand3 s m p (unit_of s (plan_of s m p))
demand s m p work t e long = holds s m p work (valid s m p work e) t long

-- document 01, "On the picture path nothing wraps": for every call that none of refusals 1 to 13 turns away, whatever
-- wr gives for numbers that do not fit in 64 bits, the bands are its coefficients
pub wraps_nowhere : (s : Settings) (m : List ℕ) (p : Three (List ℕ)) (work : List ℤ) → Typed s p → refusal_of s m p work ≡ 0 → (wr : ℤ → ℤ) → Keeps wr → (c : Component)
    → let z = pick c (sizes_of s) in let y = padded_size s.dwt_depth_ho s.dwt_depth z in
    dwt wr s.wavelet_index_ho s.wavelet_index s.dwt_depth_ho s.dwt_depth y.height y.width
    (padded (pick c p) (offset_of (pick c (depths_of s))) z.width z.height)
    ≡ pick c (coefficients_of s p)
unfolding bands_of
wraps_nowhere s m p work t e wr keeps c = (exact-of s m p work (valid s m p work e) t c).nowhere wr keeps ∙ sym (bands-pick s p c)

-- document 02, (iii), "Coefficients still stay below 2^51": of every such call, padding included
pub coefficients_below : (s : Settings) (m : List ℕ) (p : Three (List ℕ)) (work : List ℤ) → Typed s p → refusal_of s m p work ≡ 0 → (c : Component)
    → AllBelow (2 ^ 51) (pick c (coefficients_of s p))
coefficients_below s m p work t e = below s m p work (valid s m p work e) t

-- ---- the outcome of a call
-- the first of its rules that is broken has the number of a refusal
pub coding_named : (len n : ℕ) → Named (coding_refusal len n)
coding_named len n = first_named (coding_rules len n) (refl, tt)

-- a unit that coding does not refuse fits the output, and its length 32 bits
pub not-long : (len n : ℕ) → coding_refusal len n ≡ 0 → (n ≤ len) × (n ≤ unit_limit)
not-long len n e =
    let h = (or-none (ltb len n) (ltb unit_limit n)).0 ((none_of (coding_rules len n) (tt, tt)).0 e).0 in
    (ltb-false len n h.0, ltb-false unit_limit n h.1)

abbrev pub is_accepted : Answer → Bool
is_accepted (Ok c) = true
is_accepted (Err r) = false

module _ (s : Settings) (m : List ℕ) (p : Three (List ℕ)) (out : List ℕ) (work : List ℤ) where
  abbrev n : ℕ
  n = length_of s (plan_of s m p)

  module _ (t : Typed s p) (c : Coded) where
    coded_by_lem : (r : ℕ) → coding_refusal (length out) n ≡ r → refusal_of s m p work ≡ 0 → (coded_if s (plan_of s m p) out work r).answer ≡ Ok c
        → Demand3 s m p (take c.written (coded_if s (plan_of s m p) out work r).output)
    unfolding coded_of
    coded_by_lem zero e r a =
        let long : n < 2 ^ 32 = omega (arith, (not-long (length out) n e).1) in
        let q : n ≡ c.written = ap length_in a in
        rw (← q, take_at (unit_of s (plan_of s m p)) (drop n out) n (length-unit s (plan_of s m p))) (demand s m p work t r long)
    coded_by_lem (suc k) e r a = no_truth (sym (ap is_accepted a))

    outcome_by : (r : ℕ) → refusal_of s m p work ≡ r → (outcome_if s m p out work r).answer ≡ Ok c
        → Demand3 s m p (take c.written (outcome_if s m p out work r).output)
    outcome_by zero e a = coded_by_lem (coding_refusal (length out) n) refl e a
    outcome_by (suc k) e a = no_truth (sym (ap is_accepted a))

    -- demand 3 holds of an accepted call, for the bytes of the output that its answer counts
    pub accepted : (outcome_of s m p out work).answer ≡ Ok c → Demand3 s m p (take c.written (outcome_of s m p out work).output)
    unfolding outcome_of
    accepted a = outcome_by (refusal_of s m p work) refl a

  module _ (c : Coded) where
    -- the count that an accepted call gives
    count_if : (r : ℕ) → (coded_if s (plan_of s m p) out work r).answer ≡ Ok c → c.cut_slices ≡ cut_count (plan_of s m p)
    unfolding coded_of
    count_if zero a = sym (ap (λ (r : Answer). get_or (tells r) 2 0) a)
    count_if (suc k) a = no_truth (sym (ap is_accepted a))

    count_by : (r : ℕ) → (outcome_if s m p out work r).answer ≡ Ok c → c.cut_slices ≡ cut_count (plan_of s m p)
    count_by zero a = count_if (coding_refusal (length out) n) a
    count_by (suc k) a = no_truth (sym (ap is_accepted a))

    -- it is 0 just where no slice has dropped a number that is not 0
    pub accepted_uncut : (outcome_of s m p out work).answer ≡ Ok c → (c.cut_slices ≡ 0) ↔ Undropped (plan_of s m p)
    unfolding outcome_of
    accepted_uncut a = rw (count_by (refusal_of s m p work) a) (cut-none s m p)
