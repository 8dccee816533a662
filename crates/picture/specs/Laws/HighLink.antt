-- High quality: the slices that the code makes of the work slice are the unit's, and so are its scaler, its length and
-- its bytes.
use Rattle.std.specs.Prelude.{◌≡◌, refl, false, ℤ, length, drop, Ok, Err}
use Rattle.std.proofs.Math.Path.{sym, ap, ap₂, fun_ext}
use Rattle.std.proofs.Common.{◌∙◌, subst, arith}
use mathlib.Core.List.{List, ◌++◌, flatten}
use Prim.Native.Nat.{ℕ, ◌+◌, ◌*◌, ◌≤◌, ◌<◌}
use Rattle.laws.specs.Rows.{span}
use Rattle.laws.specs.Laws.Rows.{span_ext}
use Rattle.laws.specs.Code.Laid.{Lays}
use Rattle.codewords.specs.Bytes.{to_bytes}
use Rattle.wavelet.specs.Planes.{Band}
use Rattle.unit.specs.declared.Settings.{Settings}
use Rattle.unit.specs.declared.PictureKind.{PictureKind}
use Rattle.unit.specs.declared.PictureKind.TheVariants.{HighQuality}
use Rattle.refusals.specs.declared.Refusal.{Refusal}
use Rattle.refusals.specs.Number.{number}
use Rattle.unit.specs.Limits.{unit_limit, lowest_index}
use Rattle.unit.specs.Three.{Three}
use Rattle.unit.specs.Sizes.{luma_size}
use Rattle.unit.specs.Slices.{Grid, slice_count}
use Rattle.unit.specs.Matrix.{matrix_values}
use Rattle.unit.specs.Subbands.{padded_area}
use Rattle.unit.specs.Parameters.{overhead}
use Rattle.unit.specs.Coefficients.{coefficients_of}
use Rattle.unit.specs.Quantised.{numbers_hq}
use Rattle.unit.specs.Plan.{SlicePlan, Plan}
use Rattle.unit.specs.HighQuality.{share_of, index_by, high_plan_of, high_numbers, high_index, high_plan, scaler_from}
use Rattle.unit.proofs.Laws.HighQuality.{needs_most}
use Rattle.unit.specs.Unit.{major_version, grid_of, high_parameters, high_bytes, high_slices_of, scaler_of, plan_of, slice_runs, head_bits, length_of}
use Rattle.unit.specs.Unit as unit
use Rattle.unit.specs.Cut.{cut_count}
use Rattle.unit.specs.Outcome.{coded_of, coding_refusal}
use Rattle.unit.proofs.Laws.Demand.{not-long}
use Rattle.unit.proofs.Laws.Drop.{Whole, all_high, whole_count}
use Rattle.unit.specs.Code.Valid.{RateFits}
use Rattle.unit.proofs.Laws.Valid.{target_few}
use Rattle.unit.proofs.Laws.Soundness.{three, coefficients-within}
use Rattle.picture.specs.declared.slices.layout.Component.{Component}
use Rattle.picture.specs.declared.slices.layout.Picture.{Picture}
use Rattle.picture.specs.declared.high.plan.Terms.{Terms}
use Rattle.picture.specs.declared.coder.plan.Settled.{Settled}
use Rattle.picture.specs.Laws.Number.{Bands, numbers_high}
use Rattle.picture.specs.Code.Analysed.{Holds, is_low, layout_of, picture_of, Called, Analysed}
use Rattle.picture.specs.Code.Picture.{slices_in, run_of, numbers_in}
use Rattle.picture.specs.Code.Choice.{index_in, plan_in, high_runs, terms_of, slices_by, PlanIn}
use Rattle.picture.specs.Code.Passes.{HighIn, Settles}
use Rattle.picture.specs.Code.Notes.{Notes}
use Rattle.picture.specs.Laws.Noted.{high_work, notes_plan, notes_own, runs_alike}
use Rattle.picture.specs.Code.Coded.{Codes, Coding, CodesAny}
use Rattle.picture.specs.Laws.Analysed.{called_arranged, grid_is, slices_are, values_in_lem, bands_y, bands_c1, bands_c2, small_by, holds_y, holds_c1, holds_c2, flatten-span, length_parts, slices_room, codes_refused, codes_written}

-- ---- a slice's plan
-- a picture with as many slices as the grid, and with its numbers
plan-of : (w : List ℤ) (p : Picture) (t : Terms) (g : Grid) (v : List ℕ) (b : Three (List Band)) (k : ℕ) → slices_in p ≡ slice_count g → t.lo ≡ lowest_index
    → numbers_in w p k ≡ high_numbers g v b t.prefix k
    → plan_in w p t k ≡ high_plan g v b t.prefix t.scaler k (high_index g v b t.prefix t.rate t.scaler t.bytes k)
unfolding plan_in index_in high_plan high_index
plan-of w p t g v b k e l f =
    let x = t.prefix in
    let c = t.scaler in
    ap₂ (λ (n : ℕ) (z : ℕ → Three (List ℤ)). let q = index_by t.lo t.rate x c (share_of t.bytes n k) z in high_plan_of x c q (z q)) e f
    ∙ ap (λ (lo : ℕ). let z = high_numbers g v b x k in let q = index_by lo t.rate x c (share_of t.bytes (slice_count g) k) z in high_plan_of x c q (z q)) l

-- ---- the call's slices
module _ (s : Settings) (m : List ℕ) (p : Three (List ℕ)) (w : List ℤ) (d : Called s m) (a : Analysed s p w) (e : s.kind ≡ HighQuality) where
  not_predicted : (picture_of s m).layout.predicted ≡ false
  unfolding picture_of layout_of
  not_predicted = ap is_low e

  run_is : (c : Component) (bs : List Band) → Bands (picture_of s m).layout c bs → Holds w c.coefs bs → (k q : ℕ) → k < slices_in (picture_of s m)
      → run_of w (picture_of s m) c k q ≡ numbers_hq (grid_of s) (matrix_values s m) bs q k
  run_is c bs bands has k q h =
      numbers_high w (picture_of s m).layout c c (matrix_values s m) bs k q bands has h (values_in_lem s m d) not_predicted
      ∙ ap (λ (g : Grid). numbers_hq g (matrix_values s m) bs q k) (grid_is s m)

  pub numbers_are : (x k : ℕ) → k < slices_in (picture_of s m)
      → numbers_in w (picture_of s m) k ≡ high_numbers (grid_of s) (matrix_values s m) (coefficients_of s p) x k
  unfolding numbers_in high_numbers
  numbers_are x k h =
      let b = coefficients_of s p in
      fun_ext (λ q. three
      (run_is (picture_of s m).y b.y (bands_y s m p) (holds_y s m a) k q h)
      (run_is (picture_of s m).c1 b.c1 (bands_c1 s m p) (holds_c1 s m a) k q h)
      (run_is (picture_of s m).c2 b.c2 (bands_c2 s m p) (holds_c2 s m a) k q h))

  pub slices_by_lem : (c : ℕ) → slices_by w (picture_of s m) s m c ≡ high_slices_of s m (coefficients_of s p) c
  slices_by_lem c =
      let b = coefficients_of s p in
      let g = grid_of s in
      let v = matrix_values s m in
      let x = s.slice_prefix_bytes in
      let f : ℕ → SlicePlan = λ k. high_plan g v b x c k (high_index g v b x s.rate c (high_bytes s m c) k) in
      span_ext (plan_in w (picture_of s m) (terms_of s m c)) f 0 (slices_in (picture_of s m))
      (λ k o h. plan-of w (picture_of s m) (terms_of s m c) g v b k (slices_are s m) refl (numbers_are x k (omega arith)))
      ∙ ap (span f 0) (slices_are s m)

  -- ---- the scaler
  pub scaler_is : (r : Settled) → Settles w (picture_of s m) s m r → r.scaler ≡ scaler_of s m (coefficients_of s p)
  unfolding scaler_of
  scaler_is r z =
      let b = coefficients_of s p in
      let most = 16 * padded_area s (luma_size s) in
      z.scaler most most
      (λ c. rw (slices_by_lem c)
      (needs_most (grid_of s) (matrix_values s m) b s.slice_prefix_bytes s.rate c (high_bytes s m c) (padded_area s (luma_size s)) (coefficients-within s p)))
      (omega arith)
      ∙ ap (λ (f : ℕ → List SlicePlan). scaler_from f most s.slice_size_scaler) (fun_ext slices_by_lem)

-- ---- the plan as the code has it
abbrev pub code_plan : List ℤ → Picture → Settings → List ℕ → ℕ → Plan
code_plan w p s m c = record { parameters = high_parameters s m c; slices = slices_by w p s m c }

unit-plan : (s : Settings) (m : List ℕ) (p : Three (List ℕ)) (kind : PictureKind) → s.kind ≡ kind → plan_of s m p ≡ unit.plan_by s m kind (coefficients_of s p)
unfolding plan_of
unit-plan s m p kind e = ap (λ (k : PictureKind). unit.plan_by s m k (coefficients_of s p)) e

pub plan_is : (s : Settings) (m : List ℕ) (p : Three (List ℕ)) (w : List ℤ) → Called s m → Analysed s p w → s.kind ≡ HighQuality
    → (r : Settled) → Settles w (picture_of s m) s m r → code_plan w (picture_of s m) s m r.scaler ≡ plan_of s m p
plan_is s m p w d a e r z =
    let b = coefficients_of s p in
    ap (λ (ss : List SlicePlan). record { parameters = high_parameters s m r.scaler; slices = ss }) (slices_by_lem s m p w d a e r.scaler)
    ∙ ap (λ (c : ℕ). record { parameters = high_parameters s m c; slices = high_slices_of s m b c }) (scaler_is s m p w d a e r z)
    ∙ sym (unit-plan s m p HighQuality e)

module _ (w : List ℤ) (p : Picture) (s : Settings) (m : List ℕ) where
  -- the slices' bytes
  pub runs_are : (c : ℕ) → high_runs w p (terms_of s m c) (slices_in p) ≡ flatten (slice_runs (slices_by w p s m c))
  runs_are c = sym (flatten-span (plan_in w p (terms_of s m c)) (slices_in p))

  pub length_is : (r : Settled) → Settles w p s m r → r.end ≡ length_of s (code_plan w p s m r.scaler)
  length_is r z =
      z.end ∙ ap (λ (b : List ℕ). overhead (major_version s) (high_parameters s m r.scaler) + length b) (runs_are r.scaler)
      ∙ sym (length_parts s (code_plan w p s m r.scaler))

  -- no slice drops a number
  count_is : (c : ℕ) → cut_count (code_plan w p s m c) ≡ 0
  unfolding cut_count plan_in
  count_is c = whole_count (slices_by w p s m c) (all_high Whole _ (λ k. refl) 0 (slices_in p))

  coded_is : (c n cut : ℕ) → n ≡ length_of s (code_plan w p s m c) → cut ≡ 0
      → record { written = n; cut_slices = cut; slice_size_scaler = c } ≡ coded_of s (code_plan w p s m c)
  unfolding coded_of
  coded_is c n cut f g =
      ap₂ (λ (n k : ℕ). record { written = n; cut_slices = k; slice_size_scaler = c }) f (g ∙ sym (count_is c))

-- ---- answer and output
module _ {w : List ℤ} {p : Picture} {s : Settings} {m : List ℕ} (k : Coding s m HighQuality p w) {r : Settled} (z : Settles w p s m r) (out : List ℕ) where
  -- whatever planes the work slice has been analysed from
  any_plan : (o : List ℕ) {answer : _} → Codes s (code_plan w p s m r.scaler) out o answer → CodesAny s m w out o answer
  any_plan o {answer} h = record {
    codes = λ q a.
        let z' : Settles w (picture_of s m) s m r = subst (λ (p : Picture). Settles w p s m r) k.picture z in
        subst (λ (a : Plan). Codes s a out o answer)
        (ap (λ (p : Picture). code_plan w p s m r.scaler) k.picture ∙ plan_is s m q w k.called a k.same r z') h;
  }

  refusal_is : coding_refusal (length out) r.end ≡ coding_refusal (length out) (length_of s (code_plan w p s m r.scaler))
  refusal_is = ap (coding_refusal (length out)) (length_is w p s m r z)

  pub high_refused : (f : Refusal) → number f ≡ coding_refusal (length out) r.end → CodesAny s m w out out (Err f)
  high_refused f e = any_plan out (codes_refused s (code_plan w p s m r.scaler) out f (e ∙ refusal_is))

  -- n is the length as the answer has it
  pub high_written : coding_refusal (length out) r.end ≡ 0 → (t : Terms) (n at end cut : ℕ) (o o' : List ℕ) → t ≡ terms_of s m r.scaler → n ≡ r.end
      → at ≡ overhead (major_version s) (high_parameters s m r.scaler) → o ≡ to_bytes (head_bits s n (high_parameters s m r.scaler)) ++ drop at out
      → Lays o at (high_runs w p t (slices_in p)) o' end → cut ≡ 0
      → CodesAny s m w out o' (Ok (record { written = n; cut_slices = cut; slice_size_scaler = r.scaler }))
  high_written e t n at end cut o o' et en ea eo l ec =
      let c = r.scaler in
      let f : n ≡ length_of s (code_plan w p s m c) = en ∙ length_is w p s m r z in
      any_plan o' (codes_written s (code_plan w p s m c) out n at end o o' (record { written = n; cut_slices = cut; slice_size_scaler = c }) (sym refusal_is ∙ e) f ea eo
      (subst (λ (b : List ℕ). Lays o at b o' end) (ap (λ (t : Terms). high_runs w p t (slices_in p)) et ∙ runs_are w p s m c) l) (coded_is w p s m c n cut f ec))

-- ---- what the calls ask
plain_by : (s : Settings) (m : List ℕ) → s.kind ≡ HighQuality → (picture_of s m).layout.predicted ≡ false
unfolding picture_of layout_of
plain_by s m e = ap is_low e

module _ {w : List ℤ} {p : Picture} {s : Settings} {m : List ℕ} (k : Coding s m HighQuality p w) where
  rate_in_lem : RateFits HighQuality s.rate
  rate_in_lem = subst (λ (k : PictureKind). RateFits k s.rate) k.same k.called.rate

  pub high_in : HighIn s p w
  high_in = subst (λ (p : Picture). HighIn s p w) (sym k.picture) (record {
    arranged = called_arranged k.called;
    plain = plain_by s m k.same;
    small = small_by s m k.small;
    rate = rate_in_lem;
    shape = k.called.shape;
  })

  module _ {r : Settled} (z : Settles w p s m r) where
    plan_in_lem : PlanIn p (terms_of s m r.scaler) w
    plan_in_lem = record {
      arranged = high_in.arranged;
      plain = high_in.plain;
      small = high_in.small;
      terms = record {
        rate = rate_in_lem;
        prefix = k.called.shape.prefix;
        scaler = (z.some, z.few);
        bytes = omega (arith, target_few HighQuality s.rate rate_in_lem);
        lo = omega arith;
      };
    }

    -- where the unit is not too long
    module _ (out : List ℕ) (e : coding_refusal (length out) r.end ≡ 0) where
      pub end_fits : (r.end ≤ length out) × (r.end ≤ unit_limit)
      end_fits = rw (length_is w p s m r z) (not-long (length out) (length_of s (code_plan w p s m r.scaler)) (sym (refusal_is k z out) ∙ e))

      pub head_room : overhead (major_version s) (high_parameters s m r.scaler) ≤ length out
      head_room = omega (arith, end_fits.0, z.end)

      -- behind the head there is room for the slices
      runs_room : (n at : ℕ) (o : List ℕ) → n ≡ r.end → at ≡ overhead (major_version s) (high_parameters s m r.scaler)
          → o ≡ to_bytes (head_bits s n (high_parameters s m r.scaler)) ++ drop at out
          → at + length (high_runs w p (terms_of s m r.scaler) (slices_in p)) ≤ length o
      runs_room n at o en ea eo =
          let a = code_plan w p s m r.scaler in
          let f = length_is w p s m r z in
          rw (runs_are w p s m r.scaler) (slices_room s a out n at o (rw (← f) end_fits.0) (en ∙ f) ea eo)

      pub slices_ready : (t : Terms) (n at : ℕ) (o : List ℕ) → t ≡ terms_of s m r.scaler → n ≡ r.end
          → at ≡ overhead (major_version s) (high_parameters s m r.scaler)
          → o ≡ to_bytes (head_bits s n (high_parameters s m r.scaler)) ++ drop at out
          → PlanIn p t w × (at + length (high_runs w p t (slices_in p)) ≤ length o)
      slices_ready t n at o et en ea eo =
          subst (λ (t : Terms). PlanIn p t w × (at + length (high_runs w p t (slices_in p)) ≤ length o)) (sym et) (plan_in_lem, runs_room n at o en ea eo)

      -- what writing the slices asks, where the choices are noted in v
      pub slices_noted : {v : List ℤ} → Notes w p (terms_of s m r.scaler) (slices_in p) v → (t : Terms) (n at : ℕ) (o : List ℕ) → t ≡ terms_of s m r.scaler → n ≡ r.end
          → at ≡ overhead (major_version s) (high_parameters s m r.scaler)
          → o ≡ to_bytes (head_bits s n (high_parameters s m r.scaler)) ++ drop at out
          → PlanIn p t v
          × (Notes v p t (slices_in p) v × (at + length (high_runs v p t (slices_in p)) ≤ length o))
      slices_noted {v} h t n at o et en ea eo =
          let g = slices_ready t n at o et en ea eo in
          let i = subst (λ (t : Terms). Notes w p t (slices_in p) v) (sym et) h in
          let a = high_work high_in in
          (notes_plan i g.0, (notes_own a i, rw (runs_alike p w v a h.same t) g.1))

  -- the slices' bytes are the same
  pub noted_laid : {v : List ℤ} {u : Terms} (t : Terms) {o o' : List ℕ} {at end : ℕ} → Notes w p u (slices_in p) v
      → Lays o at (high_runs v p t (slices_in p)) o' end → Lays o at (high_runs w p t (slices_in p)) o' end
  noted_laid {v} t {o} {o'} {at} {end} h l = subst (λ (b : List ℕ). Lays o at b o' end) (runs_alike p w v (high_work high_in) h.same t) l
