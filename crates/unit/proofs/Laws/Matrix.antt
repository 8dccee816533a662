-- Annex D's matrices have as many values as there are subbands, none above 255, and it has none for depths that sum to
-- more than 5. A plan takes no more of the lent matrix than the carried one and the values.
use Rattle.std.specs.Prelude.{◌≡◌, refl, Bool, true, false, not, cond, ◌&&◌, ◌||◌, List, [], ◌∷◌, ℕ, zero, suc, ◌+◌, ◌-◌, ◌*◌, ◌≤◌, ◌<◌, ltb, length}
use Rattle.std.proofs.Common.{sym, ap₂, ◌∙◌, arith}
use Rattle.std.proofs.Math.Option.{Option, none, some}
use Rattle.std.proofs.Math.Dec.{eqb}
use Rattle.std.proofs.Math.ListN.{get_elem?}
use Rattle.quantiser.specs.AnnexD.{Table, table_d1, table_d2, table_d3, table_d4, table_d5, table_d6, table_d7, table_d8, and_then, tables, default_matrix}
use Rattle.wavelet.specs.Planes.{Band}
use Rattle.unit.specs.declared.Settings.{Settings}
use Rattle.unit.specs.declared.PictureKind.{PictureKind}
use Rattle.unit.specs.declared.PictureKind.TheVariants.{LowDelay, HighQuality}
use Rattle.unit.specs.Three.{Three}
use Rattle.unit.specs.Sizes.{luma_size}
use Rattle.unit.specs.Slices.{slice_count}
use Rattle.unit.specs.Subbands.{subband_count, padded_area}
use Rattle.unit.specs.Refusal.{any_above}
use Rattle.unit.specs.Matrix.{matrix_values, carried_matrix}
use Rattle.unit.specs.Parameters.{SliceParameters, low_delay, high_quality, Parameters, overhead}
use Rattle.unit.specs.Coefficients.{coefficients_of}
use Rattle.unit.specs.Plan.{SlicePlan, Plan}
use Rattle.unit.specs.LowDelay.{numerator, low_slices, zero_planes}
use Rattle.unit.specs.HighQuality.{high_slices, scaler_from}
use Rattle.unit.specs.Unit.{major_version, grid_of, target_of, numerator_of, scaler_of, plan_by, plan_of}
use Rattle.unit.specs.Code.Valid.{AllMost}
use Rattle.unit.proofs.Laws.Test.{or-none, both, at_most, same, all_most}

-- a matrix for horizontal-only depth k and depth d
pub record Matrix (k d : ℕ) (vs : List ℕ) : Type 0 where
  pub many : length vs ≡ subband_count k d
  pub small : AllMost 255 vs
  pub shallow : k + d ≤ 5

-- such a matrix, if there is one
abbrev pub MatrixIf : ℕ → ℕ → Option (List ℕ) → Type 0
MatrixIf k d none = Unit {0}
MatrixIf k d (some vs) = Matrix k d vs

-- ---- the computed test of a table: blocks from horizontal-only depth k on, matrices from depth d on
abbrev bad_matrix : ℕ → ℕ → List ℕ → Bool
bad_matrix k d vs = not (eqb (length vs) (subband_count k d)) || (any_above 255 vs || ltb 5 (k + d))

abbrev bad_matrices : ℕ → ℕ → List (List ℕ) → Bool
bad_matrices k d [] = false
bad_matrices k d (vs ∷ b) = bad_matrix k d vs || bad_matrices k (suc d) b

abbrev bad_blocks : ℕ → Table → Bool
bad_blocks k [] = false
bad_blocks k (b ∷ t) = bad_matrices k 0 b || bad_blocks (suc k) t

abbrev bad_tables : List Table → Bool
bad_tables [] = false
bad_tables (t ∷ ts) = bad_blocks 0 t || bad_tables ts

annex_d : bad_tables (table_d8 ∷ tables) ≡ false
unfolding table_d1 table_d2 table_d3 table_d4 table_d5 table_d6 table_d7 table_d8
annex_d = refl

-- ---- what a lookup finds
in_block : (k d : ℕ) (b : List (List ℕ)) → bad_matrices k d b ≡ false → (i j : ℕ) → j ≡ d + i → MatrixIf k j (get_elem? b i)
in_block k d [] e i j h = tt
in_block k d (vs ∷ b) e zero j h =
    let good = both (same (length vs) (subband_count k d)) (both (all_most 255 vs) (at_most 5 (k + d))) in
    let v = good.0 ((or-none (bad_matrix k d vs) (bad_matrices k (suc d) b)).0 e).0 in
    record { many = omega arith; small = v.1.0; shallow = omega arith }
in_block k d (vs ∷ b) e (suc i) j h = in_block k (suc d) b ((or-none (bad_matrix k d vs) (bad_matrices k (suc d) b)).0 e).1 i j (omega arith)

in_table : (k : ℕ) (t : Table) → bad_blocks k t ≡ false → (i j d : ℕ) → j ≡ k + i → MatrixIf j d (and_then (get_elem? t i) (λ b. get_elem? b d))
in_table k [] e i j d h = tt
in_table k (b ∷ t) e zero j d h =
    let g : j ≡ k = omega arith in
    rw g (in_block k 0 b ((or-none (bad_matrices k 0 b) (bad_blocks (suc k) t)).0 e).0 d d (omega arith))
in_table k (b ∷ t) e (suc i) j d h = in_table (suc k) t ((or-none (bad_matrices k 0 b) (bad_blocks (suc k) t)).0 e).1 i j d (omega arith)

module _ (d k : ℕ) where
  abbrev of_table : Option Table → Option (List ℕ)
  of_table o = and_then o (λ t. and_then (get_elem? t k) (λ b. get_elem? b d))

  in_tables : (ts : List Table) → bad_tables ts ≡ false → (i : ℕ) → MatrixIf k d (of_table (get_elem? ts i))
  in_tables [] e i = tt
  in_tables (t ∷ ts) e zero = in_table 0 t ((or-none (bad_blocks 0 t) (bad_tables ts)).0 e).0 k k d (omega arith)
  in_tables (t ∷ ts) e (suc i) = in_tables ts ((or-none (bad_blocks 0 t) (bad_tables ts)).0 e).1 i

  by_cond : (c : Bool) (a b : Option Table) → MatrixIf k d (of_table a) → MatrixIf k d (of_table b) → MatrixIf k d (of_table (cond c a b))
  by_cond true a b f g = f
  by_cond false a b f g = g

  pub default_matrix_lem : (w h : ℕ) → MatrixIf k d (default_matrix w h d k)
  unfolding default_matrix
  default_matrix_lem w h =
      let all = in_tables (table_d8 ∷ tables) annex_d in
      by_cond (eqb w h) (get_elem? tables w) (cond (eqb w 3 && eqb h 1) (some table_d8) none) (all (suc w))
      (by_cond (eqb w 3 && eqb h 1) (some table_d8) none (all 0) tt)

  -- document 02, (iii), "Where Annex D has no default": above depths that sum to 5 it has none, whatever the wavelets
  pub no_default : (w h : ℕ) → 5 < k + d → default_matrix w h d k ≡ none
  no_default w h l = by (default_matrix w h d k) (default_matrix_lem w h)
    where
      by : (o : Option (List ℕ)) → MatrixIf k d o → o ≡ none
      by none m = refl
      by (some vs) m = absurd (omega (arith, m.shallow))

-- ---- the plan of a call by what it takes of the lent matrix: o is the carried one, vs are the values
module _ (s : Settings) (o : Option (List ℕ)) (vs : List ℕ) where
  abbrev parameters_with : SliceParameters → Parameters
  parameters_with p = record {
    wavelet = s.wavelet_index;
    depth = s.dwt_depth;
    wavelet_ho = s.wavelet_index_ho;
    depth_ho = s.dwt_depth_ho;
    across = s.slices_x;
    down = s.slices_y;
    slice_parameters = p;
    matrix = o;
  }

  abbrev low_with : ℕ → Parameters
  low_with n = parameters_with (low_delay n (slice_count (grid_of s)))

  abbrev high_with : ℕ → Parameters
  high_with c = parameters_with (high_quality s.slice_prefix_bytes c)

  abbrev slices_with : Three (List Band) → ℕ → List SlicePlan
  slices_with b c = high_slices (grid_of s) vs b s.slice_prefix_bytes s.rate c (target_of s.rate - (overhead (major_version s) (high_with c)))

  abbrev plan_with : PictureKind → Three (List Band) → Plan
  plan_with LowDelay b =
      let n = numerator (major_version s) (target_of s.rate) (slice_count (grid_of s)) low_with in
      record { parameters = low_with n; slices = low_slices (grid_of s) vs b n zero_planes 0 (slice_count (grid_of s)) }
  plan_with HighQuality b =
      let c = scaler_from (slices_with b) (16 * padded_area s (luma_size s)) s.slice_size_scaler in
      record { parameters = high_with c; slices = slices_with b c }

plan_by_lem : (s : Settings) (m : List ℕ) (k : PictureKind) (b : Three (List Band)) → plan_by s m k b ≡ plan_with s (carried_matrix s m) (matrix_values s m) k b
unfolding numerator_of scaler_of
plan_by_lem s m LowDelay b = refl
plan_by_lem s m HighQuality b = refl

pub plan-same : (s : Settings) (m n : List ℕ) (p : Three (List ℕ)) → carried_matrix s m ≡ carried_matrix s n → matrix_values s m ≡ matrix_values s n
    → plan_of s m p ≡ plan_of s n p
unfolding plan_of
plan-same s m n p e f =
    let b = coefficients_of s p in
    plan_by_lem s m s.kind b ∙ ap₂ (λ (o : Option (List ℕ)) (vs : List ℕ). plan_with s o vs s.kind b) e f ∙ sym (plan_by_lem s n s.kind b)
