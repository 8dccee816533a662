-- Laws of intlog2 by the next power of two, of padded sides and areas, and of a call's matrix in its places.
use Rattle.std.specs.Prelude.{◌≡◌, Bool, true, false, Some, None, ℕ, zero, suc, ◌+◌, ◌-◌, ◌*◌, ◌/◌, ◌^◌, ◌≤◌, ◌<◌, max, length, get_or, take, drop, set, replicate}
use Rattle.std.specs.Prelude as prelude
use Rattle.std.proofs.Math.Path.{refl, sym}
use Rattle.std.proofs.Common.{ap, ◌∙◌, subst, le_antisymm, le_trans, zero-add, mul-le-mul, add-one, arith, pow_mono, pow_pos, take_all, take_at}
use Rattle.std.proofs.Math.Bool.{not}
use mathlib.Core.List.{List, []}
use Rattle.std.proofs.Math.Option
use Rattle.std.proofs.Math.Option.{Option, none, some}
use Rattle.std.proofs.Math.Decide.{dec_le}
use Rattle.std.proofs.Math.Seq.{paste, paste-suc}
use Rattle.std.proofs.Math.Nat.{pow-suc}
use Rattle.std.specs.Int.{IsPowerOfTwo}
use Rattle.quantiser.specs.AnnexD.{default_matrix}
use Rattle.quantiser.specs.Code.Default as default
use Rattle.quantiser.specs.Code.Default.{matrix_places, places, handed}
use Rattle.wavelet.specs.Depth.{deepest}
use Rattle.unit.specs.declared.Settings.{Settings}
use Rattle.unit.specs.Sizes.{Size, luma_size, colour_size, intlog2}
use Rattle.unit.specs.Subbands.{padded_size, padded_area}
use Rattle.unit.specs.Matrix.{default_of, matrix_values, carried_matrix}
use Rattle.unit.specs.Refusal.{is_none}
use Rattle.unit.specs.Code.Valid.{MatrixFits}
use Rattle.unit.proofs.Laws.Test.{no_truth}
use Rattle.unit.proofs.Laws.Intlog2.{intlog2-least}
use Rattle.unit.proofs.Laws.Padded.{wide_few, high_few}
use Rattle.unit.proofs.Laws.Valid.{levels_few, luma-fits, colour-fits}
use Rattle.picture.specs.Code.Sides.{Measured, InFrame}
use Rattle.picture.specs.Code.Matrix.{CarriedOf}
use Rattle.wavelet.specs.RowCall.{row_limit}

-- ---- intlog2
pub log_more : (n m : ℕ) → 2 ^ m < n → m < intlog2 n
log_more n m h = by (dec_le (intlog2 n) m)
  where
    by : Dec (intlog2 n ≤ m) → m < intlog2 n
    by (yes l) =
        let e = (intlog2-least n).enough in
        let p = pow_mono {i = intlog2 n} {j = m} l in
        absurd (omega arith)
    by (no l) = omega arith

pub log_few : (n : ℕ) → n < 2 ^ 62 → intlog2 n < 63
log_few n h = let l = (intlog2-least n).least 62 (omega arith) in omega arith

pub log_is : (n m : ℕ) → n ≤ 2 ^ m → m ≤ intlog2 n → m ≡ intlog2 n
log_is n m h l = le_antisymm l ((intlog2-least n).least m h)

log_by : (n r : ℕ) → n ≤ 2 ^ r → 2 ^ r / 2 < max 1 n → r ≡ intlog2 n
log_by n zero h u = log_is n 0 h (omega arith)
log_by n (suc j) h u = log_is n (suc j) h (log_more n j (omega (arith, pow-suc 2 j, pow_pos j)))

same_power : (k r : ℕ) → 2 ^ r ≤ 2 ^ k → 2 ^ k < 2 * 2 ^ r → k ≡ r
same_power k r l g = le_antisymm (lower (dec_le k r)) (upper (dec_le r k))
  where
    lower : Dec (k ≤ r) → k ≤ r
    lower (yes h) = h
    lower (no h) = let p = pow_mono {i = suc r} {j = k} (omega arith) in absurd (omega (arith, pow-suc 2 r))

    upper : Dec (r ≤ k) → r ≤ k
    upper (yes h) = h
    upper (no h) = let p = pow_mono {i = suc k} {j = r} (omega arith) in absurd (omega (arith, pow-suc 2 k, pow_pos k))

-- the logarithm r of the power p of two that is next to n
pub log_next : (n p r : ℕ) → IsPowerOfTwo p → n ≤ p → p / 2 < max 1 n → 2 ^ r ≤ p → p < 2 * 2 ^ r → r ≡ intlog2 n
log_next n p r (k, e) h u l g =
    let q = same_power k r (rw e at l) (rw e at g) in
    let f : p ≡ 2 ^ r = rw q at e in
    log_by n r (rw f at h) (rw f at u)

-- ---- areas
pub luma-within : (s : Settings) (z : Size) → z ≡ luma_size s → InFrame s z
luma-within s z e = let f = luma-fits s in rw e (record { width = f.0; height = f.1 })

pub colour-within : (s : Settings) (z : Size) → z ≡ colour_size s → InFrame s z
colour-within s z e =
    let f = luma-fits s in
    let c = colour-fits s in
    rw e (record { width = le_trans c.0 f.0; height = le_trans c.1 f.1 })

pub padded-area_few : (s : Settings) (z : Size) → Measured s → InFrame s z → padded_area s z ≤ 17179869184
padded-area_few s z m w =
    let k = s.dwt_depth_ho in
    let d = s.dwt_depth in
    let l : k + d ≤ deepest = omega (arith, levels_few s m.shape) in
    let h : padded_area s z ≤ row_limit * row_limit =
    mul-le-mul {n₁ = (padded_size k d z).width} {m₁ = (padded_size k d z).height} {n₂ = row_limit} {m₂ = row_limit}
    (wide_few k d z l (omega (arith, m.frame.width.few, w.width))) (high_few k d z l (omega (arith, m.frame.height.few, w.height))) in
    omega arith

-- ---- the places, the first i of them filled
abbrev pub filled_to : List ℕ → ℕ → List ℕ
filled_to vs i = paste (replicate matrix_places 0) 0 vs i

pub filled_next : (vs xs : List ℕ) (i : ℕ) → length vs ≤ matrix_places → i < length vs → xs ≡ filled_to vs i → set xs i (get_or vs i 0) ≡ filled_to vs (i + 1)
filled_next vs xs i l h p =
    let m : 0 + i < matrix_places = omega arith in
    rw (p, add-one i, ← paste-suc (replicate matrix_places 0) 0 vs i 0 m h, zero-add i)

drop-zeros : (n i : ℕ) → drop {A = ℕ} i (replicate n 0) ≡ replicate (n - i) 0
drop-zeros n zero = let e : n - 0 ≡ n = omega arith in rw e
drop-zeros zero (suc i) = let e : 0 - suc i ≡ 0 = omega arith in rw e
drop-zeros (suc n) (suc i) = let e : suc n - suc i ≡ n - i = omega arith in rw e (drop-zeros n i)

pub filled-places : (vs xs : List ℕ) (i : ℕ) → i ≡ length vs → xs ≡ filled_to vs i → xs ≡ places vs
filled-places vs xs i e p =
    let z : 0 + i ≡ length vs = omega arith in
    p ∙ rw (z, e, drop-zeros matrix_places (length vs), take_all (length vs) vs (omega arith))

-- ---- the lent matrix
module _ (s : Settings) (m : List ℕ) where
  pub custom_few : s.custom_matrix ≡ true → s.dwt_depth + s.dwt_depth_ho ≤ deepest → MatrixFits s m s.custom_matrix (default_of s) → length m ≤ matrix_places
  custom_few e d f = by s.custom_matrix e f
    where
      by : (b : Bool) → b ≡ true → MatrixFits s m b (default_of s) → length m ≤ matrix_places
      by true p g = omega (arith, g.0)
      by false p g = no_truth (sym p)

  custom_values : s.custom_matrix ≡ true → matrix_values s m ≡ m
  unfolding matrix_values
  custom_values e = rw e refl

  by_default : s.custom_matrix ≡ false → matrix_values s m ≡ Option.get_or (default_of s) []
  unfolding matrix_values
  by_default e = rw e refl

-- ---- the matrix that is made of the lent one
fits_default : (s : Settings) (m n : List ℕ) (b : Bool) (d : Option (List ℕ)) → b ≡ false → MatrixFits s m b d → MatrixFits s n b d
fits_default s m n true d e f = no_truth e
fits_default s m n false none e f = f
fits_default s m n false (some vs) e f = tt

module _ (s : Settings) (m xs : List ℕ) where
  pub custom_carried : s.custom_matrix ≡ true → length m ≤ matrix_places → MatrixFits s m s.custom_matrix (default_of s) → xs ≡ places m
      → CarriedOf s m (record { values = xs; carried = Some (length m) })
  custom_carried e l f p =
      let t : take (length m) xs ≡ m = rw p (take_at m (replicate (matrix_places - length m) 0) (length m) refl) in
      record {
        carries = record { carried = sym e; few = l; values = p ∙ sym (ap places (ap (matrix_values s) t ∙ custom_values s m e)) };
        matrix = ap (carried_matrix s) t;
        values = ap (matrix_values s) t;
        fits = subst (λ (vs : List ℕ). MatrixFits s vs s.custom_matrix (default_of s)) (sym t) f;
      }

  pub default_carried : s.custom_matrix ≡ false → MatrixFits s m s.custom_matrix (default_of s) → xs ≡ places (Option.get_or (default_of s) [])
      → CarriedOf s m (record { values = xs; carried = None })
  unfolding carried_matrix
  default_carried e f p = record {
    carries = record { carried = sym e; few = omega arith; values = p ∙ sym (ap places (by_default s [] e)) };
    matrix = rw e;
    values = by_default s [] e ∙ sym (by_default s m e);
    fits = fits_default s m [] s.custom_matrix (default_of s) e f;
  }

-- ---- the default
module _ (w h d k : ℕ) where
  pub default_missing : not (prelude.is_some (default.default_of w h d k)) ≡ is_none (default_matrix w h d k)
  unfolding default.default_of
  default_missing = by (default_matrix w h d k)
    where
      by : (o : Option (List ℕ)) → not (prelude.is_some (handed o)) ≡ is_none o
      by none = refl
      by (some vs) = refl

  pub default_values : (vs : List ℕ) → default.default_of w h d k ≡ Some vs → vs ≡ places (Option.get_or (default_matrix w h d k) [])
  unfolding default.default_of
  default_values vs = by (default_matrix w h d k)
    where
      by : (o : Option (List ℕ)) → handed o ≡ Some vs → vs ≡ places (Option.get_or o [])
      by none e = no_truth (sym (ap prelude.is_some e))
      by (some us) e = sym (ap (λ (o : prelude.Option (List ℕ)). prelude.unwrap_or o []) e)

-- a call that is not refused with 10 finds its default
pub default_found : (s : Settings) (m : List ℕ) → s.custom_matrix ≡ false → MatrixFits s m s.custom_matrix (default_of s)
    → prelude.IsSome (default.default_of s.wavelet_index s.wavelet_index_ho s.dwt_depth s.dwt_depth_ho)
unfolding default.default_of
default_found s m = by s.custom_matrix (default_of s)
  where
    by : (b : Bool) (d : Option (List ℕ)) → b ≡ false → MatrixFits s m b d → prelude.IsSome (handed d)
    by true d e f = no_truth e
    by false none e f = absurd f
    by false (some vs) e f = refl
