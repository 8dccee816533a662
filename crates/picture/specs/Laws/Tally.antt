-- Laws of tallies: one number as the code adds it, what the tally of a run is, and the bits of a run without trailing
-- zeros.
use Rattle.std.specs.Prelude.{◌≡◌, Some, refl, Bool, false, cond, List, [], ◌∷◌, ◌++◌, ℕ, zero, suc, ◌+◌, ◌-◌, ◌^◌, ◌≤◌, eqb, ℤ, pos, negsuc, nat_abs, ◌-ℤ◌, length}
use Rattle.std.proofs.Common.{sym, ap, ap₂, ◌∙◌, arith, length-append}
use Rattle.std.proofs.Math.IntN.{+ℤ_idr}
use Rattle.codewords.specs.CodeWord.{code_s, codes}
use Rattle.codewords.specs.Laws.Code.{length-code_s-zero}
use Rattle.quantiser.specs.Quant.{forward_by}
use Rattle.unit.specs.Trim.{trim_cons, trimmed, bits_of, trimmed_cost}
use Rattle.unit.proofs.Laws.Trim.{length-trimmed, Small}
use Rattle.picture.specs.declared.slices.strip.Origin.{Origin}
use Rattle.picture.specs.declared.slices.strip.Strip.{Strip}
use Rattle.picture.specs.declared.slices.cost.Cost.{Cost}
use Rattle.picture.specs.declared.slices.tally.Tally.{Tally}
use Rattle.picture.specs.Code.Strip.{plane_from, number_in, second_number, place_numbers}
use Rattle.picture.specs.Laws.Strip.{prediction_no, second_one, place_is}
use Rattle.picture.specs.Code.Cost.{Counted, fitted, kept, add1, added, add_all, no_cost}
use Rattle.picture.specs.Code.Counter.{tally_counts}
use Rattle.picture.specs.Laws.Counter.{counted_fewer, counted_after, counted_one}
use Rattle.picture.specs.Laws.Cost.{one_bit, cost-of}
use Rattle.picture.specs.Code.Tally.{tally1, tally_len, tally_all, no_tally, tally_of, trimmed_of, trimmed_by, Addable}

-- ---- one number
pub tallied_yes : (t : Tally) (n : ℕ) → n ≡ 1 → record { bits = t.bits + n; count = t.count + 1; keep = t.keep } ≡ tally_len t n
tallied_yes t n e = rw e

pub tallied_no : (t : Tally) (n : ℕ) → eqb n 1 ≡ false → record { bits = t.bits + n; count = t.count + 1; keep = t.count + 1 } ≡ tally_len t n
tallied_no t n e = rw e

pub tallied_len : (t : Tally) (z : ℤ) (n : ℕ) (r : Tally) → n ≡ length (code_s z) → r ≡ tally_len t n → r ≡ tally1 t z
tallied_len t z n r e d =
    d ∙ ap₂ (λ (b : Bool) (n : ℕ). record { bits = t.bits + n; count = t.count + 1; keep = cond b t.keep (t.count + 1) }) (one_bit z n e) e

-- ---- what has been added up
-- there is room for n numbers behind xs
pub addable_after : (t : Tally) (xs : List ℤ) (m n : ℕ) → Addable t m → Small xs → length xs + n ≤ m → Addable (tally_all t xs) n
addable_after = counted_after tally_counts

-- where two numbers can be added, one can
pub countable_less : {b m : ℕ} → Counted b m 2 → Counted b m 1
countable_less h = counted_fewer h (omega arith)

pub addable_one : (t r : Tally) (z : ℤ) → Addable t 2 → nat_abs z ≤ 2 ^ 63 → r ≡ tally1 t z → Addable r 1
addable_one = counted_one tally_counts

-- ---- the tally of a run
pub tally_cost : (c : Cost) (xs : List ℤ) → tally_of (add_all c xs) ≡ tally_all (tally_of c) xs
unfolding added fitted kept
tally_cost c [] = refl
tally_cost c (z ∷ xs) = tally_cost (add1 c z) xs

-- a run's bits, count, and count without trailing zeros
pub record TallyOf (xs : List ℤ) (t : Tally) : Type 0 where
  pub bits : t.bits ≡ bits_of xs
  pub count : t.count ≡ length xs
  pub keep : t.keep ≡ length (trimmed xs)

pub tally_of_lem : (xs : List ℤ) (t : Tally) → t ≡ tally_all no_tally xs → TallyOf xs t
tally_of_lem xs t e =
    let h = cost-of 0 xs in
    let d : t ≡ tally_of (add_all (no_cost 0) xs) = e ∙ sym (tally_cost (no_cost 0) xs) in
    rw d (record { bits = h.bits; count = h.count; keep = h.keep })

pub bits-more : (x : ℤ) (xs : List ℤ) → bits_of (x ∷ xs) ≡ length (code_s x) + bits_of xs
unfolding codes
bits-more x xs = length-append (code_s x) (codes xs)

pub bits_none : bits_of [] ≡ 0
unfolding codes
bits_none = refl

-- trailing zeros have a bit each
pub trailing_bits : (xs : List ℤ) → bits_of xs ≡ trimmed_cost xs + (length xs - length (trimmed xs))
unfolding trimmed trimmed_cost
trailing_bits [] = omega (arith, bits_none)
trailing_bits (x ∷ xs) = by x (trimmed xs) (length-trimmed xs) (trailing_bits xs)
  where
    by : (x : ℤ) (ts : List ℤ) → length ts ≤ length xs → bits_of xs ≡ bits_of ts + (length xs - length ts)
        → bits_of (x ∷ xs) ≡ bits_of (trim_cons x ts) + (length (x ∷ xs) - length (trim_cons x ts))
    by x (t ∷ ts) h e = omega (arith, bits-more x xs, bits-more x (t ∷ ts), h, e)
    by (pos zero) [] h e = omega (arith, bits-more (pos zero) xs, length-code_s-zero (pos zero) refl, e, bits_none)
    by (pos (suc n)) [] h e = omega (arith, bits-more (pos (suc n)) xs, bits-more (pos (suc n)) [], e, bits_none)
    by (negsuc n) [] h e = omega (arith, bits-more (negsuc n) xs, bits-more (negsuc n) [], e, bits_none)

module _ {xs : List ℤ} {t : Tally} (h : TallyOf xs t) where
  pub tally_keeps : (t.keep ≤ t.count) × (t.count - t.keep ≤ t.bits)
  tally_keeps = (omega (arith, h.keep, h.count, length-trimmed xs), omega (arith, h.bits, h.count, h.keep, trailing_bits xs))

  pub tally_kept : t.bits - (t.count - t.keep) ≡ trimmed_cost xs
  tally_kept = omega (arith, h.bits, h.count, h.keep, trailing_bits xs)

  -- what the numbers are without trailing zeros
  pub tally_trimmed : trimmed_by t ≡ trimmed_of xs
  tally_trimmed = ap₂ (λ (k b : ℕ). record { count = k; bits = b }) h.keep tally_kept

-- ---- numbers that are not predicted
pub plain_number : (l : List ℤ) (s : Strip) (coefs base y x : ℕ) → s.predicted ≡ false → forward_by s.factor (plane_from l coefs s.width y x) ≡ number_in l s coefs base y x
plain_number l s coefs base y x e =
    let c = plane_from l coefs s.width y x in
    ap (forward_by s.factor) (sym (+ℤ_idr c) ∙ ap (λ (v : ℤ). c -ℤ v) (prediction_no l s base y x e))

-- the numbers of a place
module _ (l : List ℤ) (s : Strip) (y x : ℕ) (e : s.predicted ≡ false) where
  pub second_plain : (o : Origin) → s.second ≡ Some o → second_number l s y x ≡ forward_by s.factor (plane_from l o.coefs s.width y x) ∷ []
  second_plain o t = second_one l s o y x _ t (plain_number l s o.coefs o.rebuilt y x e)

  pub place_plain : place_numbers l s y x ≡ (forward_by s.factor (plane_from l s.coefs s.width y x) ∷ []) ++ second_number l s y x
  place_plain = place_is l s y x _ (plain_number l s s.coefs s.rebuilt y x e)
