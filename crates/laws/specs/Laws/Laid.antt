-- Laws of a run of elements laid over a list from a place on.
use Rattle.std.specs.Prelude.{◌≡◌, ℕ, suc, ◌+◌, ◌≤◌, List, [], ◌∷◌, ◌++◌, length, take, drop, slice_set}
use Rattle.std.proofs.Math.Path.{refl, ap}
use Rattle.std.proofs.Common.{sym, ◌∙◌, append_assoc, add-one, arith, length-append, length-set, drop_at, length-take-le}
use Rattle.std.proofs.lemmas.List.Edits.{sets, sets-eq}
use Rattle.std.proofs.Math.Seq.{length-sets, take-append_seam}
use Rattle.laws.specs.Code.Laid.{laid, Lays}

module _ {A : Type 0} where
  pub laid_sets : (l : List A) (i : ℕ) (vs : List A) → laid l i vs ≡ sets l i vs
  unfolding laid
  laid_sets l i [] = refl
  laid_sets l i (v ∷ vs) = laid_sets (slice_set l i v) (suc i) vs

  pub laid_nil : (l : List A) (i : ℕ) → laid l i [] ≡ l
  unfolding laid
  laid_nil l i = refl

  pub length-laid : (l : List A) (i : ℕ) (vs : List A) → length (laid l i vs) ≡ length l
  length-laid l i vs = ap length (laid_sets l i vs) ∙ length-sets l i vs

  pub laid-append : (l : List A) (i : ℕ) (vs ws : List A) → laid l i (vs ++ ws) ≡ laid (laid l i vs) (i + length vs) ws
  unfolding laid
  laid-append l i [] ws = ap (λ (k : ℕ). laid l k ws) (omega arith)
  laid-append l i (v ∷ vs) ws =
      laid-append (slice_set l i v) (suc i) vs ws ∙ ap (λ (k : ℕ). laid (laid (slice_set l i v) (suc i) vs) k ws) (omega arith)

  -- one run after another
  pub laid_then : (l : List A) (i j : ℕ) (vs ws : List A) → j ≡ i + length vs → laid (laid l i vs) j ws ≡ laid l i (vs ++ ws)
  laid_then l i j vs ws e = ap (λ (k : ℕ). laid (laid l i vs) k ws) e ∙ sym (laid-append l i vs ws)

  pub laid_one : (l : List A) (i j : ℕ) (vs : List A) (v : A) → j ≡ i + length vs → slice_set (laid l i vs) j v ≡ laid l i (vs ++ (v ∷ []))
  unfolding laid
  laid_one l i j vs v e = laid_then l i j vs (v ∷ []) e

  pub laid_is : (l : List A) (i : ℕ) (vs : List A) → i + length vs ≤ length l → laid l i vs ≡ take i l ++ vs ++ drop (i + length vs) l
  laid_is l i vs h = laid_sets l i vs ∙ sets-eq vs l i h

  pub run-laid : (l : List A) (i : ℕ) (vs : List A) → i + length vs ≤ length l → take (length vs) (drop i (laid l i vs)) ≡ vs
  run-laid l i vs h =
      rw (laid_is l i vs h, append_assoc, drop_at (take i l) (vs ++ drop (i + length vs) l) i (length-take-le i l (omega arith)), take-append_seam)

  pub run_laid0 : (l : List A) (n : ℕ) (vs : List A) → length vs ≡ n → n ≤ length l → take n (laid l 0 vs) ≡ vs
  run_laid0 l n vs e h = rw (← e) (run-laid l 0 vs (omega arith))

pub lays_start : {A : Type 0} (b : List A) (at : ℕ) → Lays b at [] b at
lays_start b at = record { is = sym (laid_nil b at); next = omega arith; size = refl }

pub lays_on : {A : Type 0} {b b' b'' vs ws : List A} {at r r' : ℕ} → Lays b at vs b' r → Lays b' r ws b'' r' → Lays b at (vs ++ ws) b'' r'
lays_on {A} {b} {b'} {b''} {vs} {ws} {at} {r} {r'} p q =
    record {
      is = q.is ∙ ap (λ (l : List A). laid l r ws) p.is ∙ laid_then b at r vs ws p.next;
      next = rw length-append (omega arith);
      size = q.size ∙ p.size;
    }

-- one element in front of a run
pub lays_first : {A : Type 0} {b b' ws : List A} {at r : ℕ} (v : A) → Lays (slice_set b at v) (at + 1) ws b' r → Lays b at (v ∷ ws) b' r
unfolding laid
lays_first {A} {b} {b'} {ws} {at} {r} v q =
    record {
      is = q.is ∙ ap (λ (k : ℕ). laid (slice_set b at v) k ws) (add-one at);
      next = omega (arith, q.next);
      size = q.size ∙ length-set b at v;
    }
