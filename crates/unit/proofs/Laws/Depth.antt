-- Document 02, (iii), for all calls: which refusal 2 turns away; that where the depths sum to at most 5 it turns away
-- what document 01's does; and that where they sum to more and the default matrix is asked for, rule 10 is broken.
use Rattle.std.specs.Prelude.{◌≡◌, ◌↔◌, Bool, true, false, ◌||◌, cond, List, [], ◌∷◌, ℕ, ◌+◌, ◌≤◌, ◌<◌, eqb, ℤ, get_or, drop, set}
use Rattle.std.proofs.Math.Path.{refl}
use Rattle.std.proofs.Common.{sym, ◌∙◌, arith}
use Rattle.std.proofs.Math.Dec.{ltb}
use borrow.Author.Tests.{ltb-true, lt-ltb, eqb-false}
use Rattle.wavelet.specs.Depth.{depth_limit}
use Rattle.wavelet.specs.Laws.Depth.{five_levels}
use Rattle.unit.specs.declared.Settings.{Settings}
use Rattle.unit.specs.Three.{Three}
use Rattle.unit.specs.Rules.{Rule, rule, first}
use Rattle.unit.specs.Refusal.{rules, refusal_of}
use Rattle.unit.proofs.Laws.Matrix.{no_default}
use Rattle.unit.proofs.Laws.Rules.{none_of}
use Rattle.unit.proofs.Laws.Valid.{numbered}
use Rattle.unit.proofs.Laws.Test.{no_truth, both, at_most}

-- no rule has the number n
abbrev NoneHas : ℕ → List Rule → Type 0
NoneHas n [] = Unit {0}
NoneHas n (r ∷ rs) = (eqb r.number n ≡ false) × NoneHas n rs

other : (b : Bool) (n m x : ℕ) → eqb n m ≡ false → (x ≡ m → ⊥) → cond b n x ≡ m → ⊥
other true n m x h k e = eqb-false n m h e
other false n m x h k e = k e

later : (rs : List Rule) → NoneHas 2 rs → first rs ≡ 2 → ⊥
later [] h e = absurd (omega arith)
later (r ∷ rs) h e = other r.broken r.number 2 (first rs) h.0 (later rs h.1) e

-- the number is 2 just where the first rule is not broken and the second one is
second : (a b : Bool) (rs : List Rule) → NoneHas 2 rs → (first (rule 1 a ∷ rule 2 b ∷ rs) ≡ 2) ↔ ((a ≡ false) × (b ≡ true))
second true b rs n = (λ e. absurd (omega arith), λ h. no_truth h.0)
second false true rs n = (λ e. (refl, refl), λ h. refl)
second false false rs n = (λ e. absurd (later rs n e), λ h. no_truth (sym h.1))

module _ (s : Settings) (m : List ℕ) (p : Three (List ℕ)) (work : List ℤ) where
  abbrev limit : ℕ
  limit = depth_limit s.wavelet_index_ho s.wavelet_index

  abbrev depths : ℕ
  depths = s.dwt_depth + s.dwt_depth_ho

  -- 2 answers just those calls whose wavelet indices are at most 6 and whose depths sum to more than their limit
  pub too_deep_lem : (refusal_of s m p work ≡ 2) ↔ (((s.wavelet_index ≤ 6) × (s.wavelet_index_ho ≤ 6)) × (limit < depths))
  unfolding refusal_of
  too_deep_lem =
      let wavelets = both (at_most 6 s.wavelet_index) (at_most 6 s.wavelet_index_ho) in
      let at = second (ltb 6 s.wavelet_index || ltb 6 s.wavelet_index_ho) (ltb limit depths) (drop 2 (rules s m p work))
      (refl, (refl, (refl, (refl, (refl, (refl, (refl, (refl, (refl, (refl, (refl, tt))))))))))) in (
        λ e. let h = at.0 e in (wavelets.0 h.0, ltb-true limit depths h.1),
        λ h. at.1 (wavelets.1 h.0, lt-ltb limit depths h.1),
      )

  -- the number that turns a call away by the rules as they stand but for rule 2, which is document 01's: the depths sum
  -- to more than 5
  unfoldable pub refusal01 : ℕ
  refusal01 = first (set (rules s m p work) 1 (rule 2 (ltb 5 depths)))

  -- of "Calls accepted before answer as they did" what rule 2 decides: a call whose depths sum to at most 5 is turned
  -- away by the same number as before, and one that was accepted is
  pub as_before : depths ≤ 5 → refusal_of s m p work ≡ refusal01
  unfolding refusal_of refusal01
  as_before h = rw ((at_most limit depths).1 (five_levels s.wavelet_index_ho s.wavelet_index h), (at_most 5 depths).1 h) refl

  pub accepted_before : refusal01 ≡ 0 → refusal_of s m p work ≡ 0
  unfolding refusal01
  accepted_before e = as_before ((at_most 5 depths).0 ((none_of (set (rules s m p work) 1 (rule 2 (ltb 5 depths))) (numbered s m p work)).0 e).1.0) ∙ e

  -- "Where Annex D has no default, 10 stays the answer": rule 10 is broken by every call that asks for the default
  -- where the depths sum to more than 5
  pub no_default_left : s.custom_matrix ≡ false → 5 < depths → (get_or (rules s m p work) 9 (rule 0 false)).broken ≡ true
  no_default_left e l =
      let none-there = no_default s.dwt_depth s.dwt_depth_ho s.wavelet_index s.wavelet_index_ho (omega arith) in
      rw (e, none-there) refl
