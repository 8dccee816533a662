-- The picture call's outcome from what its parts leave.
use Rattle.std.specs.Prelude.{◌≡◌, List, [], ◌∷◌, ◌++◌, ℤ, pos, length, drop, set, replicate, get_or, Err}
use Rattle.refusals.specs.declared.Refusal.{Refusal}
use Rattle.refusals.specs.Number.{number, number_of, refusal_by}
use Rattle.refusals.specs.Laws.Number.{Named, by_number, number_some}
use Rattle.std.proofs.Math.Path.{refl}
use Rattle.std.proofs.Common.{sym, ap, ap₂, ◌∙◌, arith, append-nil, add-one, drop-cons}
use Prim.Native.Nat.{ℕ, zero, suc, ◌+◌, ◌^◌, ◌<◌}
use Rattle.std.proofs.lemmas.List.{length-replicate, set_at}
use Rattle.std.proofs.Math.Seq.{append_snoc, drop-length}
use Rattle.unit.specs.declared.Settings.{Settings}
use Rattle.unit.specs.Three.{Three}
use Rattle.unit.specs.Rules.{or_else}
use Rattle.unit.specs.Refusal.{refusal_of}
use Rattle.unit.specs.Plan.{Plan}
use Rattle.unit.specs.Unit.{plan_of, length_of}
use Rattle.unit.specs.Outcome.{Answer, tells, coded_of, Outcome, coding_refusal, coded_if, coded, outcome_if, outcome_of}
use Rattle.unit.proofs.Laws.Planned.{Component, Y, C1, C2, pick}
use Rattle.unit.proofs.Laws.Valid.{refusal_named}
use Rattle.unit.proofs.Laws.Demand.{Typed, coding_named, accepted, accepted_uncut}
use Rattle.unit.specs.Encoded.{told_by, Encodes}
use Rattle.picture.specs.Code.Coded.{answer_by, output_by, Codes, cleared_by}

-- ---- zeros over a list
zeros-more : (n : ℕ) → ◌++◌ {A = ℕ} (replicate n 0) (0 ∷ []) ≡ replicate (suc n) 0
zeros-more zero = refl
zeros-more (suc n) = ap (λ (l : List ℕ). 0 ∷ l) (zeros-more n)

pub zeros-turn : (l xs : List ℕ) (n : ℕ) → n < length l → xs ≡ replicate n 0 ++ drop n l → set xs n 0 ≡ replicate (n + 1) 0 ++ drop (n + 1) l
zeros-turn l xs n h e =
    rw (e, drop-cons l n 0 h, set_at (replicate n 0) (get_or l n 0) (drop (suc n) l) 0 n (length-replicate n 0), add-one n)
    (sym (append_snoc (replicate n 0) 0 (drop (suc n) l)) ∙ ap (λ (k : List ℕ). k ++ drop (suc n) l) (zeros-more n))

pub zeros_all : (l : List ℕ) (n : ℕ) → n ≡ length l → replicate n 0 ++ drop n l ≡ replicate (length l) 0
zeros_all l n e = rw (e, drop-length l) (append-nil (replicate (length l) 0))

-- ---- the call
-- numbers of 32 bits and samples of 16
pub typed_by : (s : Settings) (p : Three (List ℕ)) → s.picture_number < 2 ^ 32 → s.prev_unit_len < 2 ^ 32 → ((n : ℕ) → get_or p.y n 0 < 2 ^ 16)
    → ((n : ℕ) → get_or p.c1 n 0 < 2 ^ 16) → ((n : ℕ) → get_or p.c2 n 0 < 2 ^ 16) → Typed s p
typed_by s p n m y c1 c2 = record { number = n; previous = m; samples = by }
  where
    by : (c : Component) (n : ℕ) → get_or (pick c p) n 0 < 2 ^ 16
    by Y n = y n
    by C1 n = c1 n
    by C2 n = c2 n

pub cleared_refused : (r : Answer) (n : Refusal) (out o : List ℕ) → r ≡ Err n → o ≡ replicate (length out) 0 → o ≡ cleared_by r out
cleared_refused r n out o e f = f ∙ ap (λ (r : Answer). cleared_by r out) (sym e)

module _ (s : Settings) (m : List ℕ) (p : Three (List ℕ)) (out : List ℕ) (work : List ℤ) where
  abbrev a : Plan
  a = plan_of s m p

  outcome-if : outcome_of s m p out work ≡ outcome_if s m p out work (refusal_of s m p work)
  unfolding outcome_of
  outcome-if = refl

  -- the number of the outcome's answer and what it tells, by the number n of the rules before coding and c of coding's
  number-if : (c : ℕ) → Named c → number_of (coded_if s a out work c).answer ≡ c
  number-if zero h = refl
  number-if (suc c) h = h

  number_by : (n : ℕ) → Named n → number_of (outcome_if s m p out work n).answer ≡ or_else n (coding_refusal (length out) (length_of s a))
  number_by zero h = let n = length_of s a in number-if (coding_refusal (length out) n) (coding_named (length out) n)
  number_by (suc n) h = h

  told_if : (c : ℕ) → Named c → tells (coded_if s a out work c).answer ≡ told_by s a c
  unfolding coded_of
  told_if zero h = refl
  told_if (suc c) h = ap (λ (n : ℕ). n ∷ []) h

  told_by_lem : (n : ℕ) → Named n → tells (outcome_if s m p out work n).answer ≡ told_by s a (or_else n (coding_refusal (length out) (length_of s a)))
  told_by_lem zero h = let n = length_of s a in told_if (coding_refusal (length out) n) (coding_named (length out) n)
  told_by_lem (suc n) h = ap (λ (n : ℕ). n ∷ []) h

  -- answer, output and work slice are the outcome's
  encodes : (out' : List ℕ) (work' : List ℤ) (r : Answer) → Typed s p → r ≡ (outcome_of s m p out work).answer → out' ≡ (outcome_of s m p out work).output
      → work' ≡ (outcome_of s m p out work).work → Encodes s m p out work out' work' r
  encodes out' work' r t e o w = record {
    answer = e;
    number = ap number_of (e ∙ ap (λ (o : Outcome). o.answer) outcome-if) ∙ number_by (refusal_of s m p work) (refusal_named s m p work);
    told = ap tells (e ∙ ap (λ (o : Outcome). o.answer) outcome-if) ∙ told_by_lem (refusal_of s m p work) (refusal_named s m p work);
    output = o;
    work_left = w;
    demand = λ c f. rw o (accepted s m p out work t c (sym e ∙ f));
    uncut = λ c f. accepted_uncut s m p out work c (sym e ∙ f);
  }

  pub encodes_refused : (r : Refusal) → Typed s p → number r ≡ refusal_of s m p work → Encodes s m p out work out work (Err r)
  encodes_refused r t e = by (refusal_of s m p work) e outcome-if
    where
      by : (n : ℕ) → number r ≡ n → outcome_of s m p out work ≡ outcome_if s m p out work n → Encodes s m p out work out work (Err r)
      by zero q f = absurd (omega (arith, q, number_some r))
      by (suc n) q f =
          let g : refusal_by (suc n) ≡ r = ap refusal_by (sym q) ∙ by_number r in
          encodes out work (Err r) t (ap Err (sym g) ∙ sym (ap (λ (o : Outcome). o.answer) f)) (sym (ap (λ (o : Outcome). o.output) f)) (sym (ap (λ (o : Outcome). o.work) f))

  -- the outcome of a call that no rule of 1 to 13 refuses
  coded-outcome : refusal_of s m p work ≡ 0 → outcome_of s m p out work ≡ coded s (plan_of s m p) out work
  coded-outcome e = outcome-if ∙ ap (outcome_if s m p out work) e

  answer_by_lem : (c : ℕ) → answer_by s a c ≡ (coded_if s a out work c).answer
  answer_by_lem zero = refl
  answer_by_lem (suc c) = refl

  cleared_by_lem : (c : ℕ) → cleared_by (answer_by s a c) (output_by s a out c) ≡ (coded_if s a out work c).output
  cleared_by_lem zero = refl
  cleared_by_lem (suc c) = refl

  work_by : (c : ℕ) → replicate (length work) (pos 0) ≡ (coded_if s a out work c).work
  work_by zero = refl
  work_by (suc c) = refl

  pub encodes_coded : (o out' : List ℕ) (w work' : List ℤ) (r : Answer) → Typed s p → refusal_of s m p work ≡ 0 → Codes s (plan_of s m p) out o r
      → length w ≡ length work → work' ≡ replicate (length w) (pos 0) → out' ≡ cleared_by r o → Encodes s m p out work out' work' r
  encodes_coded o out' w work' r t e c lw ew eo =
      let b : ℕ = coding_refusal (length out) (length_of s a) in
      let f = coded-outcome e in
      encodes out' work' r t
      (c.answer ∙ answer_by_lem b ∙ sym (ap (λ (o : Outcome). o.answer) f))
      (eo ∙ ap₂ cleared_by c.answer c.output ∙ cleared_by_lem b ∙ sym (ap (λ (o : Outcome). o.output) f))
      (ew ∙ ap (λ (n : ℕ). replicate n (pos 0)) lw ∙ work_by b ∙ sym (ap (λ (o : Outcome). o.work) f))
