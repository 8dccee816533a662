-- The entry points' outcomes from what the calls inside leave.
use Rattle.std.specs.Prelude.{◌≡◌, refl, ◌↔◌, Bool, true, false, cond, List, ℕ, zero, suc, ◌^◌, ◌<◌, ltb, ℤ, length, take, Result, Ok, Err}
use Rattle.std.proofs.Common.{sym, ◌∙◌, arith, to_z, of_z}
use Rattle.std.proofs.Math.Path.{ap}
use Rattle.std.specs.Int.Signed.{mag}
use Rattle.std.specs.Int.{w64}
use Rattle.refusals.specs.declared.Refusal.{Refusal}
use Rattle.refusals.specs.declared.Refusal.TheVariants.{Index}
use Rattle.refusals.specs.Number.{number, number_of, refusal_by}
use Rattle.refusals.specs.Laws.Number.{number_some}
use Rattle.quantiser.specs.Answer.{answer_of, Answered}
use Rattle.quantiser.specs.Laws.Step.{back}
use Rattle.unit.specs.declared.Settings.{Settings}
use Rattle.unit.specs.declared.Coded.{Coded}
use Rattle.unit.specs.Three.{Three}
use Rattle.unit.proofs.Laws.Test.{no_truth}
use Rattle.unit.specs.Refusal.{refusal_of}
use Rattle.unit.specs.Plan.{Plan}
use Rattle.unit.specs.Unit.{plan_of, length_of}
use Rattle.unit.specs.Words.{known, settings_of}
use Rattle.unit.specs.Outcome.{Answer, Outcome, coding_refusal, coded_if, outcome_if, outcome_of}
use Rattle.unit.proofs.Laws.Demand.{is_accepted}
use Rattle.unit.specs.Demand.{Undropped, Demand3}
use Rattle.unit.specs.Encoded.{Encodes}
use Rattle.exports.specs.Calls.{left_by, Gives, Values, values_of, Left, left_if, left_of, Picture}

-- ---- the four quantiser calls, by the answer a of the call inside
left_if_lem : (b : Bool) (z before : ℤ) → left_by (cond b (Err Index) (Ok z)) before ≡ cond b before z
left_if_lem true z before = refl
left_if_lem false z before = refl

left_answer : (i : ℕ) (z before : ℤ) → left_by (answer_of i z) before ≡ cond (ltb 255 i) before z
unfolding answer_of
left_answer i z before = left_if_lem (ltb 255 i) z before

pub gives : (i : ℕ) (z before after : ℤ) (r : ℕ) (a : Result ℤ Refusal) → Answered i z a → r ≡ number_of a → after ≡ left_by a before → Gives i z before after r
gives i z before after r a h e f = record {
  number = e ∙ h.number;
  value = f ∙ ap (λ (a : Result ℤ Refusal). left_by a before) h.is ∙ left_answer i z before;
}

-- a value v goes there, by its bits
pub gives_value : (i : ℕ) (z before v : ℤ) (a : Result ℤ Refusal) → Answered i z a → a ≡ Ok v → mag v < 2 ^ 63 → Gives i z before (to_z w64 (of_z w64 v)) 0
gives_value i z before v a h e l =
    gives i z before (to_z w64 (of_z w64 v)) 0 a h (ap number_of (sym e)) (back v l ∙ ap (λ (a : Result ℤ Refusal). left_by a before) (sym e))

-- a refused index leaves what stood there
pub gives_refused : (i : ℕ) (r : Refusal) (z before : ℤ) (a : Result ℤ Refusal) → Answered i z a → a ≡ Err r → Gives i z before before (number r)
gives_refused i r z before a h e =
    gives i z before before (number r) a h (ap number_of (sym e)) (ap (λ (a : Result ℤ Refusal). left_by a before) (sym e))

-- ---- the picture call
-- an outcome of number 0 is an accepted one
module _ (s : Settings) (m : List ℕ) (p : Three (List ℕ)) (out : List ℕ) (work : List ℤ) where
  abbrev a : Plan
  a = plan_of s m p

  -- coding that answers 0 is accepted
  coded-zero : (n : ℕ) → number_of (coded_if s a out work n).answer ≡ 0 → is_accepted (coded_if s a out work n).answer ≡ true
  coded-zero zero e = refl
  coded-zero (suc n) e = absurd (omega (arith, e, number_some (refusal_by (suc n))))

  outcome-zero : (n : ℕ) → number_of (outcome_if s m p out work n).answer ≡ 0 → is_accepted (outcome_if s m p out work n).answer ≡ true
  outcome-zero zero e = coded-zero (coding_refusal (length out) (length_of s a)) e
  outcome-zero (suc n) e = absurd (omega (arith, e, number_some (refusal_by (suc n))))

  zero_accepted : number_of (outcome_of s m p out work).answer ≡ 0 → is_accepted (outcome_of s m p out work).answer ≡ true
  unfolding outcome_of
  zero_accepted e = outcome-zero (refusal_of s m p work) e

  -- demand 3 and the count of an answer of number 0
  module _ (out' : List ℕ) (work' : List ℤ) (v : Values) where
    not_refused : {A : Type 0} (n : Refusal) → Encodes s m p out work out' work' (Err n) → number n ≡ 0 → A
    not_refused n h e = no_truth (sym (ap is_accepted h.answer ∙ zero_accepted (sym (ap number_of h.answer) ∙ e)))

    demand_zero : (r : Answer) → Encodes s m p out work out' work' r → number_of r ≡ 0 → Demand3 s m p (take (values_of r v).written out')
    demand_zero (Ok c) h e = h.demand c refl
    demand_zero (Err n) h e = not_refused n h e

    uncut_zero : (r : Answer) → Encodes s m p out work out' work' r → number_of r ≡ 0 → ((values_of r v).cut ≡ 0) ↔ Undropped (plan_of s m p)
    uncut_zero (Ok c) h e = h.uncut c refl
    uncut_zero (Err n) h e = not_refused n h e

left-same : (n k : ℕ) (o u : List ℕ) (w x : List ℤ) (a b : Values) → n ≡ k → o ≡ u → w ≡ x → a ≡ b
    → ◌≡◌ {A = Left} (record { number = n; output = o; work = w; values = a }) (record { number = k; output = u; work = x; values = b })
left-same n k o u w x a b e f g h = rw (e, f, g, h)

module _ (ws m : List ℕ) (p : Three (List ℕ)) (out : List ℕ) (work : List ℤ) (v : Values) where
  left-if : (b : Bool) → known ws ≡ b → left_of ws m p out work v ≡ left_if ws m p out work v b
  unfolding left_of
  left-if b e = ap (left_if ws m p out work v) e

  -- words that are no settings
  pub picture_unknown : known ws ≡ false → Picture ws m p out work v (record { number = 100; output = out; work = work; values = v })
  picture_unknown e = record { is = sym (left-if false e); demand = λ n. absurd (omega (arith, n)); uncut = λ n. absurd (omega (arith, n)) }

  encoded : (out' : List ℕ) (work' : List ℤ) (r : Answer) → known ws ≡ true → Encodes (settings_of ws) m p out work out' work' r
      → Picture ws m p out work v (record { number = number_of r; output = out'; work = work'; values = values_of r v })
  encoded out' work' r e h =
      let o : Outcome = outcome_of (settings_of ws) m p out work in
      record {
        is =
            left-same (number_of r) (number_of o.answer) out' o.output work' o.work (values_of r v) (values_of o.answer v)
            (ap number_of h.answer) h.output h.work_left (ap (λ (r : Answer). values_of r v) h.answer) ∙ sym (left-if true e);
        demand = demand_zero (settings_of ws) m p out work out' work' v r h;
        uncut = uncut_zero (settings_of ws) m p out work out' work' v r h;
      }

  module _ (s : Settings) (out' : List ℕ) (work' : List ℤ) (r : Answer) (e : known ws ≡ true) (f : s ≡ settings_of ws) (h : Encodes s m p out work out' work' r) where
    -- the call's settings and answer, put in their place
    encodes_as : (r' : Answer) → r ≡ r' → Encodes (settings_of ws) m p out work out' work' r'
    encodes_as r' g = rw (← f, ← g) h

    -- an accepted call
    pub picture_accepted : (c : Coded) → r ≡ Ok c
        → Picture ws m p out work v (record { number = 0; output = out'; work = work'; values = record { written = c.written; cut = c.cut_slices; scaler = c.slice_size_scaler } })
    picture_accepted c g = encoded out' work' (Ok c) e (encodes_as (Ok c) g)

    -- a refused one
    pub picture_refused : (n : Refusal) → r ≡ Err n → Picture ws m p out work v (record { number = number n; output = out'; work = work'; values = v })
    picture_refused n g = encoded out' work' (Err n) e (encodes_as (Err n) g)

    -- one with no value leaves the values that stood there
    pub picture_kept : ((c : Coded) → r ≡ Ok c → ⊥) → Picture ws m p out work v (record { number = number_of r; output = out'; work = work'; values = v })
    picture_kept n = by r refl
      where
        by : (r' : Answer) → r ≡ r' → Picture ws m p out work v (record { number = number_of r; output = out'; work = work'; values = v })
        by (Ok c) g = absurd (n c g)
        by (Err x) g = rw (ap number_of g) (picture_refused x g)
