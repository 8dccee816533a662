-- What the picture call leaves: answer, output and work slice as the definition's outcome has them, demand 3, and what
-- the count of cut slices says.
use Rattle.std.specs.Prelude.{◌≡◌, ◌↔◌, List, [], ◌∷◌, ℕ, zero, suc, ℤ, length, take, Ok}
use Rattle.refusals.specs.Number.{number_of}
use Rattle.unit.specs.declared.Settings.{Settings}
use Rattle.unit.specs.declared.Coded.{Coded}
use Rattle.unit.specs.Three.{Three}
use Rattle.unit.specs.Rules.{or_else}
use Rattle.unit.specs.Refusal.{refusal_of}
use Rattle.unit.specs.Plan.{Plan}
use Rattle.unit.specs.Unit.{plan_of, length_of}
use Rattle.unit.specs.Cut.{cut_count}
use Rattle.unit.specs.Outcome.{Answer, tells, scaler_in, coding_refusal, outcome_of}
use Rattle.unit.specs.Demand.{Undropped, Demand3}

-- the answer's number: that of the first rule of 1 to 13 that is broken, else of the first one that coding finds
-- broken, else 0
abbrev pub answer_number : Settings → List ℕ → Three (List ℕ) → List ℕ → List ℤ → ℕ
answer_number s m p out work = or_else (refusal_of s m p work) (coding_refusal (length out) (length_of s (plan_of s m p)))

-- what an answer of number n tells, where a is the call's plan: n and, after 0, the unit's length, the count of cut
-- slices and the final scaler
abbrev pub told_by : Settings → Plan → ℕ → List ℕ
told_by s a zero = 0 ∷ length_of s a ∷ cut_count a ∷ scaler_in a.parameters.slice_parameters s.slice_size_scaler ∷ []
told_by s a (suc n) = suc n ∷ []

abbrev pub answer_told : Settings → List ℕ → Three (List ℕ) → List ℕ → List ℤ → List ℕ
answer_told s m p out work = told_by s (plan_of s m p) (answer_number s m p out work)

-- what a picture call does: settings s, lent matrix m, planes p, output and work slice as they came and as they are
-- left, and the answer
pub record Encodes (s : Settings) (m : List ℕ) (p : Three (List ℕ)) (out : List ℕ) (work : List ℤ) (out' : List ℕ) (work' : List ℤ) (r : Answer) : Type 0 where
  pub answer : r ≡ (outcome_of s m p out work).answer
  pub number : number_of r ≡ answer_number s m p out work
  pub told : tells r ≡ answer_told s m p out work
  pub output : out' ≡ (outcome_of s m p out work).output
  pub work_left : work' ≡ (outcome_of s m p out work).work
  -- an accepted call: demand 3 of the bytes that the answer counts, as they now stand in the output
  pub demand : (c : Coded) → r ≡ Ok c → Demand3 s m p (take c.written out')
  -- its count of cut slices is 0 just where no slice has dropped a number that is not 0, a premise of demand 3's `near`
  -- and `samples`
  pub uncut : (c : Coded) → r ≡ Ok c → (c.cut_slices ≡ 0) ↔ Undropped (plan_of s m p)
