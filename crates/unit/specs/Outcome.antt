-- The outcome of a picture call: document 01, "Answers that turn a call away".
use Rattle.std.specs.Prelude.{◌||◌, List, [], ◌∷◌, ◌++◌, ℕ, zero, suc, ltb, ℤ, pos, length, drop, replicate, Result, Ok, Err}
use Rattle.refusals.specs.declared.Refusal.{Refusal}
use Rattle.refusals.specs.Number.{number, refusal_by}
use Rattle.unit.specs.declared.Settings.{Settings}
use Rattle.unit.specs.declared.Coded.{Coded}
use Rattle.unit.specs.Limits.{unit_limit}
use Rattle.unit.specs.Three.{Three}
use Rattle.unit.specs.Rules.{Rule, rule, first}
use Rattle.unit.specs.Refusal.{refusal_of}
use Rattle.unit.specs.Parameters.{SliceParameters, low_delay, high_quality}
use Rattle.unit.specs.Plan.{Plan}
use Rattle.unit.specs.Cut.{cut_count}
use Rattle.unit.specs.Unit.{plan_of, length_of, unit_of}

-- the answer of a picture call: what an accepted one tells of its unit, or why it is refused
abbrev pub Answer : Type 0
Answer = Result Coded Refusal

-- what an answer tells: its number and, for an accepted call, its values: length, cut slices and final scaler
abbrev pub tells : Answer → List ℕ
tells (Ok c) = 0 ∷ c.written ∷ c.cut_slices ∷ c.slice_size_scaler ∷ []
tells (Err r) = number r ∷ []

-- the length that an answer gives: 0 where the call is refused
abbrev pub length_in : Answer → ℕ
length_in (Ok c) = c.written
length_in (Err r) = 0

-- the final scaler; in low delay the setting's
abbrev pub scaler_in : SliceParameters → ℕ → ℕ
scaler_in (low_delay n d) c = c
scaler_in (high_quality p c) d = c

-- what an accepted call gives: length, cut slices and final scaler
unfoldable pub coded_of : Settings → Plan → Coded
coded_of s a = record {
  written = length_of s a;
  cut_slices = cut_count a;
  slice_size_scaler = scaler_in a.parameters.slice_parameters s.slice_size_scaler;
}

-- the answer, and the output and work slices as they are left
pub record Outcome : Type 0 where
  pub answer : Answer
  pub output : List ℕ
  pub work : List ℤ

-- the rules that are decided while coding, by the length n of the unit and len of the output: 14, the unit is longer
-- than the output, or than 4,294,967,295 bytes
abbrev pub coding_rules : ℕ → ℕ → List Rule
coding_rules len n = rule 14 (ltb len n || ltb unit_limit n) ∷ []

-- the number of the first of them that is broken; 0 where none is
abbrev pub coding_refusal : ℕ → ℕ → ℕ
coding_refusal len n = first (coding_rules len n)

-- what coding leaves, by that number: a refusal fills both slices with zeros; else the unit goes to the output's start,
-- the rest of it stays, and the work slice is filled with zeros
abbrev pub coded_if : Settings → Plan → List ℕ → List ℤ → ℕ → Outcome
coded_if s a out work zero =
    record { answer = Ok (coded_of s a); output = unit_of s a ++ drop (length_of s a) out; work = replicate (length work) (pos 0) }
coded_if s a out work (suc n) = record { answer = Err (refusal_by (suc n)); output = replicate (length out) 0; work = replicate (length work) (pos 0) }

abbrev pub coded : Settings → Plan → List ℕ → List ℤ → Outcome
coded s a out work = coded_if s a out work (coding_refusal (length out) (length_of s a))

-- the outcome by the number of the first of rules 1 to 13 that is broken: a refusal leaves both slices as they came
abbrev pub outcome_if : Settings → List ℕ → Three (List ℕ) → List ℕ → List ℤ → ℕ → Outcome
outcome_if s m p out work zero = coded s (plan_of s m p) out work
outcome_if s m p out work (suc n) = record { answer = Err (refusal_by (suc n)); output = out; work = work }

-- the outcome of a call: settings, lent matrix, planes, and the output and work slices as they came
unfoldable pub outcome_of : Settings → List ℕ → Three (List ℕ) → List ℕ → List ℤ → Outcome
outcome_of s m p out work = outcome_if s m p out work (refusal_of s m p work)
