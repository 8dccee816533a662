-- What the entry points leave behind their references.
use Rattle.std.specs.Prelude.{◌≡◌, ◌↔◌, Bool, true, false, cond, List, ℕ, ltb, ℤ, take, Result, Ok, Err}
use Rattle.refusals.specs.declared.Refusal.{Refusal}
use Rattle.refusals.specs.Number.{number_of}
use Rattle.unit.specs.Three.{Three}
use Rattle.unit.specs.Words.{known, settings_of}
use Rattle.unit.specs.Outcome.{Answer, outcome_of}
use Rattle.unit.specs.Unit.{plan_of}
use Rattle.unit.specs.Demand.{Undropped, Demand3}

-- a quantiser call at index i whose value is z: what stood behind the reference stays where the index is refused
pub record Gives (i : ℕ) (z before after : ℤ) (r : ℕ) : Type 0 where
  pub number : r ≡ cond (ltb 255 i) 6 0
  pub value : after ≡ cond (ltb 255 i) before z

-- what stands behind the reference after a quantiser call: the answer's value; a refusal leaves what stood there
abbrev pub left_by : Result ℤ Refusal → ℤ → ℤ
left_by (Ok v) before = v
left_by (Err r) before = before

-- length, cut slices and scaler behind three references
pub record Values : Type 0 where
  pub written : ℕ
  pub cut : ℕ
  pub scaler : ℕ

-- the values that a call leaves: an accepted one's own; a refused one leaves what stood there
abbrev pub values_of : Answer → Values → Values
values_of (Ok c) v = record { written = c.written; cut = c.cut_slices; scaler = c.slice_size_scaler }
values_of (Err r) v = v

-- everything that a picture call leaves
pub record Left : Type 0 where
  pub number : ℕ
  pub output : List ℕ
  pub work : List ℤ
  pub values : Values

module _ (ws m : List ℕ) (p : Three (List ℕ)) (out : List ℕ) (work : List ℤ) (v : Values) where
  -- what a picture call leaves, by whether the words are settings: 100 where they are none, and nothing changes
  abbrev pub left_if : Bool → Left
  left_if true =
      let o = outcome_of (settings_of ws) m p out work in
      record { number = number_of o.answer; output = o.output; work = o.work; values = values_of o.answer v }
  left_if false = record { number = 100; output = out; work = work; values = v }

  unfoldable pub left_of : Left
  left_of = left_if (known ws)

-- the picture call: words, matrix, planes, lent slices and values as they came and as they are left
pub record Picture (ws m : List ℕ) (p : Three (List ℕ)) (out : List ℕ) (work : List ℤ) (v : Values) (after : Left) : Type 0 where
  pub is : after ≡ left_of ws m p out work v
  -- an accepted call: demand 3 of the bytes that its length counts
  pub demand : after.number ≡ 0 → Demand3 (settings_of ws) m p (take after.values.written after.output)
  -- its count of cut slices is 0 just where no slice has dropped a number that is not 0
  pub uncut : after.number ≡ 0 → (after.values.cut ≡ 0) ↔ Undropped (plan_of (settings_of ws) m p)
