-- A call that is not refused, before its work slice is cleared: what coding asks, and its answer and output by the
-- plan.
use Rattle.std.specs.Prelude.{◌≡◌, List, ◌++◌, ℕ, zero, suc, ◌+◌, ℤ, length, drop, replicate, Ok, Err}
use Rattle.refusals.specs.Number.{refusal_by}
use Rattle.unit.specs.declared.Settings.{Settings}
use Rattle.unit.specs.declared.PictureKind.{PictureKind}
use Rattle.unit.specs.Three.{Three}
use Rattle.unit.specs.Plan.{Plan}
use Rattle.unit.specs.Unit.{plan_of, length_of, unit_of}
use Rattle.unit.specs.Outcome.{Answer, coded_of, coding_refusal}
use Rattle.picture.specs.declared.slices.layout.Picture.{Picture}
use Rattle.picture.specs.Code.Strip.{Small}
use Rattle.picture.specs.Code.Analysed.{picture_of, front_of, Called, Analysed}

-- the answer and the output of a plan, by the number of the first rule that coding finds broken
abbrev pub answer_by : Settings → Plan → ℕ → Answer
answer_by s a zero = Ok (coded_of s a)
answer_by s a (suc n) = Err (refusal_by (suc n))

abbrev pub output_by : Settings → Plan → List ℕ → ℕ → List ℕ
output_by s a out zero = unit_of s a ++ drop (length_of s a) out
output_by s a out (suc n) = out

-- answer and output after coding, by the plan a
pub record Codes (s : Settings) (a : Plan) (out out' : List ℕ) (r : Answer) : Type 0 where
  pub answer : r ≡ answer_by s a (coding_refusal (length out) (length_of s a))
  pub output : out' ≡ output_by s a out (coding_refusal (length out) (length_of s a))

-- what coding asks: the call's picture, and a work slice with its numbers
pub record Coding (s : Settings) (m : List ℕ) (kind : PictureKind) (p : Picture) (w : List ℤ) : Type 0 where
  pub called : Called s m
  pub same : s.kind ≡ kind
  pub picture : p ≡ picture_of s m
  pub small : Small (front_of s) (front_of s + front_of s) w

-- answer and output, whatever planes the work slice has been analysed from
pub record CodesAny (s : Settings) (m : List ℕ) (w : List ℤ) (out out' : List ℕ) (r : Answer) : Type 0 where
  pub codes : (p : Three (List ℕ)) → Analysed s p w → Codes s (plan_of s m p) out out' r

-- the output after a call that codes: zeros where it is refused
abbrev pub cleared_by : Answer → List ℕ → List ℕ
cleared_by (Ok c) out = out
cleared_by (Err r) out = replicate (length out) 0
