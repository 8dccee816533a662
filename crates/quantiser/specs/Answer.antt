-- The answers of the four quantiser calls: document 01, refusal 6.
use Rattle.std.specs.Prelude.{◌≡◌, cond, ℕ, ltb, ℤ, pos, Result, Ok, Err}
use Rattle.refusals.specs.declared.Refusal.{Refusal}
use Rattle.refusals.specs.declared.Refusal.TheVariants.{Index}
use Rattle.refusals.specs.Number.{number_of}

-- an answer's value, 0 where the call is refused
abbrev pub value_of : Result ℤ Refusal → ℤ
value_of (Ok z) = z
value_of (Err r) = pos 0

-- an index above 255 is refused with 6
unfoldable pub answer_of : ℕ → ℤ → Result ℤ Refusal
answer_of i z = cond (ltb 255 i) (Err Index) (Ok z)

pub record Answered (i : ℕ) (z : ℤ) (r : Result ℤ Refusal) : Type 0 where
  pub is : r ≡ answer_of i z
  pub number : number_of r ≡ cond (ltb 255 i) 6 0
  pub value : value_of r ≡ cond (ltb 255 i) (pos 0) z
