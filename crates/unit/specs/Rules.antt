-- Rules that turn a call away, each with its number: document 01, "Answers that turn a call away".
use Rattle.std.specs.Prelude.{Bool, cond, List, [], ◌∷◌, ℕ, zero, suc}

-- a rule: its number, which is not 0 (`Laws.Valid.numbered`), and whether the call breaks it
pub record Rule : Type 0 where
  pub number : ℕ
  pub broken : Bool

abbrev pub rule : ℕ → Bool → Rule
rule n b = record { number = n; broken = b }

-- the number of the first rule that is broken; 0 where none is
abbrev pub first : List Rule → ℕ
first [] = 0
first (r ∷ rs) = cond r.broken r.number (first rs)

-- the first number, or the other one where it is 0
abbrev pub or_else : ℕ → ℕ → ℕ
or_else zero m = m
or_else (suc n) m = suc n
