-- Lists put one after the other.
use Rattle.std.specs.Prelude.{ℕ, zero, suc, List, [], ◌++◌}

module _ {A : Type 0} where
  -- F 0, then F 1, .., n of them
  unfoldable pub chunks : (ℕ → List A) → ℕ → List A
  chunks F zero = []
  chunks F (suc n) = chunks F n ++ F n
