-- One thing for each component: luma and the two colour differences.
use Rattle.std.specs.Prelude.{List, ℕ}

pub record Three (A : Type 0) : Type 0 where
  pub y : A
  pub c1 : A
  pub c2 : A

abbrev pub map3 : {A B : Type 0} → (A → B) → Three A → Three B
map3 f t = record { y = f t.y; c1 = f t.c1; c2 = f t.c2 }

-- a picture's samples by component
abbrev pub planes : List ℕ → List ℕ → List ℕ → Three (List ℕ)
planes y c1 c2 = record { y = y; c1 = c1; c2 = c2 }
