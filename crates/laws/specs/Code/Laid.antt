-- A run of elements laid over a list from a place on.
use Rattle.std.specs.Prelude.{◌≡◌, ℕ, suc, ◌+◌, List, [], ◌∷◌, length, slice_set}

module _ {A : Type 0} where
  unfoldable pub laid : List A → ℕ → List A → List A
  laid l i [] = l
  laid l i (v ∷ vs) = laid (slice_set l i v) (suc i) vs

-- vs laid over b from at on, which ends at r
pub record Lays {A : Type 0} (b : List A) (at : ℕ) (vs : List A) (b' : List A) (r : ℕ) : Type 0 where
  pub is : b' ≡ laid b at vs
  pub next : r ≡ at + length vs
  pub size : length b' ≡ length b
