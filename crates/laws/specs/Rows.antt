-- A function's values as a list, and a list's places.
use Rattle.std.specs.Prelude.{ℕ, zero, suc, ◌+◌, List, [], ◌∷◌, ℤ, pos, slice_index_or}

abbrev pub at : List ℤ → ℕ → ℤ
at xs k = slice_index_or xs k (pos 0)

-- the sum of a list's numbers
abbrev pub total : List ℕ → ℕ
total [] = 0
total (n ∷ ns) = n + total ns

module _ {A : Type 0} where
  -- f i, f (i + 1), .., n of them
  abbrev pub span : (ℕ → A) → ℕ → ℕ → List A
  span f i zero = []
  span f i (suc n) = f i ∷ span f (suc i) n

-- n places of f
abbrev pub row : ℕ → (ℕ → ℤ) → List ℤ
row n f = span f 0 n
