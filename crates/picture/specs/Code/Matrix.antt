-- The matrix of a call as the code keeps it, and what makes it.
use Rattle.std.specs.Prelude.{◌≡◌, true, false, Some, None, List, ℕ, ◌≤◌, take, is_some}
use Rattle.std.proofs.Math.Option.{Option, none, some}
use Rattle.quantiser.specs.Code.Default.{matrix_places, places}
use Rattle.unit.specs.declared.Settings.{Settings}
use Rattle.unit.specs.Matrix.{default_of, matrix_values, carried_matrix}
use Rattle.unit.specs.Code.Valid.{MatrixFits}
use Rattle.picture.specs.declared.front.matrix.Carried.{Carried}

-- how many values a unit carries
abbrev pub count_in : Carried → ℕ
count_in c = elim c.carried [ Some n ↦ n | None ↦ 0 ]

-- the values that a unit carries
abbrev pub lent_in : Carried → List ℕ
lent_in c = take (count_in c) c.values

-- the matrix that a unit carries, if any
unfoldable pub carried_in : Carried → Option (List ℕ)
carried_in c = elim (is_some c.carried) [ true ↦ some (lent_in c) | false ↦ none ]

-- no more values are carried than there are places
abbrev pub InPlaces : Carried → Type 0
InPlaces c = count_in c ≤ matrix_places

-- c is the matrix of a call with settings s
pub record Carries (s : Settings) (c : Carried) : Type 0 where
  pub carried : is_some c.carried ≡ s.custom_matrix
  pub few : count_in c ≤ matrix_places
  pub values : c.values ≡ places (matrix_values s (lent_in c))

-- c is the matrix of a call with settings s and lent matrix m
pub record CarriedOf (s : Settings) (m : List ℕ) (c : Carried) : Type 0 where
  pub carries : Carries s c
  pub matrix : carried_matrix s (lent_in c) ≡ carried_matrix s m
  pub values : matrix_values s (lent_in c) ≡ matrix_values s m
  pub fits : MatrixFits s (lent_in c) s.custom_matrix (default_of s)
