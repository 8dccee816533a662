-- A plane as a function of y and x, and the same as a list, row by row.
use Rattle.std.specs.Prelude.{ℕ, ◌+◌, ◌*◌, ◌/◌, ◌%◌, List, ℤ}
use Rattle.laws.specs.Rows.{at, span}

abbrev pub Plane : Type 0
Plane = ℕ → ℕ → ℤ

-- columns as rows
abbrev pub turned : Plane → Plane
turned f y x = f x y

-- a list of rows of w as a plane
abbrev pub as_plane : ℕ → List ℤ → Plane
as_plane w l y x = at l (y * w + x)

-- h rows of w, one after the other
abbrev pub as_list : ℕ → ℕ → Plane → List ℤ
as_list h w f = span (λ k. f (k / w) (k % w)) 0 (h * w)
