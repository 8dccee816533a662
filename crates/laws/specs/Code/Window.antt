-- A list with n places from p on replaced: what a function over one slice and offsets leaves.
use Rattle.std.specs.Prelude.{ℕ, ◌+◌, List, ◌++◌, take, drop, ℤ}

-- n places from p on
abbrev pub piece : ℕ → ℕ → List ℤ → List ℤ
piece p n l = take n (drop p l)

-- l with the n places from p on replaced by ys
unfoldable pub put : ℕ → ℕ → List ℤ → List ℤ → List ℤ
put p n ys l = take p l ++ (ys ++ drop (p + n) l)
