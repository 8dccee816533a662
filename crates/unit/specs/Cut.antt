-- Cut slices: document 02, (iv), "a slice is cut if a non-zero quantised number of it is not written".
use Rattle.std.specs.Prelude.{Bool, false, not, ◌&&◌, ◌||◌, cond, List, [], ◌∷◌, map, ℕ, ℤ}
use Rattle.laws.specs.Rows.{total}
use Rattle.unit.specs.Trim.{is_zero}
use Rattle.unit.specs.Plan.{SlicePlan, Plan}

-- whether one of the numbers is not 0 and is not written: what a reader gets has 0 in its place, or no number there
unfoldable pub any_lost : List ℤ → List ℤ → Bool
any_lost [] ks = false
any_lost (x ∷ xs) [] = not (is_zero x) || any_lost xs []
any_lost (x ∷ xs) (k ∷ ks) = not (is_zero x) && is_zero k || any_lost xs ks

-- whether a slice is cut, by its quantised numbers and what a reader gets of them, luma and both colours
unfoldable pub is_cut : SlicePlan → Bool
is_cut a =
    let z = a.numbers in
    let k = a.kept in
    any_lost z.y k.y || (any_lost z.c1 k.c1 || any_lost z.c2 k.c2)

-- 1 where a slice is cut, else 0
abbrev pub cut_of : SlicePlan → ℕ
cut_of a = cond (is_cut a) 1 0

-- how many slices are cut
unfoldable pub cut_count : Plan → ℕ
cut_count a = total (map cut_of a.slices)
