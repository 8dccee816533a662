-- The eight tables of Annex D one after the other, and where the code's numbers find a matrix: the table's number, and
-- the matrix's place in the table.
use Rattle.std.specs.Prelude.{cond, ℕ, suc, ◌+◌, ltb, get_or, take, Option, None, Some}
use mathlib.Core.List.{List, [], ◌∷◌, ◌++◌, flatten}
use Rattle.laws.specs.Rows.{total}
use Rattle.quantiser.specs.AnnexD.{Table, tables, table_d1, table_d2, table_d3, table_d4, table_d5, table_d6, table_d7, table_d8}

unfoldable pub all_tables : List Table
unfolding table_d1 table_d2 table_d3 table_d4 table_d5 table_d6 table_d7 table_d8
all_tables = tables ++ (table_d8 ∷ [])

-- how many matrices each block of a table has, by horizontal-only depth
abbrev pub shape : List ℕ
shape = 5 ∷ 5 ∷ 4 ∷ 3 ∷ 2 ∷ []

-- where block k starts, in a table of blocks of these sizes
abbrev pub start_of : List ℕ → ℕ → ℕ
start_of sizes k = total (take k sizes)

-- a matrix's place in its table, for a depth and a horizontal-only depth: 19, past the last, where there is none
unfoldable pub cell_of : ℕ → ℕ → ℕ
cell_of d k = cond (ltb (start_of shape k + d) (start_of shape (suc k))) (start_of shape k + d) 19

abbrev pub table_at : ℕ → Table
table_at t = get_or all_tables t []

-- the matrix at a place of a table
unfoldable pub matrix_at : ℕ → ℕ → List ℕ
matrix_at t c = get_or (flatten (table_at t)) c []

-- the number that the code gives, or n, past the last, where it gives none
abbrev pub or_past : ℕ → Option ℕ → ℕ
or_past n None = n
or_past n (Some t) = t
