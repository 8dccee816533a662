-- Runs without their trailing zeros, what a run costs, and the longest run that fits: document 01, "Slices and unit".
use Rattle.std.specs.Prelude.{Bool, true, false, List, [], ◌∷◌, ℕ, zero, suc, ◌-◌, leb, ℤ, pos, negsuc, length}
use Rattle.codewords.specs.CodeWord.{code_s, codes}

abbrev pub is_zero : ℤ → Bool
is_zero (pos zero) = true
is_zero (pos (suc n)) = false
is_zero (negsuc n) = false

-- x in front of a run that has no trailing zeros
abbrev pub trim_cons : ℤ → List ℤ → List ℤ
trim_cons x (y ∷ ys) = x ∷ y ∷ ys
trim_cons (pos zero) [] = []
trim_cons (pos (suc n)) [] = pos (suc n) ∷ []
trim_cons (negsuc n) [] = negsuc n ∷ []

-- a run without its trailing zeros
unfoldable pub trimmed : List ℤ → List ℤ
trimmed [] = []
trimmed (x ∷ xs) = trim_cons x (trimmed xs)

-- the bits of a run's code words
abbrev pub bits_of : List ℤ → ℕ
bits_of xs = length (codes xs)

-- trimmed_cost: the bits of a run without its trailing zeros
unfoldable pub trimmed_cost : List ℤ → ℕ
trimmed_cost xs = bits_of (trimmed xs)

-- fit_prefix: the longest run from the start whose code words take at most n bits
unfoldable pub fit_prefix : List ℤ → ℕ → List ℤ
fit_prefix [] n = []
fit_prefix (x ∷ xs) n =
    let b = length (code_s x) in
    elim (leb b n) [ true ↦ x ∷ fit_prefix xs (n - b) | false ↦ [] ]
