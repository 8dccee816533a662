-- What the row call answers and leaves: document 01, refusals 1 and 15.
use Rattle.std.specs.Prelude.{◌≡◌, ℕ, cond, List, length, ℤ, ◌==◌, nat_lt}
use Rattle.laws.specs.Wrap.{wrap}
use Rattle.wavelet.specs.Filters.{last_wavelet, analysis_by}

-- the longest row: refusal 15. No padded side of a picture is longer.
abbrev pub row_limit : ℕ
row_limit = 65536

-- the number of the row call's answer: 1, there is no such wavelet index; 15, the row is too long; else 0
unfoldable pub answer_of : ℕ → List ℤ → ℕ
answer_of i xs = cond (nat_lt last_wavelet i) 1 (cond (nat_lt row_limit (length xs)) 15 0)

-- the row call by wavelet index i: the row before and after, and the answer's number; a refused row is unchanged
pub record Analysed (i : ℕ) (xs ys : List ℤ) (r : ℕ) : Type 0 where
  pub answer : r ≡ answer_of i xs
  pub row : ys ≡ cond (answer_of i xs == 0) (analysis_by wrap i xs) xs
