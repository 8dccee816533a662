-- What the code's runs of updates ask and leave.
use Rattle.std.specs.Prelude.{◌≡◌, ℕ, zero, suc, ◌+◌, ◌*◌, ◌/◌, ◌<◌, ◌≤◌, Bool, false, ◌≢◌, List, [], ◌∷◌, length, replicate, ℤ, slice_index, slice_set}
use Rattle.laws.specs.Wrap.{wrap}
use Rattle.laws.specs.Rows.{at}
use Rattle.wavelet.specs.Lifting.{Stage, place, dot, scaled, change}

-- ---- what the functions ask and leave
-- the places that the taps read for update n, each times w
pub record Placed (st : Stage) (len n w : ℕ) (o : List ℕ) : Type 0 where
  pub long : length o ≡ 8
  pub is : (j : ℕ) → j < 8 → slice_index o j ≡ place st len n j * w

-- m updates from n on, whose places move on by 2 with each
pub record Moves (st : Stage) (len n m : ℕ) : Type 0 where
  pub some : 1 ≤ m
  pub fits : n + m ≤ len / 2
  pub moves : (i j : ℕ) → i < m → j < length st.taps → place st len (n + i) j ≡ place st len n j + 2 * i

-- the sum of the first k taps, their places moved by x
abbrev pub taps_to : List ℤ → List ℕ → ℕ → List ℤ → ℕ → ℤ
taps_to ts o x a k = dot wrap (at ts) (λ j. at a (slice_index o j + x)) k

-- taps whose places, moved by x, are inside
pub record TapsIn (a : List ℤ) (taps : ℕ) (o : List ℕ) (x : ℕ) : Type 0 where
  pub long : length o ≡ 8
  pub inside : (j : ℕ) → j < taps → slice_index o j + x < length a

-- the new number at place p + x
abbrev pub value_of : Stage → Bool → List ℕ → ℕ → ℕ → List ℤ → ℤ
value_of st plus o p x xs = change wrap plus (at xs (p + x)) (scaled wrap st (taps_to st.taps o x xs (length st.taps)))

-- the list after m updates, of the places p, p + step, .., each of which reads it as it was
unfoldable pub ran : Stage → Bool → List ℕ → ℕ → ℕ → ℕ → List ℤ → List ℤ
ran st plus o p step zero xs = xs
ran st plus o p step (suc m) xs = slice_set (ran st plus o p step m xs) (p + step * m) (value_of st plus o p (step * m) xs)

-- updates of the places p, p + step, .., by so many taps
pub record RunIn (a : List ℤ) (taps : ℕ) (o : List ℕ) (p count step : ℕ) : Type 0 where
  pub long : length o ≡ 8
  pub steps : 1 ≤ step
  pub inside : (i j : ℕ) → i < count → j < taps → slice_index o j + step * i < length a
  pub writes : (i : ℕ) → i < count → p + step * i < length a
  -- no place is read after it is updated
  pub later : (h i j : ℕ) → h < i → i < count → j < taps → slice_index o j + step * i ≢ p + step * h

-- a stage of two taps, both t, and the places i and j that they read; a run depends on no other number of its stage
abbrev pub two_taps : ℤ → ℕ → Stage
two_taps t shift = record { to = 0; adds = false; shift = shift; ahead = 0; back = 0; taps = t ∷ t ∷ [] }

abbrev pub two_places : ℕ → ℕ → List ℕ
two_places i j = i ∷ j ∷ replicate 6 0
