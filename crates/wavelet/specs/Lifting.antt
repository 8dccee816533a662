-- One lifting stage of ST 2042-1, 15.4.4.1, on a row of any length; the synthesis of a row (15.4.4) and its analysis,
-- document 01, "Coefficients". The parameter `wr` says what is done with every sum and product: nothing (`exact`, the
-- standard's integers), or the wrap at 64 bits (the encoder's numbers).
use Rattle.std.specs.Prelude.{◌≡◌, ℕ, zero, suc, ◌+◌, ◌-◌, ◌*◌, ◌/◌, ◌%◌, ◌^◌, min, max, Bool, true, false, cond, not, ◌&&◌, List, [], ◌∷◌, length, ℤ, pos, ◌+ℤ◌, ◌-ℤ◌, ◌*ℤ◌, FitsSigned, ◌==◌, nat_lt}
use Rattle.std.specs.Int.Signed.{shr_z}
use Rattle.std.specs.Int.{w64}
use Rattle.laws.specs.Rows.{at, row}

-- a stage: types 1 and 2 go to the even places (to is 0), types 3 and 4 to the odd ones (to is 1); types 1 and 3 add, 2
-- and 4 subtract; shift is the standard's S, and its D is ahead less back
pub record Stage : Type 0 where
  pub to : ℕ
  pub adds : Bool
  pub shift : ℕ
  pub ahead : ℕ
  pub back : ℕ
  pub taps : List ℤ

-- a place near c of the other parity than to, kept inside a row of len: 2 c - 1 from 1 to len - 1 where to is 0, 2 c
-- from 0 to len - 2 where to is 1
unfoldable pub within : ℕ → ℕ → ℕ → ℕ
within to len c = max (1 - to) (min (2 * c - (1 - to)) (len - 1 - to))

-- the place that tap k reads for update n of a row of len
abbrev pub place : Stage → ℕ → ℕ → ℕ → ℕ
place st len n k = within st.to len (n + k + st.ahead - st.back)

-- sums and products without wrap
abbrev pub exact : ℤ → ℤ
exact z = z

-- wr leaves every number of 64 bits as it is; for a number that does not fit it may give anything
abbrev pub Keeps : (ℤ → ℤ) → Type 0
Keeps wr = (z : ℤ) → FitsSigned w64 z → wr z ≡ z

module _ (wr : ℤ → ℤ) where
  -- t 0 * x 0 + .. + t (k - 1) * x (k - 1)
  unfoldable pub dot : (ℕ → ℤ) → (ℕ → ℤ) → ℕ → ℤ
  dot t x zero = pos 0
  dot t x (suc k) = wr (dot t x k +ℤ wr (t k *ℤ x k))

  -- a sum, rounded and shifted by the stage's S
  abbrev pub scaled : Stage → ℤ → ℤ
  scaled st z = shr_z (wr (z +ℤ pos (2 ^ st.shift / 2))) (2 ^ st.shift)

  -- what update n of the row xs adds or takes away
  unfoldable pub delta : Stage → List ℤ → ℕ → ℤ
  delta st xs n = scaled st (dot (at st.taps) (λ k. at xs (place st (length xs) n k)) (length st.taps))

  abbrev pub change : Bool → ℤ → ℤ → ℤ
  change true x y = wr (x +ℤ y)
  change false x y = wr (x -ℤ y)

  -- place k of the row xs after its first m updates, each of which reads the row as it was; plus: whether the deltas
  -- are added
  abbrev pub new_at : Stage → Bool → ℕ → List ℤ → ℕ → ℤ
  new_at st plus m xs k = cond (k % 2 == st.to && nat_lt (k / 2) m) (change plus (at xs k) (delta st xs (k / 2))) (at xs k)

  unfoldable pub lifted : Stage → Bool → ℕ → List ℤ → List ℤ
  lifted st plus m xs = row (length xs) (new_at st plus m xs)

  -- the stage, and the stage undone
  abbrev pub lift : Stage → List ℤ → List ℤ
  lift st xs = lifted st st.adds (length xs / 2) xs

  abbrev pub unlift : Stage → List ℤ → List ℤ
  unlift st xs = lifted st (not st.adds) (length xs / 2) xs

  -- 15.4.4: the synthesis of a row, all stages in order
  unfoldable pub synthesis : List Stage → List ℤ → List ℤ
  synthesis [] xs = xs
  synthesis (st ∷ ss) xs = synthesis ss (lift st xs)

  -- the analysis of a row: every stage undone, the last one first
  unfoldable pub analysis : List Stage → List ℤ → List ℤ
  analysis [] xs = xs
  analysis (st ∷ ss) xs = unlift st (analysis ss xs)
