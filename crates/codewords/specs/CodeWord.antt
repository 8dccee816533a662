-- Interleaved exp-Golomb code words, ST 2042-1 A.4.3 and A.4.4.
use Rattle.std.specs.Prelude.{Bool, true, false, List, [], ◌∷◌, ◌++◌, ℕ, zero, suc, ◌+◌, ◌/◌, ℤ, pos, negsuc, nat_abs}
use Rattle.codewords.specs.Bit.{Bits, lit}

-- how often w can be halved before it is 1 (0 for 0): the place of its leading one. f bounds the halvings
unfoldable pub log2_in : ℕ → ℕ → ℕ
log2_in zero w = zero
log2_in (suc f) zero = zero
log2_in (suc f) (suc zero) = zero
log2_in (suc f) (suc (suc w)) = suc (log2_in f (suc (suc w) / 2))

unfoldable pub log2 : ℕ → ℕ
log2 w = log2_in w w

-- each bit after a 0
unfoldable pub interleaved : Bits → Bits
interleaved [] = []
interleaved (b ∷ s) = false ∷ b ∷ interleaved s

-- A.4.3: the bits of v + 1 below its leading one, each after a 0, and then a 1
unfoldable pub code_u : ℕ → Bits
code_u v = interleaved (lit (log2 (v + 1)) (v + 1)) ++ (true ∷ [])

abbrev pub sign : ℤ → Bits
sign (pos zero) = []
sign (pos (suc n)) = false ∷ []
sign (negsuc n) = true ∷ []

-- A.4.4: the magnitude, and a sign bit unless it is 0, 1 for minus
unfoldable pub code_s : ℤ → Bits
code_s z = code_u (nat_abs z) ++ sign z

-- the signed code word by the magnitude and whether the number is below 0
unfoldable pub code_m : ℕ → Bool → Bits
code_m zero minus = code_u 0
code_m (suc m) minus = code_u (suc m) ++ (minus ∷ [])

-- signed code words, one after the other
unfoldable pub codes : List ℤ → Bits
codes [] = []
codes (y ∷ ys) = code_s y ++ codes ys

-- the first n of ys, with zeros where ys is too short
unfoldable pub zero_filled : ℕ → List ℤ → List ℤ
zero_filled zero ys = []
zero_filled (suc n) [] = pos zero ∷ zero_filled n []
zero_filled (suc n) (y ∷ ys) = y ∷ zero_filled n ys
