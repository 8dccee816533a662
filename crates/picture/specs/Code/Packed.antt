-- A run of numbers in short form, in words: a number that is not 0 is its own word, 2^52 + n stands for n zeros before
-- one, and zeros at the run's end have no word.
use Rattle.std.specs.Prelude.{◌≡◌, true, false, cond, List, [], ◌∷◌, ◌++◌, ℕ, zero, suc, ◌+◌, ◌*◌, ◌-◌, ◌^◌, ◌≤◌, leb, ℤ, pos, negsuc, length, replicate, None}
use Rattle.laws.specs.Code.Laid.{laid}
use Rattle.laws.specs.Code.Window.{piece}
use Rattle.codewords.specs.CodeWord.{code_s}
use Rattle.unit.specs.Trim.{is_zero}
use Rattle.picture.specs.declared.slices.strip.Strip.{Strip}
use Rattle.picture.specs.declared.high.packed.Packing.{Packing}
use Rattle.picture.specs.declared.slices.layout.Run.{Run}
use Rattle.picture.specs.Code.Strip.{Plain, Bounds}
use Rattle.picture.specs.Code.Layout.{RunIn}
use Rattle.picture.specs.Code.Counts.{count_of}

abbrev pub mark : ℕ
mark = 2 ^ 52

-- the word of n zeros, none where n is 0
unfoldable pub zeros_word : ℕ → List ℤ
zeros_word zero = []
zeros_word (suc n) = pos (mark + suc n) ∷ []

-- the words of xs behind n zeros
unfoldable pub packed : ℕ → List ℤ → List ℤ
packed n [] = []
packed n (x ∷ xs) = elim (is_zero x) [ true ↦ packed (suc n) xs | false ↦ zeros_word n ++ (x ∷ packed 0 xs) ]

-- the bits of the numbers that are packed
unfoldable pub packed_bits : ℕ → List ℤ → ℕ
packed_bits n [] = 0
packed_bits n (x ∷ xs) = elim (is_zero x) [ true ↦ packed_bits (suc n) xs | false ↦ n + length (code_s x) + packed_bits 0 xs ]

-- how many zeros numbers end with, after n zeros
unfoldable pub waiting : ℕ → List ℤ → ℕ
waiting n [] = n
waiting n (x ∷ xs) = elim (is_zero x) [ true ↦ waiting (suc n) xs | false ↦ waiting 0 xs ]

-- the numbers of a word, and of words one after the other
unfoldable pub word_numbers : ℤ → List ℤ
word_numbers (pos n) = cond (leb mark n) (replicate (n - mark) (pos 0)) (pos n ∷ [])
word_numbers (negsuc n) = negsuc n ∷ []

unfoldable pub unpacked : List ℤ → List ℤ
unpacked [] = []
unpacked (z ∷ zs) = word_numbers z ++ unpacked zs

-- n words of w from place i on
abbrev pub words_at : List ℤ → ℕ → ℕ → List ℤ
words_at w i n = piece i n w

-- ---- conditions and outcomes
-- a strip of one component that is not predicted
pub record Single (a n : ℕ) (l : List ℤ) (s : Strip) : Type 0 where
  pub plain : Plain a n l s
  pub single : s.second ≡ None

-- whether a word is due for n zeros
abbrev pub due : ℕ → ℕ
due zero = 0
due (suc n) = 1

-- k more numbers can be packed before place a
pub record Packable (a : ℕ) (t : Packing) (k : ℕ) : Type 0 where
  pub room : t.at + due t.zeros + k ≤ a
  pub zeros : t.zeros + k ≤ 2 ^ 30
  pub bits : t.bits + t.zeros + 128 * k ≤ 2 ^ 62

-- k more numbers of a strip of one component that is not predicted can be packed, before its coefficients
abbrev pub PackIn : List ℤ → Strip → Packing → ℕ → Type 0
PackIn l s t k = Bounds (λ a n. Single a n l s × Packable a t k)

-- a run of one component can be packed from place i on, before its coefficients
abbrev pub PackRunIn : Run → ℕ → List ℤ → Type 0
PackRunIn r i w =
    (r.second ≡ None)
    × Bounds (λ a e. RunIn r.layout r.first r.first a e r.slice r.index w × ((r.layout.predicted ≡ false) × (i + count_of r.layout r.first r.slice ≤ a)))

-- xs packed from t on, which gave v and r
pub record Packs (w : List ℤ) (t : Packing) (xs : List ℤ) (v : List ℤ) (r : Packing) : Type 0 where
  pub work : v ≡ laid w t.at (packed t.zeros xs)
  pub at : r.at ≡ t.at + length (packed t.zeros xs)
  pub zeros : r.zeros ≡ waiting t.zeros xs
  pub bits : r.bits ≡ t.bits + packed_bits t.zeros xs
