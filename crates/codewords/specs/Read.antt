-- Readers of bits, ST 2042-1 Annex A.
use Rattle.std.specs.Prelude.{Bool, true, false, cond, List, [], ◌∷◌, ℕ, zero, suc, pred, ◌+◌, ◌*◌, ◌%◌, ℤ, pos, negsuc, length, drop}
use Rattle.std.proofs.Math.Option.{Option, none, some}
use Rattle.codewords.specs.Bit.{Bits, val}

-- what a reader finds: a value and the bits after it, or a field that can't be read, with the bits from that field's
-- start on
pub data Read (A : Type 0) : Type 0 where
  got : A → Bits → Read A
  stop : Bits → Read A

abbrev pub Parser : Type 0 → Type 0
Parser A = Bits → Read A

module _ {A : Type 0} where
  -- takes no bit, and gives x
  unfoldable pub give : A → Parser A
  give x = λ s. got x s

  -- what was found, or, where a field is missing, a stop where it began
  abbrev pub or_stop : Bits → Option (A × Bits) → Read A
  or_stop s none = stop s
  or_stop s (some r) = got r.0 r.1

  abbrev pub checked : (A → Bool) → Bits → Read A → Read A
  checked test s (stop t) = stop t
  checked test s (got x r) = cond (test x) (got x r) (stop s)

  -- a field with a value that passes the test
  unfoldable pub such : Parser A → (A → Bool) → Parser A
  such p test = λ s. checked test s (p s)

-- a reading, and then f's of what it gave
abbrev pub after : {A B : Type 0} → Read A → (A → Parser B) → Read B
after (stop s) f = stop s
after (got x s) f = f x s

-- p, and then f of what it gives
infixl 20 ◌⊳◌
unfoldable pub ◌⊳◌ : {A B : Type 0} → Parser A → (A → Parser B) → Parser B
◌⊳◌ p f = λ s. after (p s) f

-- A.3.3: k bits as a number
abbrev pub nbits_from : ℕ → ℕ → Bits → Option (ℕ × Bits)
nbits_from zero a s = some (a, s)
nbits_from (suc k) a [] = none
nbits_from (suc k) a (b ∷ s) = nbits_from k (a * 2 + val b) s

unfoldable pub read_nbits : ℕ → Parser ℕ
read_nbits k s = or_stop s (nbits_from k 0 s)

-- A.3.2: one bit as a yes or no
abbrev pub bool_from : Bits → Option (Bool × Bits)
bool_from [] = none
bool_from (b ∷ s) = some (b, s)

unfoldable pub read_bool : Parser Bool
read_bool s = or_stop s (bool_from s)

-- A.4.3: starts at 1; while the next bit is 0 it doubles and adds the bit after; then 1 is taken off
abbrev pub uint_from : ℕ → Bits → Option (ℕ × Bits)
uint_from a [] = none
uint_from a (true ∷ s) = some (pred a, s)
uint_from a (false ∷ []) = none
uint_from a (false ∷ b ∷ s) = uint_from (a * 2 + val b) s

unfoldable pub read_uint : Parser ℕ
read_uint s = or_stop s (uint_from 1 s)

-- A.4.4: a number that is not 0 is followed by its sign
abbrev pub sign_from : ℕ → Bits → Option (ℤ × Bits)
sign_from zero s = some (pos zero, s)
sign_from (suc n) [] = none
sign_from (suc n) (true ∷ s) = some (negsuc n, s)
sign_from (suc n) (false ∷ s) = some (pos (suc n), s)

abbrev pub sint_from : Option (ℕ × Bits) → Option (ℤ × Bits)
sint_from none = none
sint_from (some r) = sign_from r.0 r.1

unfoldable pub read_sint : Parser ℤ
read_sint s = or_stop s (sint_from (uint_from 1 s))

-- A.2.4: on to the next whole byte. A unit is whole bytes, so the bits left over eights are those of the byte begun
unfoldable pub byte_align : Parser (Unit {0})
byte_align s = got tt (drop (length s % 8) s)

-- the next n bits as a bounded block, A.4.2
abbrev pub split_from : ℕ → Bits → Option (Bits × Bits)
split_from zero s = some ([], s)
split_from (suc n) [] = none
split_from (suc n) (b ∷ s) = more b (split_from n s)
  where
    more : Bool → Option (Bits × Bits) → Option (Bits × Bits)
    more b none = none
    more b (some r) = some (b ∷ r.0, r.1)

unfoldable pub read_bits : ℕ → Parser Bits
read_bits n s = or_stop s (split_from n s)

-- ---- inside a bounded block, A.4.2: past its end every bit reads as 1
unfoldable pub uintb : ℕ → Bits → ℕ × Bits
uintb a [] = (pred a, [])
uintb a (true ∷ s) = (pred a, s)
uintb a (false ∷ []) = (pred (a * 2 + 1), [])
uintb a (false ∷ b ∷ s) = uintb (a * 2 + val b) s

abbrev pub signb : ℕ → Bits → ℤ × Bits
signb zero s = (pos zero, s)
signb (suc n) [] = (negsuc n, [])
signb (suc n) (true ∷ s) = (negsuc n, s)
signb (suc n) (false ∷ s) = (pos (suc n), s)

unfoldable pub sintb : Bits → ℤ × Bits
sintb s = let r = uintb 1 s in signb r.0 r.1

-- n numbers; bits that are left over are skipped
unfoldable pub sintsb : ℕ → Bits → List ℤ
sintsb zero s = []
sintsb (suc n) s = let r = sintb s in r.0 ∷ sintsb n r.1
