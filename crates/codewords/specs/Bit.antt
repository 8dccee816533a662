-- Bits and literals, ST 2042-1 A.2.3 and A.3: bits go high first.
use Rattle.std.specs.Prelude.{Bool, true, false, List, [], ◌∷◌, ℕ, zero, suc, ◌+◌, ◌*◌, ◌/◌, ◌%◌, ◌^◌, eqb, replicate}

abbrev pub Bits : Type 0
Bits = List Bool

abbrev pub val : Bool → ℕ
val false = 0
val true = 1

-- A.3.3: the k low bits of v
unfoldable pub lit : ℕ → ℕ → Bits
lit zero v = []
lit (suc k) v = eqb (v / 2 ^ k % 2) 1 ∷ lit k v

-- the number that the bits say, read on from a
unfoldable pub value : ℕ → Bits → ℕ
value a [] = a
value a (b ∷ s) = value (a * 2 + val b) s

-- n bits 1
abbrev pub one_bits : ℕ → Bits
one_bits n = replicate n true

-- n bits 0
abbrev pub zero_bits : ℕ → Bits
zero_bits n = replicate n false
