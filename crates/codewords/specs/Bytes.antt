-- Bits in bytes, high first.
use Rattle.std.specs.Prelude.{List, [], ◌∷◌, ◌++◌, ℕ, zero, suc, ◌+◌, ◌*◌, ◌-◌, ◌%◌}
use Rattle.codewords.specs.Bit.{Bits, val, lit}

-- the bytes of s where a byte is begun: it says a so far, and n bits and one more are still wanted. Bits that fill no
-- byte are left
unfoldable pub pack : ℕ → ℕ → Bits → List ℕ
pack n a [] = []
pack zero a (b ∷ s) = (a * 2 + val b) ∷ pack 7 0 s
pack (suc n) a (b ∷ s) = pack n (a * 2 + val b) s

-- how many bits fill the last byte of n bits
abbrev pub padding : ℕ → ℕ
padding n = (8 - n % 8) % 8

abbrev pub to_bytes : Bits → List ℕ
to_bytes s = pack 7 0 s

unfoldable pub from_bytes : List ℕ → Bits
from_bytes [] = []
from_bytes (x ∷ xs) = lit 8 x ++ from_bytes xs
