-- What a bit writer has written: whole bytes laid over the output, and the bits that are pending.
use Rattle.std.specs.Prelude.{◌≡◌, List, [], ◌++◌, ℕ, ◌+◌, ◌-◌, ◌*◌, ◌^◌, ◌≤◌, ◌<◌, length, take, drop}
use Rattle.laws.specs.Code.Laid.{laid}
use Rattle.codewords.specs.declared.writer.BitWriter.{BitWriter}
use Rattle.codewords.specs.Bit.{Bits, lit, zero_bits}
use Rattle.codewords.specs.Bytes.{to_bytes, padding}

-- the bits pending
abbrev pub pending_of : BitWriter → Bits
pending_of w = lit w.pending_bits w.pending

-- the bits pending are fewer than 32, and the number has no others
pub record Sound (w : BitWriter) : Type 0 where
  pub part : w.pending_bits < 32
  pub small : w.pending < 2 ^ w.pending_bits

-- n bits more fit into the output o
pub record Room (o : List ℕ) (w : BitWriter) (n : ℕ) : Type 0 where
  pub sound : Sound w
  pub room : w.at * 8 + w.pending_bits + n ≤ 8 * length o

-- from o at w the bits bs were written, which gave o' at w': of the bits pending before and bs, some whole bytes are
-- laid over o from w's place on, and the others are pending now
pub record Wrote (o : List ℕ) (w : BitWriter) (bs : Bits) (o' : List ℕ) (w' : BitWriter) : Type 0 where
  pub on : w.at ≤ w'.at
  pub out : o' ≡ laid o w.at (to_bytes (take (8 * (w'.at - w.at)) (pending_of w ++ bs)))
  pub rest : pending_of w' ≡ drop (8 * (w'.at - w.at)) (pending_of w ++ bs)
  pub place : w'.at * 8 + w'.pending_bits ≡ w.at * 8 + w.pending_bits + length bs
  pub sound : Sound w'
  pub size : length o' ≡ length o

-- all whole bytes of the bits pending were laid
pub record Flushes (o : List ℕ) (w : BitWriter) (o' : List ℕ) (w' : BitWriter) : Type 0 where
  pub wrote : Wrote o w [] o' w'
  pub part : w'.pending_bits < 8

-- zeros were written up to the end of the byte, and no bit is pending
pub record Aligns (o : List ℕ) (w : BitWriter) (o' : List ℕ) (w' : BitWriter) : Type 0 where
  pub wrote : Wrote o w (zero_bits (padding w.pending_bits)) o' w'
  pub whole : w'.pending_bits ≡ 0
