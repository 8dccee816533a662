-- What a case puts behind its ones.
use Rattle.std.specs.Prelude.{◌≡◌, ℕ, List, true, ◌+◌, ◌≤◌, length}
use Rattle.std.proofs.Common.{arith}
use Rattle.std.proofs.lemmas.List.{length-replicate}
use Rattle.laws.specs.Laws.Machine.{unfit}
use Rattle.codewords.specs.Bit.{one_bits}
use Rattle.codewords.specs.Code.Writer.{Room, Wrote}
use Rattle.codewords.specs.Laws.Bit.{length-lit}
use Rattle.codewords.specs.Laws.Code.{length-code_u, leading_log2, code_s_short}
use Rattle.codewords.specs.Laws.Writer.{room_after}
use Rattle.codewords.specs.declared.writer.BitWriter.{BitWriter}
use Rattle.replay.specs.declared.codes.Put.{Put}
use Rattle.replay.specs.declared.codes.Put.TheVariants.{Uint, Sint, Nbits}
use Rattle.replay.specs.Code.Put.{bits_of, Legal}

-- at most 7 ones leave 185 of the 24 bytes' bits, which hold what a case puts, and a byte behind it
pub short : (p : Put) → Legal p → length (bits_of p) ≤ 128
short (Uint v) h = omega (arith, length-code_u v, leading_log2 33 (v + 1) (omega arith) (omega arith))
short (Sint z) h = code_s_short z (unfit z h)
short (Nbits n v) h = omega (arith, length-lit n v)

pub case_room : {o : List ℕ} {w : BitWriter} (p : Put) → Legal p → Room o w 185 → Room o w (length (bits_of p))
case_room p h r = record { sound = r.sound; room = omega (arith, r.room, short p h) }

module _ {o o' : List ℕ} {w w' : BitWriter} where
  pub ones_room : (s : ℕ) → length o ≡ 24 → (w.at ≡ 0) × ((w.pending ≡ 0) × (w.pending_bits ≡ 0)) → s ≤ 7 → Wrote o w (one_bits s) o' w' → Room o' w' 185
  ones_room s h e l p =
      let r : Room o w 192 = record { sound = record { part = omega arith; small = rw e.1.1 (omega arith) }; room = omega arith } in
      room_after 185 r p (omega (arith, length-replicate s true))

  pub end_room : (p : Put) → Legal p → Room o w 185 → Wrote o w (bits_of p) o' w' → Room o' w' 8
  end_room p h r q = room_after 8 r q (omega (arith, short p h))
