-- What a case puts behind its ones.
use Rattle.std.specs.Prelude.{◌≤◌, ◌<◌, ◌^◌}
use Rattle.std.specs.Int.{w64}
use Rattle.std.proofs.Common.{SFits}
use Rattle.codewords.specs.Bit.{Bits, lit}
use Rattle.codewords.specs.CodeWord.{code_u, code_s}
use Rattle.replay.specs.declared.codes.Put.{Put}
use Rattle.replay.specs.declared.codes.Put.TheVariants.{Uint, Sint, Nbits}

abbrev pub bits_of : Put → Bits
bits_of (Uint v) = code_u v
bits_of (Sint z) = code_s z
bits_of (Nbits n v) = lit n v

-- a number that the writer takes
abbrev pub Legal : Put → Type 0
Legal (Uint v) = v < 2 ^ 32
Legal (Sint z) = SFits w64 z
Legal (Nbits n v) = n ≤ 64
