-- What an encoder has decided of a picture: the parameters, and for each slice its index, its numbers and its bits.
use Rattle.std.specs.Prelude.{List, ℕ, ℤ}
use Rattle.codewords.specs.Bit.{Bits}
use Rattle.unit.specs.Three.{Three}
use Rattle.unit.specs.Parameters.{Parameters}

pub record SlicePlan : Type 0 where
  pub index : ℕ
  -- the quantised numbers, before any cut
  pub numbers : Three (List ℤ)
  -- what a reader gets of them: zeros for document 01's dropped numbers, those after the runs that a cut keeps
  pub kept : Three (List ℤ)
  pub bits : Bits

pub record Plan : Type 0 where
  pub parameters : Parameters
  pub slices : List SlicePlan
