-- What has been written of a run of numbers of which only the first are kept.
use Rattle.std.specs.Prelude.{◌≡◌, List, ℕ, ◌-◌, ℤ, length, take}
use Rattle.codewords.specs.CodeWord.{codes}
use Rattle.codewords.specs.Code.Writer.{Room, Wrote}
use Rattle.picture.specs.declared.low.put.Put.{Put}

-- there is room for those of xs that are still to be kept
abbrev pub RoomFor : List ℕ → Put → List ℤ → Type 0
RoomFor o p xs = Room o p.writer (length (codes (take p.left xs)))

-- from o at p the numbers xs were gone through, which gave o' at p'
pub record Puts (o : List ℕ) (p : Put) (xs : List ℤ) (o' : List ℕ) (p' : Put) : Type 0 where
  pub wrote : Wrote o p.writer (codes (take p.left xs)) o' p'.writer
  pub left : p'.left ≡ p.left - length xs
