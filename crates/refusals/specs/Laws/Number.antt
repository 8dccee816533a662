-- Laws of the numbers of refusals.
use Rattle.std.specs.Prelude.{◌≡◌, refl, ℕ, zero, suc, ◌≤◌, ⊤}
use Rattle.std.proofs.Common.{arith}
use Rattle.refusals.specs.declared.Refusal.{Refusal}
use Rattle.refusals.specs.declared.Refusal.TheVariants.{Wavelets, Depths, Slices, Sizes, NoTarget, Index, Target, Frame, Matrix, NoMatrix, Area, Planes, Work, Unit, Row}
use Rattle.refusals.specs.Number.{number, refusal_by}

-- a refusal is that of its number
pub by_number : (r : Refusal) → refusal_by (number r) ≡ r
by_number Wavelets = refl
by_number Depths = refl
by_number Slices = refl
by_number Sizes = refl
by_number NoTarget = refl
by_number Index = refl
by_number Target = refl
by_number Frame = refl
by_number Matrix = refl
by_number NoMatrix = refl
by_number Area = refl
by_number Planes = refl
by_number Work = refl
by_number Unit = refl
by_number Row = refl

-- no refusal has the number 0
pub number_some : (r : Refusal) → 1 ≤ number r
number_some Wavelets = omega arith
number_some Depths = omega arith
number_some Slices = omega arith
number_some Sizes = omega arith
number_some NoTarget = omega arith
number_some Index = omega arith
number_some Target = omega arith
number_some Frame = omega arith
number_some Matrix = omega arith
number_some NoMatrix = omega arith
number_some Area = omega arith
number_some Planes = omega arith
number_some Work = omega arith
number_some Unit = omega arith
number_some Row = omega arith

-- n is 0 or the number of a refusal
abbrev pub Named : ℕ → Type 0
Named zero = ⊤
Named (suc n) = number (refusal_by (suc n)) ≡ suc n
