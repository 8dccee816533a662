-- The numbers of refusals: document 01, "Answers that turn a call away"; document 02, (iii).
use Rattle.std.specs.Prelude.{List, [], ◌∷◌, ℕ, ◌-◌, get_or, Result, Ok, Err}
use Rattle.refusals.specs.declared.Refusal.{Refusal}
use Rattle.refusals.specs.declared.Refusal.TheVariants.{Wavelets, Depths, Slices, Sizes, NoTarget, Index, Target, Frame, Matrix, NoMatrix, Area, Planes, Work, Unit, Row}

-- the document's number of a refusal
abbrev pub number : Refusal → ℕ
number Wavelets = 1
number Depths = 2
number Slices = 3
number Sizes = 4
number NoTarget = 5
number Index = 6
number Target = 7
number Frame = 8
number Matrix = 9
number NoMatrix = 10
number Area = 11
number Planes = 12
number Work = 13
number Unit = 14
number Row = 15

-- the document's number of an answer: 0 where the call is accepted
abbrev pub number_of : {A : Type 0} → Result A Refusal → ℕ
number_of (Ok x) = 0
number_of (Err r) = number r

-- the list in the document's order
abbrev pub refusals : List Refusal
refusals =
    Wavelets ∷ Depths ∷ Slices ∷ Sizes ∷ NoTarget ∷ Index ∷ Target ∷ Frame ∷ Matrix ∷ NoMatrix ∷ Area ∷ Planes ∷ Work ∷ Unit ∷ Row ∷ []

-- the refusal of a number from 1 to 15
abbrev pub refusal_by : ℕ → Refusal
refusal_by n = get_or refusals (n - 1) Row
