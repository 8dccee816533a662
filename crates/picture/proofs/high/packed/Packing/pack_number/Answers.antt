-- `high::packed::Packing::pack_number` meets its contract.
use mathlib.Core.Path.{refl, ap, ap₂, ◌∙◌}
use mathlib.Core.List.{List}
use Prim.Native.Nat.{ℕ, ◌+◌, ◌<◌}
use native.Mathlib.Omega.{arith}
use lib.IntN.{ℤ}
use lib.ListN.{length, set}
use mir.Facts.{to_z-of_z}
use Rattle.laws.specs.Laws.Laid.{laid_one}
use Rattle.codewords.specs.CodeWord.{code_s}
use Rattle.picture.specs.Code.Packed.{zeros_word}
use borrow.Author.Rules.{rules}
use Rattle.picture.specs.Laws.Unpacked.{zeros-due}
use Rattle.picture.specs.Laws.Packed.{packs_one}
use mir.Syntax.{w64}
use Rattle.picture.proofs.high.packed.Packing.pack_number.Goals as goal
use Rattle.picture.proofs.high.packed.Packing.pack_number.Goals.{After-pack_zeros-at}

pub pack_zeros-at-requires : goal.pack_zeros-at-requires
pack_zeros-at-requires c =
    let h = c.requires.1 in
    (omega (arith, h.room, zeros-due c.args.self.now.zeros), omega (arith, h.zeros))

-- the number's place
below : (c : After-pack_zeros-at) → let a = c.args in c.pack_zeros-at.result < length a.work.now
below c =
    omega (arith, c.pack_zeros-at.ensures.next, zeros-due c.args.self.now.zeros, c.requires.1.room)

pub offset_bounds-work-at : goal.offset_bounds-work-at
offset_bounds-work-at c = let b = below (goal.at.offset_bounds-work-at c).After-pack_zeros-at in search (rules, b)

pub bounds-work-at : goal.bounds-work-at
bounds-work-at c = omega (arith, below (goal.at.bounds-work-at c).After-pack_zeros-at, c.pack_zeros-at.ensures.size)

pub overflow_add-self-3 : goal.overflow_add-self-3
overflow_add-self-3 c = let b = below (goal.at.overflow_add-self-3 c).After-pack_zeros-at in search (rules, b)

pub returns : goal.returns
returns c =
    let a = c.args in
    let d = c.pack_zeros-at in
    packs_one a.work.now _ a.self.now _ a.z c.requires.0
    (ap₂ (λ (v : List ℤ) (z : ℤ). set v d.result z) d.ensures.is (to_z-of_z {w = w64} c.ranges.z)
    ∙ laid_one a.work.now a.self.now.at d.result (zeros_word a.self.now.zeros) a.z d.ensures.next)
    (ap (λ (k : ℕ). k + 1) d.ensures.next)
    refl
    (omega (arith, c.sint_code_len.ensures ∙ ap (λ (z : ℤ). length (code_s z)) (to_z-of_z {w = w64} c.ranges.z)))
