-- `picture::high::packed::pack_zeros` meets its contract.
use mathlib.Core.Path.{ap, ◌∙◌}
use Prim.Native.Nat.{◌+◌}
use native.Mathlib.Omega.{arith}
use lib.IntN.{ℤ, pos}
use lib.ListN.{set}
use mir.Syntax.{w64}
use mir.Val.{to_z, of_z}
use mir.Facts.{to_z-of_z}
use Rattle.laws.specs.Laws.Machine.{fit}
use Rattle.picture.specs.Code.Packed.{mark}
use Rattle.picture.specs.Laws.Packed.{zeros-none, zeros-some, some-due, word_is}
use Rattle.picture.proofs.high.packed.pack_zeros.Goals as goal

pub returns-then-n-eq0 : goal.returns-then-n-eq0
returns-then-n-eq0 c = let a = c.args in zeros-none a.work.now a.at a.n c.if-n-eq0.true

pub bounds-work-at : goal.bounds-work-at
bounds-work-at c =
    omega (arith, c.requires.0, some-due c.args.n c.if-n-eq0.false)

pub returns : goal.returns
returns c =
    let a = c.args in
    let w : ℤ = pos (mark + a.n) in
    zeros-some a.work.now _ a.at a.n c.if-n-eq0.false
    (ap (λ (z : ℤ). set a.work.now a.at (to_z w64 (of_z w64 z))) (word_is a.n c.requires.1)
    ∙ ap (set a.work.now a.at) (to_z-of_z {w = w64} {z = w} (fit w (omega (arith, c.requires.1)))))
