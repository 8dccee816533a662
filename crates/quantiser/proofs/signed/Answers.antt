-- `quantiser::signed` meets its contract.
use mathlib.Core.Path.{◌∙◌}
use native.Mathlib.Omega.{arith}
use lib.IntN.{pos, ◌-ℤ◌}
use mir.Syntax.{w64}
use mir.Facts.{to_z-of_z, to_z_pos}
use Rattle.laws.specs.Laws.Integer.{abs_sub}
use Rattle.laws.specs.Laws.Machine.{fit}
use Rattle.quantiser.specs.Laws.Sign.{signed-minus, signed-plus}
use Rattle.quantiser.proofs.signed.Goals as goal

pub overflow_sub-result : goal.overflow_sub-result
overflow_sub-result c =
    let m = c.args.m in
    rw (to_z_pos w64 c.requires) (fit (pos 0 -ℤ pos m) (omega (arith, abs_sub (pos 0) (pos m))))

pub returns-then-z-lt0 : goal.returns-then-z-lt0
returns-then-z-lt0 c =
    to_z-of_z (overflow_sub-result c) ∙ rw (to_z_pos w64 c.requires) (signed-minus c.args.z c.args.m (simp (to_z-of_z, c.ranges.z) at c.if-z-lt0.true))

pub returns-else-z-lt0 : goal.returns-else-z-lt0
returns-else-z-lt0 c =
    to_z_pos w64 c.requires ∙ signed-plus c.args.z c.args.m (simp (to_z-of_z, c.ranges.z) at c.if-z-lt0.false)
