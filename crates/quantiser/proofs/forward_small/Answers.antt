-- `quantiser::forward_small` meets its contract.
use mathlib.Core.Path.{◌∙◌}
use native.Mathlib.Omega.{arith}
use mir.Syntax.{w64}
use mir.Facts.{to_z-of_z}
use Rattle.quantiser.specs.Laws.Step.{back}
use Rattle.quantiser.specs.Laws.Sign.{forward-sign}
use Rattle.quantiser.proofs.forward_small.Goals as goal

pub signed-requires : goal.signed-requires
signed-requires c = omega (arith, c.forward_size.ensures.1)

pub returns : goal.returns
returns c =
    back _ c.signed.type_inv ∙ c.signed.ensures
    ∙ forward-sign _ _ _ _ (to_z-of_z {w = w64} c.ranges.c) c.forward_size.ensures.0
