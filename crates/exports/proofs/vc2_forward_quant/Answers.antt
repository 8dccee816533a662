-- `vc2_forward_quant` meets its contract.
use mathlib.Core.Path.{subst}
use lib.IntN.{ℤ}
use mir.Syntax.{w64}
use mir.Facts.{to_z-of_z}
use Rattle.quantiser.specs.Quant.{forward_quant}
use Rattle.quantiser.specs.Answer.{Answered}
use Rattle.exports.specs.Laws.Calls.{gives}
use Rattle.exports.proofs.vc2_forward_quant.Goals as goal

pub returns : goal.returns
returns c =
    let a = c.args in
    let h = subst (λ (z : ℤ). Answered a.index (forward_quant z a.index) c.forward_quant.result) (to_z-of_z {w = w64} c.ranges.coeff) c.forward_quant.ensures in
    gives a.index _ a.value.now _ c.give.result c.forward_quant.result h c.give.ensures.0 c.give.ensures.1
