-- `vc2_quant_factor` meets its contract.
use Rattle.exports.specs.Laws.Calls.{gives}
use Rattle.exports.proofs.vc2_quant_factor.Goals as goal

pub returns : goal.returns
returns c = gives c.args.index _ c.args.value.now _ c.give.result c.quant_factor.result c.quant_factor.ensures c.give.ensures.0 c.give.ensures.1
