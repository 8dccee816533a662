-- `vc2_quant_offset` meets its contract.
use Rattle.exports.specs.Laws.Calls.{gives}
use Rattle.exports.proofs.vc2_quant_offset.Goals as goal

pub returns : goal.returns
returns c = gives c.args.index _ c.args.value.now _ c.give.result c.quant_offset.result c.quant_offset.ensures c.give.ensures.0 c.give.ensures.1
