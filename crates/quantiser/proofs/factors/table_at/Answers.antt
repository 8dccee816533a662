-- `quantiser::factors::table_at` meets its contract: antt compares the code's table with the definition's first 256
-- factors.
use borrow.Author.Rules.{rules}
use Rattle.laws.specs.Laws.Rows.{table}
use Rattle.quantiser.specs.Standard.{factor}
use Rattle.quantiser.specs.Quant.{cap, quant_factor}
use Rattle.quantiser.specs.Laws.Cap.{is_factor}
use Rattle.quantiser.proofs.factors.table_at.Goals as goal

pub returns : goal.returns
unfolding quant_factor cap factor
returns c = is_factor c.args.index _ (table quant_factor 256 c.args.index 0 (search rules))
