-- `slices::run::rest_tally` meets its contract.
use native.Mathlib.Omega.{arith}
use Rattle.picture.specs.Laws.Counter.{counted_fewer}
use Rattle.picture.proofs.slices.run.rest_tally.Goals as goal

pub add_rest-requires : goal.add_rest-requires
add_rest-requires c = (c.requires.0, (counted_fewer c.requires.1.0 (omega arith), c.requires.1.1))
