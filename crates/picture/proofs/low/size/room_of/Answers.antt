-- `low::size::room_of` meets its contract.
use native.Mathlib.Omega.{arith}
use Rattle.picture.specs.Laws.LowIndex.{length_most}
use Rattle.picture.proofs.low.size.room_of.Goals as goal

pub overflow_sub-result-2 : goal.overflow_sub-result-2
overflow_sub-result-2 c = omega (arith, length_most c.args.n)
