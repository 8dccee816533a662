-- `quantiser::quotient_log2` meets its contract.
use native.Mathlib.Omega.{arith}
use Rattle.quantiser.specs.Laws.Length.{Gap, gap_law}
use Rattle.quantiser.proofs.quotient_log2.Goals as goal
use Rattle.quantiser.proofs.quotient_log2.Goals.{Start}

known : (c : Start) → Gap c.args.n c.args.f
known c = gap_law c.args.n c.args.f c.requires.0 c.requires.1 (omega arith)

pub overflow_sub-d : goal.overflow_sub-d
overflow_sub-d c = (known c).up

pub overflow_cast-d : goal.overflow_cast-d
overflow_cast-d c = omega (arith, (known c).short)

pub overflow_shl-f : goal.overflow_shl-f
overflow_shl-f c = (known c).short

pub overflow_sub-result : goal.overflow_sub-result
overflow_sub-result c = (known (goal.at.overflow_sub-result c).Start).some c.if-n-f.true

pub returns-then-n-f : goal.returns-then-n-f
returns-then-n-f c = (known (goal.at.returns-then-n-f c).Start).less c.if-n-f.true

pub returns-else-n-f : goal.returns-else-n-f
returns-else-n-f c = (known (goal.at.returns-else-n-f c).Start).same c.if-n-f.false
