-- `print::digit` meets its contract.
use native.Mathlib.Omega.{arith}
use borrow.Author.Tests.{lt-ltb, le-ltb}
use Rattle.jobs.proofs.print.digit.Goals as goal

pub returns-then-v-lt10 : goal.returns-then-v-lt10
returns-then-v-lt10 c = rw (lt-ltb c.args.v 10 c.if-v-lt10.true)

pub returns-else-v-lt10 : goal.returns-else-v-lt10
returns-else-v-lt10 c = rw (le-ltb c.args.v 10 c.if-v-lt10.false) (omega arith)
