-- `kind_in` meets its contract.
use native.Mathlib.Omega.{arith}
use Rattle.words.specs.Laws.Words.{kind_high}
use Rattle.words.proofs.kind_in.Goals as goal

pub returns-in_default : goal.returns-in_default
returns-in_default c = kind_high c.args.v (omega arith)
