-- `rate_in` meets its contract.
use native.Mathlib.Omega.{arith}
use Rattle.words.specs.Laws.Words.{rate_bytes}
use Rattle.words.proofs.rate_in.Goals as goal

pub returns-in_default : goal.returns-in_default
returns-in_default c = rate_bytes c.args.rate c.args.number (omega arith) (omega arith)
