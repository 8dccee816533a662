-- `quantiser::cap` meets its contract.
use mathlib.Core.Path.{sym}
use native.Mathlib.Omega.{arith}
use Rattle.quantiser.specs.Laws.Cap.{cap-same, cap-most}
use Rattle.quantiser.proofs.cap.Goals as goal

pub returns-then-n-lt-LARGEST : goal.returns-then-n-lt-LARGEST
returns-then-n-lt-LARGEST c = (sym (cap-same (omega arith)), omega arith)

pub returns-else-n-lt-LARGEST : goal.returns-else-n-lt-LARGEST
returns-else-n-lt-LARGEST c = (sym (cap-most c.if-n-lt-LARGEST.false), omega arith)
