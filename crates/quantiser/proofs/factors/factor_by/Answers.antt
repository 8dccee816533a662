-- `quantiser::factors::factor_by` meets its contract.
use native.Mathlib.Omega.{arith}
use Rattle.quantiser.specs.Laws.Cap.{factor_by_rest}
use Rattle.quantiser.proofs.factors.factor_by.Goals as goal

pub returns-in-0 : goal.returns-in-0
returns-in-0 c = rw c.in-0.is

pub returns-in-1 : goal.returns-in-1
returns-in-1 c = rw c.in-1.is

pub returns-in-2 : goal.returns-in-2
returns-in-2 c = rw c.in-2.is

pub returns-in_default : goal.returns-in_default
returns-in_default c = let h = c.in_default in let a = c.args in factor_by_rest a.remainder a.base (omega arith)
