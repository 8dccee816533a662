-- `quantiser::annex_d::table_of` meets its contract.
use Rattle.quantiser.specs.Laws.Cell.{same_table, same_none, mixed_table, mixed_none}
use Rattle.quantiser.proofs.annex_d.table_of.Goals as goal
use native.Mathlib.Omega.{arith}

pub returns-in-3-eq1-clause-is : goal.returns-in-3-eq1-clause-is
returns-in-3-eq1-clause-is c = mixed_table c.args.wavelet c.args.wavelet_ho c.in-3-eq1.is-0 c.in-3-eq1.is-1

pub returns-in_default-clause-is : goal.returns-in_default-clause-is
returns-in_default-clause-is c = same_table c.args.wavelet c.args.wavelet_ho c.if-a-b.true c.if-a-lt7.true

pub returns-in_default-2-clause-is : goal.returns-in_default-2-clause-is
returns-in_default-2-clause-is c = same_none c.args.wavelet c.args.wavelet_ho c.if-a-b.true c.if-a-lt7.false

pub returns-in_default-2-2-clause-is : goal.returns-in_default-2-2-clause-is
returns-in_default-2-2-clause-is c =
    mixed_none c.args.wavelet c.args.wavelet_ho c.if-a-b.false (λ p q. omega arith)
