-- `print::put_value` meets its contract.
use Prim.Native.Nat.{◌^◌, ◌<◌}
use native.Mathlib.Omega.{arith}
use Rattle.laws.specs.Laws.Laid.{lays_on}
use Rattle.jobs.specs.Laws.Print.{decimal_ten, value_short}
use Rattle.jobs.proofs.print.put_value.Goals as goal

pub put_number-requires : goal.put_number-requires
put_number-requires c =
    let h : c.args.n < 2 ^ 32 = omega arith in
    omega (arith, c.requires, decimal_ten c.args.n h)

pub put-requires : goal.put-requires
put-requires c =
    let p = c.put_number.ensures in
    let h : c.args.n < 2 ^ 32 = omega arith in
    omega (arith, c.requires, p.next, p.size, decimal_ten c.args.n h)

pub returns : goal.returns
returns c =
    let a = c.args in
    let h : a.n < 2 ^ 32 = omega arith in
    let p = lays_on c.put_number.ensures c.put.ensures in
    (p, value_short a.n a.at.now c.put.new.at a.behind h p)
