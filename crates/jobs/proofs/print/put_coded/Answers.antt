-- `print::put_coded` meets its contract.
use native.Mathlib.Omega.{arith}
use Rattle.jobs.specs.Laws.Print.{line-laid}
use Rattle.jobs.proofs.print.put_coded.Goals as goal

pub returns : goal.returns
returns c =
    let v = c.put_value.ensures in
    let w = c.put_value-2.ensures in
    let x = c.put_value-3.ensures in
    let y = c.put_value-4.ensures in
    (line-laid c.args.c v.0 w.0 x.0 y.0, omega (arith, v.1, w.1, x.1, y.1))
