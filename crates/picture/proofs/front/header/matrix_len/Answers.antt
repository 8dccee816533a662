-- `front::header::matrix_len` meets its contract.
use native.Mathlib.Omega.{arith}
use mathlib.Core.Path.{ap}
use lib.ListN.{length}
use Rattle.picture.specs.Laws.Head.{carried_some, carried_none}
use Rattle.picture.proofs.front.header.matrix_len.Goals as goal

pub returns-in-Some : goal.returns-in-Some
returns-in-Some c =
    let e = ap length (carried_some c.args.m c.in-Some.n c.in-Some.is) in
    let v = c.values_len.ensures in
    (omega (arith, e, v.0), omega (arith, v.1))

pub returns-in-None : goal.returns-in-None
returns-in-None c = let e = ap length (carried_none c.args.m c.in-None.is) in (omega (arith, e), omega arith)
