-- `front::header::put_matrix` meets its contract.
use native.Mathlib.Omega.{arith}
use mathlib.Core.Path.{ap}
use Rattle.codewords.specs.Laws.Writer.{wrote_then}
use lib.ListN.{length}
use Rattle.picture.specs.Laws.Head.{carried_some, carried_none}
use Rattle.picture.proofs.front.header.put_matrix.Goals as goal

pub put_values-requires : goal.put_values-requires
put_values-requires c =
    omega (arith, ap length (carried_some c.args.m c.in-Some.n c.in-Some.is))

pub returns-in-Some : goal.returns-in-Some
returns-in-Some c =
    let a = rw (c.is_some.ensures, c.in-Some.is) at c.put_bit.ensures in
    rw (carried_some c.args.m c.in-Some.n c.in-Some.is) (wrote_then c.requires.1.sound a c.put_values.ensures)

pub returns-in_default : goal.returns-in_default
returns-in_default c =
    rw (carried_none c.args.m c.in_default.is) (rw (c.is_some.ensures, c.in_default.is) at c.put_bit.ensures)
