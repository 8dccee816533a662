-- A number of one digit, and one of more: the digits before the last, and the last.
use Rattle.std.proofs.Common.{sym, ap, length, arith}
use Rattle.laws.specs.Laws.Laid.{lays_on}
use Rattle.jobs.specs.Laws.Print.{lays_same, decimal-one, decimal-more, decimal_room}
use Rattle.jobs.proofs.print.+put_number.Goals as goal

pub put-requires : goal.put-requires
put-requires t c = omega (arith, c.requires, ap length (decimal-one c.args.n c.if-n-lt10.true))

pub returns-then-n-lt10 : goal.returns-then-n-lt10
returns-then-n-lt10 t c = lays_same (sym (decimal-one c.args.n c.if-n-lt10.true)) c.put.ensures

pub put_number-requires : goal.put_number-requires
put_number-requires t c =
    let h = c.if-n-lt10.false in
    (omega (arith, c.decreases, h), omega (arith, c.requires, decimal_room c.args.n h))

pub put-requires-else-n-lt10 : goal.put-requires-else-n-lt10
put-requires-else-n-lt10 t c =
    let p = c.put_number.ensures in
    omega (arith, c.requires, p.next, p.size, decimal_room c.args.n c.if-n-lt10.false)

pub returns-else-n-lt10 : goal.returns-else-n-lt10
returns-else-n-lt10 t c = lays_same (sym (decimal-more c.args.n c.if-n-lt10.false)) (lays_on c.put_number.ensures c.put-else-n-lt10.ensures)
