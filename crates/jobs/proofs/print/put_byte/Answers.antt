-- `print::put_byte` meets its contract.
use Rattle.jobs.specs.Laws.Print.{chunk-laid}
use Rattle.jobs.proofs.print.put_byte.Goals as goal

pub returns : goal.returns
returns c =
    let a = c.args in
    chunk-laid a.b a.last c.digit.ensures c.digit-2.ensures c.gap.ensures
    c.put.ensures c.put-2.ensures c.put-3.ensures
