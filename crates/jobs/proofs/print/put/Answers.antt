-- `print::put` meets its contract.
use Rattle.jobs.specs.Laws.Print.{lays_one}
use Rattle.jobs.proofs.print.put.Goals as goal

pub returns : goal.returns
returns c = lays_one c.args.text.now c.args.at.now c.args.c
