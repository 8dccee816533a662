-- `parse::ends_of` meets its contract.
use Rattle.jobs.specs.Laws.Parse.{ends_are}
use Rattle.jobs.proofs.parse.ends_of.Goals as goal

pub returns : goal.returns
returns c =
    let e1 = c.run_end-settings in
    let e2 = c.run_end-matrix in
    let e3 = c.run_end-y in
    let e4 = c.run_end-c1 in
    let e5 = c.run_end in
    ends_are c.args.words.now e1.result e2.result e3.result e4.result e5.result e1.ensures.0 e2.ensures.0 e3.ensures.0 e4.ensures.0 e5.ensures.0
