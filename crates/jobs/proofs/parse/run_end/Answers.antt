-- `parse::run_end` meets its contract.
use Rattle.std.proofs.Common.{◌∙◌, rules, tests, arith, eqb, drop}
use Rattle.std.proofs.lemmas.Iterator.{YieldsList-from_slice}
use Rattle.std.proofs.lemmas.Iterator.Consumers.{count_from_yields_List, YieldsList-at}
use Rattle.std.proofs.lemmas.Iterator.Search.{YieldsList-from_take_while}
use Rattle.jobs.specs.Job.{kind_of}
use Rattle.jobs.specs.Laws.Parse.{lent_rest, run_is, run-within}
use Rattle.jobs.proofs.parse.run_end.Goals as goal

pub returns : goal.returns
returns c =
    let a = c.args in
    let ws = a.words.now in
    let rest = drop a.from ws in
    let all = c.iter.ensures.rest ∙ lent_rest a.from ws in
    let e =
    run_is a.kind ws a.from (count_from_yields_List c.take_while.result c.count.result c.count.ensures.ran
    (YieldsList-from_take_while _ (λ w. eqb (kind_of w) a.kind) (YieldsList-at c.take_while.ensures.source (YieldsList-from_slice rest all))
    c.take_while.ensures.closure c.take_while.ensures.done (λ x b q k. search (rules, tests)))) in
    (e, omega (arith, e, run-within a.kind ws a.from c.requires))
