-- `encode::run_words` meets its contract.
use mathlib.Core.Path.{◌≡◌, sym, ◌∙◌}
use native.Mathlib.Omega.{arith}
use lib.ListN.{length}
use Rattle.jobs.specs.Laws.Job.{answer_room, answer_laid, job-laid}
use borrow.Author.Rules.{rules}
use Rattle.jobs.proofs.encode.run_words.Goals as goal

pub returns-then-not-well_formed : goal.returns-then-not-well_formed
returns-then-not-well_formed c =
    let a = c.args in
    let w = c.well_formed-2 in
    let p = c.put_job.ensures in
    let f = sym w.ensures ∙ c.if-not-well_formed.true in
    (job-laid a.words.now a.out.now a.work.now f p, omega (arith, p.next, p.size, c.requires.1.1.1))

pub put_answer-requires : goal.put_answer-requires
put_answer-requires c =
    let a = c.args in
    let r = c.call-r in
    let k : length r.new.out ≡ length a.out.now = search rules in
    answer_room a.words.now a.out.now a.work.now r.new.out r.new.work r.result (length a.text.now) r.ensures k c.requires.1.1.0 c.requires.1.1.1

pub returns : goal.returns
returns c =
    let a = c.args in
    let r = c.call-r in
    let w = c.well_formed-2 in
    let p = c.put_answer.ensures in
    let t = sym w.ensures ∙ c.if-not-well_formed.false in
    (answer_laid a.words.now a.out.now a.work.now r.new.out r.new.work r.result t r.ensures p.0, p.1)
