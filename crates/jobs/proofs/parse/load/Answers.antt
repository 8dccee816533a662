use Rattle.std.proofs.Common.{rules, ◌≡◌, ◌∙◌, map, length, get_or, arith}
use Rattle.laws.specs.Laws.Laid.{lays_start}
use Rattle.jobs.specs.Job.{content_of}
use Rattle.jobs.specs.Laws.Parse.{fill-next, fill_all, value-at, values_count}
use Rattle.jobs.proofs.parse.load.Goals as goal

pub loop-i-init : goal.loop-i-init
loop-i-init g c = lays_start c.args.numbers.now 0

pub loop-i-preserved : goal.loop-i-preserved
loop-i-preserved g c =
    let ws = c.args.words.now in
    let l = c.loop-i in
    let e : c.of.result ≡ g.value (content_of (get_or ws l.i 0)) = search rules in
    fill-next (map g.value (map content_of ws)) l.i c.of.result (g.value 0) (rw (values_count g.value ws) c.loop-i-test.true) (e ∙ value-at g.value ws l.i) l.invariant

pub returns : goal.returns
returns g c =
    let ws = c.args.words.now in
    let l = c.loop-i in
    fill_all (map g.value (map content_of ws)) l.i (length ws) (values_count g.value ws) (omega (arith, l.auto.i-end, c.loop-i-test.false)) l.invariant
