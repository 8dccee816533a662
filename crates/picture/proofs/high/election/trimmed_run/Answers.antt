-- `high::election::trimmed_run` meets its contract.
use mathlib.Core.Path.{◌∙◌}
use Rattle.picture.specs.Laws.Tally.{tally_keeps, tally_trimmed, TallyOf}
use Rattle.picture.specs.Code.Layout.{numbers_of, second_of, pair_of}
use Rattle.picture.specs.Laws.Layout.{first_addable, tally_whole}
use Rattle.picture.proofs.high.election.trimmed_run.Goals as goal
use Rattle.picture.proofs.high.election.trimmed_run.Goals.{After-rest_tally-t}

-- the tally of the whole run
whole : (c : After-rest_tally-t) → let a = c.args in TallyOf (numbers_of a.work.now a.r.now) c.rest_tally-t.result
whole c =
    let a = c.args in
    tally_whole a.work.now a.r.now.layout a.r.now.first (second_of a.r.now) (pair_of a.r.now) a.r.now.slice a.r.now.index c.rest_tally-t.result c.first_tally-first.result c.first_tally-first.ensures c.rest_tally-t.ensures

pub rest_tally-t-requires : goal.rest_tally-t-requires
rest_tally-t-requires c =
    let a = c.args in
    (c.requires.0, (first_addable a.work.now a.r.now.layout a.r.now.first (second_of a.r.now) (pair_of a.r.now) a.r.now.slice a.r.now.index c.requires.0.holds c.requires.1 c.first_tally-first.result c.first_tally-first.ensures, c.first_window-v.ensures))

pub trimmed_of-requires : goal.trimmed_of-requires
trimmed_of-requires c = tally_keeps (whole c)

pub returns : goal.returns
returns c = c.trimmed_of.ensures ∙ tally_trimmed (whole (goal.at.returns c).After-rest_tally-t)
