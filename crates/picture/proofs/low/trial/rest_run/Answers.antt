-- `low::trial::rest_run` meets its contract.
use mathlib.Core.Path.{◌∙◌}
use Rattle.picture.specs.Code.Layout.{rest_of}
use Rattle.picture.specs.Laws.Tally.{TallyOf, tally_of_lem, tally_keeps, tally_trimmed}
use Rattle.picture.proofs.low.trial.rest_run.Goals as goal
use Rattle.picture.proofs.low.trial.rest_run.Goals.{After-rest_tally-t}

-- the tally of the run
whole : (c : After-rest_tally-t) → let a = c.args in
    TallyOf (rest_of a.work.now a.r.now) c.rest_tally-t.result
whole c = tally_of_lem _ c.rest_tally-t.result c.rest_tally-t.ensures

pub trimmed_of-requires : goal.trimmed_of-requires
trimmed_of-requires c = tally_keeps (whole c)

pub returns : goal.returns
returns c = c.trimmed_of.ensures ∙ tally_trimmed (whole (goal.at.returns c).After-rest_tally-t)
