-- `parse::any_above` meets its contract.
use mathlib.Core.Path.{◌∙◌}
use lib.Dec.{ltb}
use Rattle.std.proofs.Common.{rules, tests}
use Rattle.std.proofs.lemmas.Iterator.{YieldsList-from_slice}
use Rattle.std.proofs.lemmas.Iterator.Search.{any_from_yields_List}
use Rattle.jobs.specs.Job.{content_of}
use Rattle.jobs.specs.Laws.Parse.{any_content}
use Rattle.jobs.proofs.parse.any_above.Goals as goal

pub returns : goal.returns
returns c =
    let ws = c.args.words.now in
    any_from_yields_List (λ w. ltb 65535 (content_of w)) _ _ c.any.result c.any.ensures.ran (YieldsList-from_slice ws (cc)) (λ x b q k. search (rules, tests)) ∙ any_content ws
