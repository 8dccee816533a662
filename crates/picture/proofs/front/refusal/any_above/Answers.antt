-- `front::refusal::any_above` meets its contract.
use Rattle.std.proofs.Common.{◌∙◌, refl, ltb, ◌||◌, rules, tests}
use Rattle.std.specs.List.{list_any}
use Rattle.std.proofs.lemmas.Iterator.{YieldsList-from_slice}
use Rattle.std.proofs.lemmas.Iterator.Search.{any_from_yields_List}
use Rattle.std.proofs.lemmas.List.Recursion.{same_from_clauses}
use Rattle.unit.specs.Refusal.{any_above}
use Rattle.picture.proofs.front.refusal.any_above.Goals as goal

pub returns : goal.returns
returns c =
    let most = c.args.most in
    let vs = c.args.values.now in
    any_from_yields_List (ltb most) _ _ c.any.result c.any.ensures.ran (YieldsList-from_slice vs cc) (λ v b q k. search (rules, tests))
    ∙ same_from_clauses (list_any (ltb most)) (any_above most) (λ v b. ltb most v || b) refl (λ v w. refl) (λ v w. refl) vs
