-- `coder::plan::plan_again` meets its contract.
use mathlib.Core.Path.{sym, ap, ◌∙◌}
use Rattle.picture.specs.declared.high.plan.Terms.{Terms}
use Rattle.picture.specs.Code.Matrix.{lent_in}
use Rattle.picture.specs.Laws.HighPlan.{plan_in_lem}
use Rattle.picture.proofs.coder.plan.plan_again.Goals as goal

pub plan_noted_slices-requires : goal.plan_noted_slices-requires
plan_noted_slices-requires c =
    let t = c.terms_of-t in (
      plan_in_lem (lent_in c.args.call.matrix) c.args.c c.requires.0 c.requires.1.0.0 c.requires.1.0.1 t.result t.ensures,
      (c.requires.1.1.notes (sym c.is_target.ensures ∙ c.if-is_target.false) t.result (ap (λ (t : Terms). t.rate) t.ensures), c.slices_from-at.ensures.1),
    )
