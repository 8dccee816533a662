-- `SliceCoder::plan_hq_slice` meets its contract.
use mathlib.Core.Path.{sym, ap₂, ◌∙◌, subst}
use mathlib.Core.List.{List}
use Prim.Native.Nat.{◌+◌, ◌*◌}
use native.Mathlib.Omega.{arith}
use lib.IntN.{ℤ}
use Rattle.picture.specs.declared.high.choice.Choice.{Choice}
use Rattle.picture.specs.Code.Strip.{Small}
use Rattle.picture.specs.Code.Notes.{note_in}
use Rattle.picture.specs.Code.Choice.{FewBits}
use Rattle.picture.specs.Laws.HighIndex.{index-most, own_few}
use Rattle.picture.specs.Laws.HighPlan.{slice_planned}
use Rattle.picture.specs.Laws.Noted.{note_small}
use Rattle.picture.proofs.coder.slice_coder.SliceCoder.plan_hq_slice.Goals as goal
use Rattle.picture.proofs.coder.slice_coder.SliceCoder.plan_hq_slice.Goals.{After-choice_of-c}

-- the choice has few bits
few : (c : After-choice_of-c) → FewBits c.choice_of-c.result
few c =
    let a = c.args in
    own_few a.work.now a.d.picture a.d.terms a.k _ c.args.d.arranged (index-most a.work.now a.d.picture a.d.terms a.k c.args.d.fits) c.choice_of-c.ensures.0

pub note_choice-requires : goal.note_choice-requires
note_choice-requires c = (omega (arith, c.requires.0.few, c.args.d.arranged.slices, c.requires.1.0), few (goal.at.note_choice-requires c).After-choice_of-c)

pub plan_choice-requires : goal.plan_choice-requires
plan_choice-requires c =
    (few (goal.at.plan_choice-requires c).After-choice_of-c, (c.requires.1.1.0, omega (arith, c.requires.1.1.1, c.requires.0.few, c.requires.0.order)))

pub returns : goal.returns
returns c =
    let a = c.args in
    let q = c.choice_of-c in
    let n = c.note_choice in
    let r = c.plan_choice in (
      slice_planned a.work.now a.d.picture a.d.terms a.k q.result a.self r.result c.args.d.fits.scaler.0 (few (goal.at.returns c).After-choice_of-c) q.ensures.0 r.ensures.0 r.ensures.1,
      (
        n.ensures ∙ ap₂ (λ (v : List ℤ) (c : Choice). note_in v (a.d.picture.end + 7 * a.k) c) q.ensures.1.0 q.ensures.0,
        subst (Small a.d.picture.front a.d.picture.end) (sym n.ensures) (note_small (a.d.picture.end + 7 * a.k) q.result (omega arith) q.ensures.1.1),
      ),
    )
