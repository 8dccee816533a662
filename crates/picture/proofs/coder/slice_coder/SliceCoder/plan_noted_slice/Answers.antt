-- `SliceCoder::plan_noted_slice` meets its contract.
use native.Mathlib.Omega.{arith}
use Rattle.picture.specs.Code.Choice.{FewBits}
use Rattle.picture.specs.Laws.HighIndex.{index-most, own_few}
use Rattle.picture.specs.Laws.HighPlan.{slice_planned}
use Rattle.picture.specs.Laws.Noted.{words_room}
use Rattle.picture.proofs.coder.slice_coder.SliceCoder.plan_noted_slice.Goals as goal
use Rattle.picture.proofs.coder.slice_coder.SliceCoder.plan_noted_slice.Goals.{After-noted_choice-c}

-- the choice has few bits
few : (c : After-noted_choice-c) → FewBits c.noted_choice-c.result
few c =
    let a = c.args in
    own_few a.work.now a.d.picture a.d.terms a.k _ c.args.d.arranged (index-most a.work.now a.d.picture a.d.terms a.k c.args.d.fits) c.noted_choice-c.ensures.0

pub plan_choice-requires : goal.plan_choice-requires
plan_choice-requires c =
    let a = c.args in (
      few (goal.at.plan_choice-requires c).After-noted_choice-c,
      (
        c.requires.1.1.1.0,
        omega (arith, c.requires.1.1.1.1, words_room a.work.now a.d.picture a.d.terms a.k c.args.d.arranged c.requires.1.0, c.requires.0.few, c.requires.0.order),
      ),
    )

pub returns : goal.returns
returns c =
    let a = c.args in
    let q = c.noted_choice-c in
    let r = c.plan_choice in
    (slice_planned a.work.now a.d.picture a.d.terms a.k q.result a.self r.result c.args.d.fits.scaler.0 (few (goal.at.returns c).After-noted_choice-c) q.ensures.0 r.ensures.0 r.ensures.1, q.ensures.1)
