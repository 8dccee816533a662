use mathlib.Core.Path.{◌≡◌, subst}
use Prim.Native.Nat.{ℕ, ◌<◌}
use Rattle.picture.specs.Code.Picture.{slices_in}
use Rattle.picture.specs.Code.Passes.{PlansTo}
use Rattle.picture.specs.Code.Notes.{Notes}
use Rattle.picture.specs.Laws.HighPlan.{plans_none, plans_more}
use Rattle.picture.specs.Laws.Noted.{words_room, notes_none, notes_more, plans_noted}
use native.Mathlib.Omega.{arith}
use Rattle.picture.proofs.coder.passes.plan_slices.Goals as goal

pub loop-k-init : goal.loop-k-init
loop-k-init c =
    let a = c.args in
    let n = c.new-c in
    (plans_none a.work.now a.p a.t a.at n.result n.ensures.0 n.ensures.1.0 n.ensures.1.1.0 n.ensures.1.1.1.0, notes_none c.requires.0.small)

pub plan_hq_slice-c-requires : goal.plan_hq_slice-c-requires
plan_hq_slice-c-requires c =
    let l = c.loop-k in
    let n = c.slice_count-k-end in
    let a = c.args in
    let k : l.k < slices_in a.p = omega (arith, c.loop-k-test.true, n.ensures.0) in (
      l.invariant.1.small,
      (k, (omega (arith, l.invariant.0.near, c.loop-k-test.true, n.ensures.1, c.requires.1), omega (arith, l.invariant.0.words, words_room a.work.now a.p a.t l.k c.requires.0.arranged k))),
    )

pub loop-k-preserved : goal.loop-k-preserved
loop-k-preserved c =
    let a = c.args in
    let l = c.loop-k in
    let n = c.slice_count-k-end in
    let k : l.k < slices_in a.p = omega (arith, c.loop-k-test.true, n.ensures.0) in
    let s = c.plan_hq_slice-c in
    let o = plans_noted l.k l.c s.result c.requires.0 k l.invariant.1 s.ensures.0 in
    (plans_more a.work.now a.p a.t a.at l.k l.c s.result l.invariant.0 o, notes_more l.k l.c.words c.requires.0 k l.invariant.1 l.invariant.0.words s.ensures.1.0 s.ensures.1.1)

pub returns : goal.returns
returns c =
    let a = c.args in
    let l = c.loop-k in
    let e : l.k ≡ slices_in a.p = omega (arith, c.loop-k.auto.k-end, c.loop-k-test.false, c.slice_count-k-end.ensures.0) in
    (subst (λ (k : ℕ). PlansTo a.work.now a.p a.t a.at k l.c) e l.invariant.0, subst (λ (k : ℕ). Notes a.work.now a.p a.t k l.work) e l.invariant.1)
