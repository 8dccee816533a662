use mathlib.Core.Path.{refl, ◌∙◌, subst}
use mathlib.Core.List.{List}
use Prim.Native.Nat.{◌<◌}
use native.Mathlib.Omega.{arith}
use lib.IntN.{ℤ}
use Rattle.picture.specs.Code.Picture.{slices_in}
use Rattle.picture.specs.Code.Choice.{plan_in}
use Rattle.picture.specs.Code.Passes.{PlansOn}
use Rattle.picture.specs.Laws.HighPlan.{plans_none, plans_more}
use Rattle.picture.proofs.coder.passes.plan_noted_slices.Goals as goal

pub loop-k-init : goal.loop-k-init
loop-k-init c =
    let a = c.args in
    let n = c.new-c in
    (plans_none a.work.now a.p a.t a.at n.result n.ensures.0 n.ensures.1.0 n.ensures.1.1.0 n.ensures.1.1.1.0, refl)

pub loop-k-preserved : goal.loop-k-preserved
loop-k-preserved c =
    let a = c.args in
    let l = c.loop-k in
    let n = c.slice_count-k-end in
    let k : l.k < slices_in a.p = omega (arith, c.loop-k-test.true, n.ensures.0) in
    let s = c.plan_noted_slice-c in
    let o = subst (λ (v : List ℤ). PlansOn (plan_in v a.p a.t l.k) l.c s.result) l.invariant.1 s.ensures.0 in
    (plans_more a.work.now a.p a.t a.at l.k l.c s.result l.invariant.0 o, s.ensures.1 ∙ l.invariant.1)
