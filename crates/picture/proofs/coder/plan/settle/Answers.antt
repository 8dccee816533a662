use mathlib.Core.Path.{◌≡◌, refl}
use Prim.Native.Nat.{◌+◌, ◌/◌}
use Rattle.picture.specs.Code.Matrix.{lent_in}
use Rattle.picture.specs.Laws.HighPlan.{settling_first, settling_turn, settling_ends}
use Rattle.picture.specs.Laws.Noted.{high_work, notes_high, notes_own, notes_stand, notes_after, plans_after, plans_before, settles_after}
use native.Mathlib.Omega.{arith}
use Rattle.picture.proofs.coder.plan.settle.Goals as goal

pub loop-c-init : goal.loop-c-init
loop-c-init c =
    let a = c.args in
    let r = c.plan_picture-r in
    let h = c.requires in (
      settling_first _ a.p a.call.settings (lent_in a.call.matrix) r.result h.shape.scaler.few (plans_before (high_work h) r.ensures.1 r.ensures.0),
      notes_own (high_work h) r.ensures.1,
    )

pub plan_again-r-requires : goal.plan_again-r-requires
plan_again-r-requires c =
    let v = c.loop-c in
    let h = notes_high c.plan_picture-r.ensures.1 c.requires in (
      notes_high v.invariant.1 h,
      (
        (omega (arith, c.loop-c-test.true), omega (arith, v.invariant.0.plan.few)),
        record { notes = notes_stand c.args.call.settings refl (notes_own (high_work h) v.invariant.1) },
      ),
    )

pub loop-c-preserved : goal.loop-c-preserved
loop-c-preserved c =
    let v = c.loop-c in
    let a = c.args in
    let w = c.plan_picture-r in
    let h = notes_high w.ensures.1 c.requires in
    let r = c.plan_again-r in
    let e : c.div_ceil-c.result ≡ (v.r.largest + 254) / 255 = omega arith in (
      rw e (settling_turn _ a.p a.call.settings (lent_in a.call.matrix) v.c v.r r.result v.invariant.0 c.loop-c-test.true
          (rw e at (plans_after (high_work h) v.invariant.1 r.ensures.0))),
      notes_after (high_work h) v.invariant.1 r.ensures.1,
    )

pub returns : goal.returns
returns c =
    let v = c.loop-c in
    let a = c.args in
    let h = c.requires in
    let w = c.plan_picture-r in (
      settles_after (high_work h) w.ensures.1
          (settling_ends _ a.p a.call.settings (lent_in a.call.matrix) v.c v.r h.shape.scaler.some v.invariant.0 (omega (arith, c.loop-c-test.false))),
      notes_after (high_work h) w.ensures.1 v.invariant.1,
    )
