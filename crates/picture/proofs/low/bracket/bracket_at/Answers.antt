-- `low::bracket::bracket_at` meets its contract.
use Rattle.picture.specs.Laws.Again.{tried_none, tried_more}
use Rattle.picture.specs.Laws.LowRest.{slice_at, known-rebuilt}
use native.Mathlib.Omega.{arith}
use Rattle.picture.specs.Code.Low.{Tried}
use Rattle.picture.specs.Code.LowRest.{Known}
use Rattle.picture.proofs.low.bracket.bracket_at.Goals as goal
use Rattle.picture.proofs.low.bracket.bracket_at.Goals.{Joined-t, then-t, else-t}

pub loop-step-init : goal.loop-step-init
loop-step-init c =
    let a = c.args in
    let t = c.probe_at-start in
    let d = t.ensures.1 in
    let h = c.requires.0 in
    (tried_more a.s.picture a.s.k a.work.now a.work.now t.new.work a.g h.arranged h.slice (tried_none a.s.picture a.s.k a.work.now h.small) t.ensures.0 d.0, ((d.1, d.1), c.requires.1))

-- the trials and the runs known after a turn
turned : (c : Joined-t) → let v = c.probe_at-t.new.work in
    Tried c.args.s.picture c.args.s.k c.args.work.now v × (Known v c.args.s.picture c.args.s.k c.if-t.b.low × Known v c.args.s.picture c.args.s.k c.if-t.b.high)
turned c =
    let a = c.args in
    let v = c.loop-step in
    let q = c.moved-next.result in
    let t = c.probe_at-t in
    let h = c.requires.0 in
    let e = t.ensures in
    let i = slice_at v.work 0 h v.invariant.0.small (omega arith) in
    let low = known-rebuilt t.new.work q i e.0 v.invariant.1.0.0 in
    let high = known-rebuilt t.new.work q i e.0 v.invariant.1.0.1 in
    let here = e.1.1 in (
      tried_more a.s.picture a.s.k a.work.now v.work t.new.work q h.arranged h.slice v.invariant.0 e.0 e.1.0,
      elim c.if-t.branch [ then-t w ↦ rw w.b-is (low, here) | else-t w ↦ rw w.b-is (here, high) ],
    )

pub loop-step-preserved : goal.loop-step-preserved
loop-step-preserved c = let t = turned (goal.at.loop-step-preserved c).Joined-t in (t.0, (t.1, c.moved-next.ensures))

pub returns-then-t-down : goal.returns-then-t-down
returns-then-t-down c = turned (goal.at.returns-then-t-down c).Joined-t
