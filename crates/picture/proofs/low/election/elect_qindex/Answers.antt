-- `low::election::elect_qindex` meets its contract.
use mathlib.Core.Path.{ap, ◌∙◌}
use mathlib.Core.Bool.{Bool}
use Prim.Native.Nat.{ℕ}
use Rattle.picture.specs.Laws.ElectLoop.{halving_turn, halving_end, halving_low}
use Rattle.picture.specs.Laws.Again.{tried_more, tried_fits}
use native.Mathlib.Omega.{arith}
use Rattle.picture.proofs.low.election.elect_qindex.Goals as goal

pub loop-r-preserved : goal.loop-r-preserved
loop-r-preserved c =
    let a = c.args in
    let w = a.work.now in
    let v = c.loop-r in
    let q = c.middle-mid in
    let f = c.fits-fits in
    let e = f.ensures in (
      halving_turn v.r q.result c.loop-r-test.true q.ensures v.invariant.0 f.result c.narrowed-r.result
          (e.0 ∙ ap (λ (g : ℕ → Bool). g q.result) (tried_fits a.s.picture a.s.k w v.work a.room v.invariant.1.0))
          c.narrowed-r.ensures,
      (
        tried_more a.s.picture a.s.k w v.work f.new.work q.result c.requires.0.arranged c.requires.0.slice v.invariant.1.0 e.1.0 e.1.1.0,
        e.1.1.1,
      ),
    )

pub returns : goal.returns
returns c =
    let v = c.loop-r.invariant in
    (halving_end v.0 c.requires.1.0 (omega (arith, c.loop-r-test.false)), (halving_low v.0, (v.1.0, v.1.1.1)))
