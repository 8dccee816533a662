-- `low::cut::cut` meets its contract.
use mathlib.Core.Path.{◌≡◌}
use Prim.Native.Nat.{◌-◌}
use Rattle.picture.specs.Code.Cost.{no_cost, add_all}
use Rattle.picture.specs.Code.Low.{luma_in, colour_in}
use Rattle.picture.specs.Laws.LowIndex.{luma_ready, colour_ready}
use Rattle.picture.specs.Laws.LowSlice.{cut_fits, kept-cut}
use Rattle.picture.proofs.low.cut.cut.Goals as goal
use Rattle.picture.proofs.low.cut.cut.Goals.{After-cost_run}

-- what luma costs
luma : (c : After-cost_run) → let a = c.args in c.cost_run.result ≡ add_all (no_cost a.room) (luma_in a.work.now a.s.picture a.s.k a.q)
luma c = rw (c.no_cost-none.ensures, c.run.ensures) at c.cost_run.ensures

pub cost_run-requires : goal.cost_run-requires
cost_run-requires c = rw (c.no_cost-none.ensures, c.run.ensures) (luma_ready c.args.room c.requires.0)

pub overflow_sub-room : goal.overflow_sub-room
overflow_sub-room c =
    let a = c.args in
    let y = c.shorter-y in
    cut_fits a.room (luma_in a.work.now a.s.picture a.s.k a.q) c.cost_run.result (luma (goal.at.overflow_sub-room c).After-cost_run) y.result y.ensures

pub cost_run-requires-2 : goal.cost_run-requires-2
cost_run-requires-2 c = rw (c.no_cost-none-2.ensures, c.colours.ensures) (colour_ready (c.args.room - c.shorter-y.result.bits) c.requires.0)

pub returns : goal.returns
returns c =
    let a = c.args in
    let ys = luma_in a.work.now a.s.picture a.s.k a.q in
    let cs = colour_in a.work.now a.s.picture a.s.k a.q in
    let y = c.shorter-y in
    let z = c.shorter-c in
    let e = rw (c.no_cost-none-2.ensures, c.colours.ensures) at c.cost_run-2.ensures in
    kept-cut a.room ys cs c.cost_run.result y.result c.cost_run-2.result z.result (luma (goal.at.returns c).After-cost_run) c.requires.1 y.ensures e z.ensures
