-- `front::sizes::intlog2` meets its contract.
use native.Mathlib.Omega.{arith}
use Rattle.picture.specs.Laws.Sides.{log_few, log_next}
use Rattle.picture.proofs.front.sizes.intlog2.Goals as goal

pub returns : goal.returns
returns c =
    let n = c.args.n in
    let p = c.next_power_of_two in
    let r = c.ilog2 in
    let e = log_next n p.result r.result p.ensures.power p.ensures.lower_bound p.ensures.upper_bound r.ensures.power_le r.ensures.next_power_gt in
    (e, omega (arith, e, log_few n c.requires))
