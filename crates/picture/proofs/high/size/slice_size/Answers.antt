-- `high::size::slice_size` meets its contract.
use native.Mathlib.Omega.{arith}
use Rattle.picture.specs.Laws.HighIndex.{rounded_is}
use Rattle.picture.proofs.high.size.slice_size.Goals as goal

pub returns : goal.returns
returns c =
    let z = c.args.z in
    let s = c.args.d.terms.scaler in
    let y = c.next_multiple_of-y.ensures in
    let c1 = c.next_multiple_of-c1.ensures in
    let c2 = c.next_multiple_of-c2.ensures in
    let h = c.args.d.fits.scaler.0 in
    let ey = rounded_is z.y s _ h y.lower_bound y.upper_bound y.multiple in
    let e1 = rounded_is z.c1 s _ h c1.lower_bound c1.upper_bound c1.multiple in
    let e2 = rounded_is z.c2 s _ h c2.lower_bound c2.upper_bound c2.multiple in
    (omega (arith, ey, e1, e2), omega (arith, c.requires, c.args.d.fits, y.upper_bound, c1.upper_bound, c2.upper_bound))
