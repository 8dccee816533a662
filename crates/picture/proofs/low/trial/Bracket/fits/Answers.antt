-- `low::trial::Bracket::fits` meets its contract.
use Rattle.picture.specs.Code.LowRest.{Known}
use Rattle.picture.specs.Laws.LowRest.{known-rebuilt, joins_both, surely_either, never_either, fits_low, fits-high}
use native.Mathlib.Omega.{arith}
use Rattle.picture.proofs.low.trial.Bracket.fits.Goals as goal
use Rattle.picture.proofs.low.trial.Bracket.fits.Goals.{After-first_tallies-f}

-- the runs known, where the planes are rebuilt
both : (c : After-first_tallies-f) → let a = c.args in
    let v = c.rebuild_planes.new.work in Known v a.s.picture a.s.k a.self.now.low × Known v a.s.picture a.s.k a.self.now.high
both c =
    let r = c.rebuild_planes in
    (known-rebuilt r.new.work c.args.q c.requires.0 r.ensures.0 c.requires.1.0, known-rebuilt r.new.work c.args.q c.requires.0 r.ensures.0 c.requires.1.1)

pub surely_fits-requires : goal.surely_fits-requires
surely_fits-requires c = joins_both c.first_tallies-f.ensures (both (goal.at.surely_fits-requires c).After-first_tallies-f).0 c.requires.0.arranged

pub surely_fits-requires-2 : goal.surely_fits-requires-2
surely_fits-requires-2 c = joins_both c.first_tallies-f.ensures (both (goal.at.surely_fits-requires-2 c).After-first_tallies-f).1 c.requires.0.arranged

pub returns-then-surely_fits : goal.returns-then-surely_fits
returns-then-surely_fits c =
    let r = c.rebuild_planes.ensures in
    let a = c.args in
    let k = both (goal.at.returns-then-surely_fits c).After-first_tallies-f in
    let x = c.surely_fits in
    let y = c.surely_fits-2 in
    (surely_either c.first_tallies-f.ensures k.0 k.1 a.work.now r.0 a.room x.result y.result x.ensures y.ensures c.if-surely_fits.true, (r.0, (r.1, k)))

pub never_fits-requires : goal.never_fits-requires
never_fits-requires c =
    joins_both c.first_tallies-f.ensures (both (goal.at.never_fits-requires c).After-first_tallies-f).0 c.requires.0.arranged

pub never_fits-requires-2 : goal.never_fits-requires-2
never_fits-requires-2 c =
    joins_both c.first_tallies-f.ensures (both (goal.at.never_fits-requires-2 c).After-first_tallies-f).1 c.requires.0.arranged

pub returns-then-never_fits : goal.returns-then-never_fits
returns-then-never_fits c =
    let r = c.rebuild_planes.ensures in
    let a = c.args in
    let k = both (goal.at.returns-then-never_fits c).After-first_tallies-f in
    let x = c.never_fits in
    let y = c.never_fits-2 in
    (never_either c.first_tallies-f.ensures k.0 k.1 a.work.now r.0 a.room x.result y.result x.ensures y.ensures c.if-never_fits.true, (r.0, (r.1, k)))

pub bits_with-requires : goal.bits_with-requires
bits_with-requires c = joins_both c.first_tallies-f.ensures c.rest_of-r.ensures.0 c.requires.0.arranged

pub returns-then-bits_with-room : goal.returns-then-bits_with-room
returns-then-bits_with-room c =
    let r = c.rebuild_planes.ensures in
    let k = both (goal.at.returns-then-bits_with-room c).After-first_tallies-f in
    let t = c.rest_of-r.ensures in
    (fits_low c.first_tallies-f.ensures t.0 c.args.work.now r.0 c.args.room (omega (arith, t.1)) (omega (arith, c.bits_with.ensures, c.if-bits_with-room.true)), (r.0, (r.1, (k.0, t.0))))

pub returns-else-bits_with-room : goal.returns-else-bits_with-room
returns-else-bits_with-room c =
    let r = c.rebuild_planes.ensures in
    let k = both (goal.at.returns-else-bits_with-room c).After-first_tallies-f in
    let t = c.rest_of-r.ensures in
    (fits-high c.first_tallies-f.ensures t.0 c.args.work.now r.0 c.args.room (omega (arith, t.1)) (omega (arith, c.bits_with.ensures, c.if-bits_with-room.false)), (r.0, (r.1, (t.0, k.1))))
