-- `high::election::index_of` meets its contract.
use native.Mathlib.Omega.{arith}
use Rattle.picture.specs.Laws.HighIndex.{index_lossless, index_fixed, index_elected, index-most}
use Rattle.picture.proofs.high.election.index_of.Goals as goal

pub returns-in-Lossless : goal.returns-in-Lossless
returns-in-Lossless c = let a = c.args in (index_lossless a.work.now a.d.picture a.d.terms a.k c.in-Lossless.is, omega arith)

pub returns-in-FixedQuantIndex : goal.returns-in-FixedQuantIndex
returns-in-FixedQuantIndex c =
    let a = c.args in
    index_fixed a.work.now a.d.picture a.d.terms a.k c.args.d.fits _ c.in-FixedQuantIndex.is

pub returns-in-PictureBytes : goal.returns-in-PictureBytes
returns-in-PictureBytes c =
    let a = c.args in
    let e = index_elected a.work.now a.d.picture a.d.terms a.k _ _ _ _ c.in-PictureBytes.is c.slice_count.ensures.0 c.share_of-share.ensures c.elect_qindex.ensures in
    (e, omega (arith, e, index-most a.work.now a.d.picture a.d.terms a.k c.args.d.fits))
