use Rattle.unit.specs.declared.PictureKind.TheVariants.{HighQuality}
use Rattle.unit.specs.Limits.{last_index}
use Rattle.picture.specs.Laws.Rises.{fits_rises}
use Rattle.picture.specs.Laws.Search.{search_end}
use Rattle.picture.proofs.high.election.elect_qindex.Goals as goal

pub returns : goal.returns
returns c =
    let a = c.args in
    search_end _ a.d.terms.lo (last_index HighQuality) c.loop-r.r c.loop-r.invariant.0 c.loop-r-test.false
    (λ i j. fits_rises a.work.now a.d.picture a.d.terms.prefix a.d.terms.scaler a.share a.k i j c.args.d.fits.scaler.0)
