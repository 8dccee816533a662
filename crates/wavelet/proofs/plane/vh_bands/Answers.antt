-- `plane::vh_bands` meets its contract.
use Rattle.wavelet.specs.Laws.Level.{vh_bands_are}
use Rattle.wavelet.proofs.plane.vh_bands.Goals as goal

pub returns : goal.returns
returns c =
    let a = c.args in
    let g = c.columns in
    let b = c.bands in
    vh_bands_are a.s.n a.s.off a.s.h a.s.w a.work.now c.requires.1.0 a.iv b.new.work g.new.plane c.requires.0 g.ensures b.ensures
