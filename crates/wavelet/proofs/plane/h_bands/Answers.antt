-- `plane::h_bands` meets its contract.
use Rattle.wavelet.specs.Laws.Level.{h_bands}
use Rattle.wavelet.proofs.plane.h_bands.Goals as goal

pub returns : goal.returns
returns c =
    let a = c.args in
    let b = c.bands in
    h_bands a.s.n a.s.off a.s.h a.s.w a.work.now c.requires.1 b.new.work b.ensures
