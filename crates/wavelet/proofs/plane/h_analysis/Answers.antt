-- `plane::h_analysis` meets its contract.
use Rattle.wavelet.specs.Code.Level.{plane_at}
use Rattle.wavelet.specs.Laws.Level.{h_level, rows_there}
use Rattle.wavelet.proofs.plane.h_analysis.Goals as goal

pub returns : goal.returns
returns c =
    let a = c.args in
    let p = c.requires.1.0 in
    let r = c.rows in
    let b = c.h_bands in
    h_level a.s.n a.s.off a.s.h a.s.w a.work.now p a.ih (plane_at a.s a.work.now) r.new.work b.new.work c.requires.0
    (rows_there a.s.n a.s.off a.s.h a.s.w a.work.now p a.ih r.new.work r.ensures) b.ensures
