-- `plane::vh_analysis` meets its contract.
use Rattle.wavelet.specs.Code.Level.{plane_at}
use Rattle.wavelet.specs.Laws.Level.{vh_level, rows_there}
use Rattle.wavelet.proofs.plane.vh_analysis.Goals as goal

pub returns : goal.returns
returns c =
    let a = c.args in
    let p = c.requires.1.0 in
    let r = c.rows in
    let b = c.vh_bands in
    vh_level a.s.n a.s.off a.s.h a.s.w a.work.now p a.ih a.iv (plane_at a.s a.work.now) r.new.work b.new.work
    (rows_there a.s.n a.s.off a.s.h a.s.w a.work.now p a.ih r.new.work r.ensures) b.ensures
