use Rattle.std.proofs.Common.{◌*◌, arith}
use Rattle.laws.specs.Laws.Window.{parts_first}
use Rattle.wavelet.specs.Laws.PlaneLists.{parts_to}
use Rattle.wavelet.specs.Laws.Copy.{band_copies, band-turn, band_all}
use Rattle.wavelet.proofs.plane.band.Goals as goal

pub loop-n-init : goal.loop-n-init
loop-n-init c = parts_to (omega arith) (parts_first _ _ _ _ _)

pub copy_into-requires : goal.copy_into-requires
copy_into-requires c =
    let a = c.args in
    let l = c.loop-n in
    (band_copies a.src.now a.dst.now a.a a.b a.from a.jump c.requires.0 c.requires.1 l.dst l.n (l.n * a.b) l.invariant c.loop-n-test.true, omega arith)

pub loop-n-preserved : goal.loop-n-preserved
loop-n-preserved c =
    let a = c.args in
    let l = c.loop-n in
    parts_to (omega arith)
    (band-turn a.src.now a.dst.now a.a a.b a.from a.jump c.requires.0 c.requires.1 l.dst l.n (l.n * a.b) l.invariant c.loop-n-test.true c.copy_into.new.dst c.copy_into.ensures)

pub returns : goal.returns
returns c =
    let a = c.args in
    let l = c.loop-n in
    band_all a.src.now a.dst.now a.a a.b a.from a.jump c.requires.1 l.dst l.n (l.n * a.b) l.invariant (omega arith)
