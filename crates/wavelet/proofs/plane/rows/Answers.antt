use Rattle.std.proofs.Common.{◌*◌, arith}
use Rattle.laws.specs.Laws.Window.{parts_first}
use Rattle.wavelet.specs.Laws.Plane.{bits-le}
use Rattle.wavelet.specs.Laws.PlaneLists.{parts_to}
use Rattle.wavelet.specs.Laws.Level.{rows_copies, rows-turn, rows_joined}
use Rattle.wavelet.proofs.plane.rows.Goals as goal

pub loop-n-init : goal.loop-n-init
loop-n-init c = parts_to (omega arith) (parts_first _ _ _ _ _)

pub copy_into-requires : goal.copy_into-requires
copy_into-requires c =
    let a = c.args in
    let s = c.split_at_mut-scratch in
    let l = c.loop-n in (
      rows_copies a.index s.result.1.now s.result.0.now a.h a.w (omega (arith, c.requires.0.room, s.ensures.front_len)) (omega (arith, c.requires.0.fits, s.ensures.back_len))
          l.scratch l.n (l.n * a.w) l.invariant c.loop-n-test.true,
      rw c.requires.1.1 (bits-le a.index c.requires.1.0),
    )

pub loop-n-preserved : goal.loop-n-preserved
loop-n-preserved c =
    let a = c.args in
    let s = c.split_at_mut-scratch in
    let l = c.loop-n in
    parts_to (omega arith)
    (rows-turn a.index s.result.1.now s.result.0.now a.h a.w (omega (arith, c.requires.0.room, s.ensures.front_len)) (omega (arith, c.requires.0.fits, s.ensures.back_len))
    l.scratch l.n (l.n * a.w) l.invariant c.loop-n-test.true a.bits c.requires.1.1 c.copy_into.new.dst c.analyse.new.row c.copy_into.ensures c.analyse.ensures)

pub returns : goal.returns
returns c =
    let a = c.args in
    let s = c.split_at_mut-scratch in
    let l = c.loop-n in
    rows_joined a.index a.work.now s.result.0.now s.result.1.now a.from a.h a.w l.scratch l.n (l.n * a.w) l.invariant (omega arith) (omega (arith, c.requires.0.room, s.ensures.front_len)) s.ensures.value s.ensures.back
