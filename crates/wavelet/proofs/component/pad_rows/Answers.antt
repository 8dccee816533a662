use Rattle.std.proofs.Common.{◌≡◌, ℕ, ◌*◌, ◌∙◌, ap₂, arith}
use Rattle.laws.specs.Rows.{row}
use Rattle.laws.specs.Laws.Window.{length-lent, put-lent, parts_first}
use Rattle.laws.specs.Wrap.{wrap}
use Rattle.wavelet.specs.Filters.{filter_of}
use Rattle.wavelet.specs.Planes.{raise}
use Rattle.wavelet.specs.Laws.Plane.{bits-le}
use Rattle.wavelet.specs.Laws.PlaneLists.{parts_to}
use Rattle.wavelet.specs.Pad.{padded}
use Rattle.wavelet.specs.Code.Pad.{padded_row}
use Rattle.wavelet.specs.Laws.Level.{rows_room, rows_next, rows_all}
use Rattle.wavelet.proofs.component.pad_rows.Goals as goal

pub loop-y-init : goal.loop-y-init
loop-y-init c = parts_to (omega arith) (parts_first _ _ _ _ _)

pub pad_row-requires : goal.pad_row-requires
pad_row-requires c = (c.requires.0.samples, rw c.filter_shift-bits.ensures (bits-le c.args.index c.requires.1))

pub loop-y-preserved : goal.loop-y-preserved
loop-y-preserved c =
    let a = c.args in
    let l = c.loop-y in
    let r = c.pad_row in
    let q = c.requires.0 in
    let bits = c.filter_shift-bits in
    let at = l.y * a.c.pw in
    let f = padded a.samples.now a.c.offset a.c.w a.c.h in
    let fits = rows_room a.index f a.work.now a.c.ph a.c.pw q.room l.work l.y at l.invariant c.loop-y-test.true in
    let e = length-lent at a.c.pw l.work (omega (arith, fits, q.room, l.invariant.long)) in
    let row_is : r.new.dst ≡ row a.c.pw (λ x. raise wrap (filter_of a.index).bits (f l.y x)) =
    r.ensures ∙ ap₂ (λ (m b : ℕ). row m (padded_row b a.samples.now a.c l.y)) e bits.ensures in
    parts_to (omega arith)
    (rows_next a.index f a.work.now a.c.ph a.c.pw q.room l.work l.y at l.invariant c.loop-y-test.true r.new.dst _ c.analyse.new.row row_is (put-lent at a.c.pw r.new.dst l.work) c.analyse.ensures)

pub returns : goal.returns
returns c =
    let a = c.args in
    let l = c.loop-y in
    rows_all a.index (padded a.samples.now a.c.offset a.c.w a.c.h) a.work.now a.c.ph a.c.pw l.work l.y (l.y * a.c.pw) l.invariant (omega arith)
