use Rattle.std.proofs.Common.{◌≡◌, ◌*◌, ap, ◌∙◌, arith}
use Rattle.laws.specs.Rows.{row}
use Rattle.laws.specs.Laws.Window.{length-lent, parts_first, parts_room, lent-next}
use Rattle.wavelet.specs.Pad.{padded}
use Rattle.wavelet.specs.Code.Pad.{padded_row}
use Rattle.wavelet.specs.Laws.Pad.{length-padded, padded_all}
use Rattle.wavelet.specs.Laws.PlaneLists.{parts_to}
use Rattle.wavelet.proofs.pad.pad_component.Goals as goal

pub loop-y-init : goal.loop-y-init
loop-y-init c = parts_to (omega arith) (parts_first _ _ _ _ _)

pub loop-y-preserved : goal.loop-y-preserved
loop-y-preserved c =
    let a = c.args in
    let l = c.loop-y in
    let s = a.samples.now in
    let at = l.y * a.c.pw in
    let r = parts_room _ a.plane.now 0 a.c.ph a.c.pw l.plane l.y at l.invariant (omega (arith, c.requires.1)) c.loop-y-test.true in
    let e = length-lent at a.c.pw l.plane (omega (arith, r, c.requires.1, l.invariant.long)) in
    let f : c.pad_row.new.dst ≡ row a.c.pw (padded s a.c.offset a.c.w a.c.h l.y) = c.pad_row.ensures ∙ ap (λ n. row n (padded_row 0 s a.c l.y)) e in
    parts_to (omega arith)
    (lent-next (λ y. row a.c.pw (padded s a.c.offset a.c.w a.c.h y)) a.plane.now 0 a.c.ph a.c.pw l.plane l.y at (length-padded s a.c.offset a.c.w a.c.h a.c.pw) l.invariant (omega (arith, c.requires.1)) c.loop-y-test.true c.pad_row.new.dst f)

pub returns : goal.returns
returns c =
    let a = c.args in
    let l = c.loop-y in
    padded_all a.samples.now a.c.offset a.c.w a.c.h a.c.pw a.c.ph a.plane.now l.plane l.y (l.y * a.c.pw) c.requires.1 l.invariant (omega arith)
