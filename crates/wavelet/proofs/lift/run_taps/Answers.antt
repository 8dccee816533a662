use Rattle.std.proofs.Common.{rules, ◌≡◌, ◌+◌, ◌*◌, length, get_or, set, ap, ◌∙◌, arith, to_z-of_z, w64, SFits, to_z, of_z}
use borrow.Author.Rules.{sfits_of}
use Rattle.laws.specs.Wrap.{wrap}
use Rattle.laws.specs.Rows.{at}
use Rattle.wavelet.specs.Lifting.{scaled, change}
use Rattle.wavelet.specs.Laws.Lifting.{dot-take}
use Rattle.wavelet.specs.Code.Table.{stage_of}
use Rattle.wavelet.specs.Code.Run.{taps_to, value_of}
use Rattle.wavelet.specs.Laws.Run.{run_of, ran-none, ran-turn}
use Rattle.wavelet.specs.Laws.Table.{count_le}
use Rattle.wavelet.proofs.lift.run_taps.Goals as goal

pub loop-i-init : goal.loop-i-init
loop-i-init c = ran-none (stage_of c.args.s) c.args.plus c.args.o c.args.p c.args.step c.args.a.now

pub loop-i-preserved : goal.loop-i-preserved
unfolding stage_of
loop-i-preserved c =
    let l = c.loop-i in
    let a = c.args in
    let s = a.s in
    let x = a.step * l.i in
    let t = c.tap_sum in
    let d = c.scaled-d in
    let y = c.change in
    let ft : SFits w64 t.result = sfits_of t.type_inv in
    let fd : SFits w64 d.result = sfits_of d.type_inv in
    let fv : SFits w64 (at l.a (a.p + x)) = search rules in
    let e1 = simp (to_z-of_z, ft) at d.ensures in
    let e2 = simp (to_z-of_z, fv, fd) at y.ensures in
    let sum : t.result ≡ taps_to (stage_of s).taps a.o x l.a (length (stage_of s).taps) =
    t.ensures ∙ dot-take wrap s.taps s.count (λ j. at l.a (get_or a.o j 0 + x)) (omega (arith, s.long, count_le s)) in
    let v : to_z w64 (of_z w64 y.result) ≡ value_of (stage_of s) a.plus a.o a.p x l.a =
    to_z-of_z {w = w64} (sfits_of y.type_inv) ∙ e2 ∙ ap (change wrap a.plus (at l.a (a.p + x))) (e1 ∙ ap (scaled wrap (stage_of s)) sum) in
    ap (set l.a (a.p + x)) v ∙ ran-turn (stage_of s) a.plus a.o a.p a.count a.step l.i a.a.now l.a (run_of s a.o a.p a.count a.step a.a.now c.requires) c.loop-i-test.true l.invariant
