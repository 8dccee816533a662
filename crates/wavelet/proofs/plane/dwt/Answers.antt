use Rattle.std.proofs.Common.{◌≡◌, ℕ, ◌+◌, ◌-◌, length, drop, sym, ap, ◌∙◌, arith}
use Rattle.wavelet.specs.Laws.Walk.{deep_both, deep_across, turn-both, turn-across, walk_end}
use Rattle.wavelet.proofs.plane.dwt.Goals as goal

pub vh_analysis-requires : goal.vh_analysis-requires
vh_analysis-requires c =
    let a = c.args in
    let l = c.loop-level in
    let v = l.invariant.0 in
    ((deep_both a.t.k (l.level - (a.t.k + 1)) l.p.h l.p.w a.t.ih a.t.iv (omega arith) v.deep).0, (v.place, (v.deep.ih_le, v.deep.iv_le)))

pub loop-level-preserved : goal.loop-level-preserved
loop-level-preserved c =
    let a = c.args in
    let l = c.loop-level in
    let p = l.p in
    let v = c.vh_analysis in
    let e : l.level - 1 - (a.t.k + 1) ≡ l.level - (a.t.k + 1) - 1 = omega arith in
    (rw e (turn-both p.n p.off a.t.ih a.t.iv (length a.work.now) _ a.t.k (l.level - (a.t.k + 1)) p.h p.w l.work v.new.work l.invariant.0 v.auto.work (omega arith) v.ensures), l.invariant.1)

pub h_analysis-requires : goal.h_analysis-requires
h_analysis-requires c =
    let a = c.args in
    let l = c.loop-level-2 in
    let v = l.invariant.0 in
    ((deep_across (l.level - 1) 0 l.p.h l.p.w a.t.ih a.t.iv (omega arith) (omega arith) v.deep).0, (v.place, v.deep.ih_le))

pub loop-level-2-preserved : goal.loop-level-2-preserved
loop-level-2-preserved c =
    let a = c.args in
    let l = c.loop-level-2 in
    let p = l.p in
    let v = c.h_analysis in
    (turn-across p.n p.off a.t.ih a.t.iv (length a.work.now) _ (l.level - 1) p.h p.w l.work v.new.work l.invariant.0 v.auto.work (omega arith) v.ensures, l.invariant.1)

pub returns : goal.returns
returns c =
    let a = c.args in
    let l = c.loop-level-2 in
    let p = l.p in
    ap (λ (n : ℕ). drop n l.work) (sym l.invariant.1) ∙ walk_end p.n p.off a.t.ih a.t.iv (length a.work.now) _ (l.level - 1) p.h p.w l.work l.invariant.0 (omega arith)
