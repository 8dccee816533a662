use Rattle.std.proofs.Common.{rules, ◌+◌, ◌*◌, ◌∙◌, arith, to_z-of_z, w64, SFits}
use borrow.Author.Rules.{sfits_of}
use Rattle.laws.specs.Rows.{at}
use Rattle.wavelet.specs.Laws.Copy.{copy_turn}
use Rattle.wavelet.proofs.plane.copy_into.Goals as goal

pub loop-k-preserved : goal.loop-k-preserved
loop-k-preserved c =
    let a = c.args in
    let l = c.loop-k in
    let y = c.raised in
    let f : SFits w64 (at a.src.now (a.from + a.step * l.k)) = search rules in
    let e = simp (to_z-of_z, f) at y.ensures in
    copy_turn a.bits a.src.now a.dst.now l.dst _ a.from a.step l.k (omega arith) l.invariant (to_z-of_z {w = w64} (sfits_of y.type_inv) ∙ e)
