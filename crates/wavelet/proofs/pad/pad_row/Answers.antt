use Rattle.std.proofs.Common.{◌≡◌, ap, ◌∙◌, arith, to_z-of_z, w64, to_z, of_z}
use borrow.Author.Rules.{sfits_of}
use Rattle.laws.specs.Wrap.{wrap}
use Rattle.laws.specs.Laws.Chunks.{fill-turn}
use Rattle.wavelet.specs.Planes.{raise}
use Rattle.wavelet.specs.Code.Pad.{padded_row}
use Rattle.wavelet.specs.Laws.Pad.{padded_in_lem, padded-behind, row_filled}
use Rattle.wavelet.proofs.pad.pad_row.Goals as goal

pub loop-x-preserved : goal.loop-x-preserved
loop-x-preserved c =
    let a = c.args in
    let l = c.loop-x in
    let f = padded_row a.bits a.samples.now a.c a.y in
    let v : to_z w64 (of_z w64 c.raised.result) ≡ f l.x =
    to_z-of_z {w = w64} (sfits_of c.raised.type_inv) ∙ c.raised.ensures ∙ ap (raise wrap a.bits) (to_z-of_z {w = w64} (sfits_of c.centred.type_inv) ∙ c.centred.ensures)
    ∙ padded_in_lem a.bits a.samples.now a.c a.y c.min.result l.x c.min.ensures (omega arith) in
    rw v (fill-turn f a.dst.now l.dst l.x (omega arith) l.invariant)

pub returns : goal.returns
returns c =
    let a = c.args in
    let l = c.loop-x in
    let y = c.raised-2 in
    let f = padded_row a.bits a.samples.now a.c a.y in
    let e = to_z-of_z {w = w64} (sfits_of y.type_inv) ∙ y.ensures ∙ ap (raise wrap a.bits) (to_z-of_z {w = w64} (sfits_of c.centred-2.type_inv) ∙ c.centred-2.ensures) in
    let end : l.x ≡ c.min-m.result = omega arith in
    row_filled f (to_z w64 (of_z w64 y.result)) a.dst.now l.dst c.fill.new.self c.min-m.result (omega (arith, c.min-m.ensures)) l.auto.dst
    (rw end at l.invariant) (c.fill.ensures.after (λ y e. e))
    (λ k h g. e ∙ padded-behind a.bits a.samples.now a.c a.y c.min.result k c.min.ensures c.requires.0.some.0 (omega (arith, c.min-m.ensures)))
