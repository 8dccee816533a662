use mathlib.Core.Path.{◌≡◌, sym, ap, ◌∙◌}
use lib.ListN.{length}
use Rattle.laws.specs.Code.Chunks.{chunks}
use Rattle.laws.specs.Laws.Chunks.{chunks-none, chunks-more}
use Rattle.laws.specs.Laws.Laid.{lays_start, lays_on}
use Rattle.jobs.specs.Laws.Print.{lays_same, chunk_at, length_text, text_is}
use native.Mathlib.Omega.{arith}
use Rattle.jobs.proofs.print.put_bytes.Goals as goal

pub loop-i-init : goal.loop-i-init
loop-i-init c =
    let a = c.args in
    lays_same (sym (chunks-none (chunk_at a.bytes.now))) (lays_start a.text.now a.at.now)

pub put_byte-requires : goal.put_byte-requires
put_byte-requires c =
    let l = c.loop-i in
    omega (arith, l.invariant.next, l.invariant.size, length_text c.args.bytes.now l.i, c.requires, c.loop-i-test.true)

pub loop-i-preserved : goal.loop-i-preserved
loop-i-preserved c =
    let bs = c.args.bytes.now in
    let l = c.loop-i in
    lays_same (sym (chunks-more (chunk_at bs) l.i)) (lays_on l.invariant c.put_byte.ensures)

pub returns : goal.returns
returns c =
    let bs = c.args.bytes.now in
    let l = c.loop-i in
    let e : l.i ≡ length bs = omega (arith, l.auto.i-end, c.loop-i-test.false) in
    lays_same (ap (chunks (chunk_at bs)) e ∙ text_is bs) l.invariant
