use mathlib.Core.Path.{sym, ap, ◌∙◌}
use lib.ListN.{length, take, get_or, length-append}
use Rattle.codewords.specs.CodeWord.{code_u}
use Rattle.unit.specs.Parameters.{codes_u}
use Rattle.picture.specs.Laws.Head.{codes_u-none, codes_u-take}
use native.Mathlib.Omega.{arith}
use Rattle.picture.proofs.front.header.values_len.Goals as goal

pub loop-v-init : goal.loop-v-init
loop-v-init c = (ap length (sym codes_u-none), omega arith)

pub loop-v-preserved : goal.loop-v-preserved
loop-v-preserved c =
    let l = c.loop-v in
    let vs = c.args.values.now in
    let e = c.uint_len-bits.ensures in
    let k = ap length (codes_u-take vs l.v-index 0 c.loop-v-test.true) ∙ length-append (codes_u (take l.v-index vs)) (code_u (get_or vs l.v-index 0)) in
    (omega (arith, k, e.0, l.invariant.0), omega (arith, e.1, l.invariant.1))
