use Rattle.codewords.specs.Laws.Writer.{wrote_none, wrote_then}
use native.Mathlib.Omega.{arith}
use Rattle.picture.specs.Laws.Head.{codes_u-none, codes_u-take, codes_u-part}
use Rattle.picture.proofs.front.header.put_values.Goals as goal

pub loop-v-init : goal.loop-v-init
loop-v-init c = rw codes_u-none (wrote_none c.requires)

pub put_uint-requires : goal.put_uint-requires
put_uint-requires c =
    omega (arith, codes_u-part c.args.values.now c.loop-v.v-index 0 c.loop-v-test.true)

pub loop-v-preserved : goal.loop-v-preserved
loop-v-preserved c =
    let l = c.loop-v in
    rw (codes_u-take c.args.values.now l.v-index 0 c.loop-v-test.true) (wrote_then c.requires.sound l.invariant c.put_uint.ensures)
