-- `picture::front::header::put_shape` meets its contract.
use native.Mathlib.Omega.{arith}
use mathlib.Core.Bool.{Bool}
use lib.ListN.{length-append}
use Rattle.codewords.specs.Laws.Writer.{wrote_then}
use Rattle.picture.specs.Code.Head.{shape_bits}
use Rattle.picture.proofs.front.header.put_shape.Goals as goal

pub put_pair-requires : goal.put_pair-requires
unfolding shape_bits
put_pair-requires c = omega (arith, length-append {A = Bool})

pub put_extension-requires : goal.put_extension-requires
unfolding shape_bits
put_extension-requires c = omega (arith, length-append {A = Bool})

pub put_pair-requires-2 : goal.put_pair-requires-2
unfolding shape_bits
put_pair-requires-2 c = omega (arith, length-append {A = Bool})

pub returns : goal.returns
unfolding shape_bits
returns c = wrote_then c.requires.sound c.put_pair.ensures (wrote_then c.put_pair.ensures.sound c.put_extension.ensures c.put_pair-2.ensures)
