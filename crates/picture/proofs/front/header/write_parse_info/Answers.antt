-- `picture::front::header::write_parse_info` meets its contract.
use native.Mathlib.Omega.{arith}
use mathlib.Core.Bool.{Bool}
use lib.ListN.{length-append}
use Rattle.codewords.specs.Laws.Writer.{wrote_then}
use Rattle.picture.specs.Code.Head.{info_of}
use Rattle.picture.proofs.front.header.write_parse_info.Goals as goal

pub put_u32-requires : goal.put_u32-requires
unfolding info_of
put_u32-requires c = omega (arith, length-append {A = Bool})

pub put_parse_code-requires : goal.put_parse_code-requires
unfolding info_of
put_parse_code-requires c = omega (arith, length-append {A = Bool})

pub put_u32-requires-2 : goal.put_u32-requires-2
unfolding info_of
put_u32-requires-2 c = omega (arith, length-append {A = Bool})

pub put_u32-requires-3 : goal.put_u32-requires-3
unfolding info_of
put_u32-requires-3 c = omega (arith, length-append {A = Bool})

pub returns : goal.returns
unfolding info_of
returns c =
    let p = c.put_u32.ensures in
    let q = c.put_parse_code.ensures in
    wrote_then c.requires.sound p (wrote_then p.sound q (wrote_then q.sound c.put_u32-2.ensures c.put_u32-3.ensures))
