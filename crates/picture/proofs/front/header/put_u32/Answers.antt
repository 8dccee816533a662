-- `picture::front::header::put_u32` meets its contract.
use native.Mathlib.Omega.{arith}
use Rattle.codewords.specs.Laws.Bit.{length-lit}
use Rattle.picture.proofs.front.header.put_u32.Goals as goal

pub put_nbits-requires : goal.put_nbits-requires
put_nbits-requires c =
    omega (arith, length-lit 32 c.args.v)
