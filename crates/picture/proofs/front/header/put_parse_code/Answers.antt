-- `picture::front::header::put_parse_code` meets its contract.
use native.Mathlib.Omega.{arith}
use Rattle.codewords.specs.Laws.Bit.{length-lit}
use Rattle.unit.specs.Unit.{parse_code}
use Rattle.picture.proofs.front.header.put_parse_code.Goals as goal

pub put_nbits-requires : goal.put_nbits-requires
put_nbits-requires c =
    omega (arith, length-lit 8 (parse_code c.args.kind))
