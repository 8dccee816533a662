-- `picture::front::header::uint_len` meets its contract.
use native.Mathlib.Omega.{arith}
use Rattle.picture.specs.Laws.Head.{code_u_short}
use Rattle.picture.proofs.front.header.uint_len.Goals as goal

pub returns : goal.returns
returns c =
    let v = c.args.v in
    (c.uint_code_len.ensures, omega (arith, c.uint_code_len.ensures, code_u_short v c.ranges.v.fits))
