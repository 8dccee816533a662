-- `codewords::writer::put_code` meets its contract.
use mathlib.Core.Path.{◌≡◌, ap}
use Prim.Native.Nat.{◌+◌, ◌-◌}
use native.Mathlib.Omega.{arith}
use Rattle.codewords.specs.CodeWord.{log2}
use Rattle.codewords.specs.Laws.Code.{log2_is, length-code_u, code_u_is}
use Rattle.codewords.proofs.writer.put_code.Goals as goal
use Rattle.codewords.proofs.writer.put_code.Goals.{After-ilog2}

-- the place of the leading one
place_is : (c : After-ilog2) → c.ilog2.result ≡ log2 c.args.x
place_is c = log2_is c.args.x c.ilog2.result c.ilog2.ensures.power_le c.ilog2.ensures.next_power_gt

pub put_interleaved-requires : goal.put_interleaved-requires
put_interleaved-requires c =
    let r = c.requires.0 in
    let e : c.args.x - 1 + 1 ≡ c.args.x = omega (arith, c.requires.1) in
    let l = length-code_u (c.args.x - 1) in
    let k = ap log2 e in
    let p = place_is (goal.at.put_interleaved-requires c).After-ilog2 in
    (record { sound = r.sound; room = omega (arith, r.room) }, c.ilog2.ensures.bound)

pub returns : goal.returns
returns c = rw (code_u_is c.args.x c.ilog2.result c.requires.1 (place_is (goal.at.returns c).After-ilog2)) c.put_interleaved.ensures
