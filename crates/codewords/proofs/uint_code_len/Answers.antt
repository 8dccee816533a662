-- `codewords::uint_code_len` meets its contract.
use native.Mathlib.Omega.{arith}
use Prim.Native.Nat.{◌+◌}
use Rattle.codewords.specs.Laws.Code.{leading_log2, length-code_u}
use Rattle.codewords.proofs.uint_code_len.Goals as goal

pub returns : goal.returns
returns c = omega (arith, leading_log2 64 (c.args.v + 1) (omega arith) (omega arith), length-code_u c.args.v)
