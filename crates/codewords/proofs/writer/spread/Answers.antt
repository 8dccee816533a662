-- `codewords::writer::spread` meets its contract: antt compares the code's steps with the definition at the 256 bytes.
use mathlib.Core.Path.{◌≡◌, ◌∙◌}
use Prim.Native.Nat.{◌%◌}
use native.Mathlib.Omega.{arith}
use Rattle.codewords.specs.Code.Spread.{spread_bits}
use Rattle.codewords.specs.Laws.Word.{steps, spread-lt, spread-mod, spread-steps}
use Rattle.codewords.proofs.writer.spread.Goals as goal

pub returns : goal.returns
returns c =
    let b = c.args.b in
    let e : steps (b % 256) ≡ spread_bits 8 b = spread-steps (b % 256) (omega arith) ∙ spread-mod 8 b in
    (e, rw e (spread-lt 8 b))
