-- `codewords::writer::BitWriter::put_sint` meets its contract.
use mathlib.Core.Path.{◌≡◌, sym, ap, ◌∙◌}
use Prim.Native.Nat.{ℕ}
use lib.IntN.{pos}
use lib.Signed.{lt_z}
use mir.Syntax.{w64}
use mir.Val.{of_z, to_z}
use mir.Facts.{to_z-of_z}
use Rattle.codewords.specs.CodeWord.{code_s, code_m}
use Rattle.codewords.specs.Laws.Code.{code-signed}
use Rattle.codewords.proofs.writer.BitWriter.put_sint.Goals as goal
use Rattle.codewords.proofs.writer.BitWriter.put_sint.Goals.{After-unsigned_abs}

-- by the magnitude and the sign; a signed argument is passed as its bits, and read back
word_is : (c : After-unsigned_abs)
    → code_s c.args.v ≡ code_m c.unsigned_abs.result (lt_z (to_z w64 (of_z w64 c.args.v)) (pos 0))
word_is c =
    let z = to_z w64 (of_z w64 c.args.v) in
    sym (ap code_s (to_z-of_z {w = w64} c.ranges.v)) ∙ code-signed z ∙ ap (λ (m : ℕ). code_m m (lt_z z (pos 0))) (sym c.unsigned_abs.ensures.0)

pub put_signed-requires : goal.put_signed-requires
put_signed-requires c = (rw (word_is c) at c.requires, c.unsigned_abs.ensures.1)

pub returns : goal.returns
returns c = rw (word_is (goal.at.returns c).After-unsigned_abs) c.put_signed.ensures
