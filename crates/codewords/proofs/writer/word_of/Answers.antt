-- `codewords::writer::word_of` meets its contract.
use mathlib.Core.Path.{sym, ap, ◌∙◌}
use Prim.Native.Nat.{ℕ, ◌+◌, ◌≤◌}
use native.Mathlib.Omega.{arith}
use Rattle.codewords.specs.Bit.{lit}
use Rattle.codewords.specs.CodeWord.{code_m}
use Rattle.codewords.specs.Laws.Code.{log2_is, leading_log2, code_m-zero}
use Rattle.codewords.specs.Laws.Word.{code-lit}
use Rattle.codewords.proofs.writer.word_of.Goals as goal

pub returns-then-m-eq0 : goal.returns-then-m-eq0
unfolding lit
returns-then-m-eq0 c =
    let a = c.args in
    (sym (ap (λ (m : ℕ). code_m m a.minus) c.if-m-eq0.true ∙ code_m-zero a.minus), omega arith)

pub returns-else-m-eq0 : goal.returns-else-m-eq0
returns-else-m-eq0 c =
    let a = c.args in
    let n = c.ilog2-n.result in
    let e = log2_is (a.m + 1) n c.ilog2-n.ensures.power_le c.ilog2-n.ensures.next_power_gt in
    let low : n ≤ 8 = omega (arith, leading_log2 9 (a.m + 1) (omega arith) (omega arith)) in
    (rw (code-lit a.m n a.minus (omega (arith, c.if-m-eq0.false)) e low, c.spread.ensures.0), omega arith)
