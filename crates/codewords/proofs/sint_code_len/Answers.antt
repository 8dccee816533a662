-- `codewords::sint_code_len` meets its contract.
use mathlib.Core.Path.{◌≡◌, sym, ◌∙◌, ap}
use Prim.Native.Nat.{ℕ, ◌+◌, ◌<◌}
use native.Mathlib.Omega.{arith}
use lib.IntN.{nat_abs}
use mir.Syntax.{w64}
use mir.Facts.{to_z-of_z}
use Rattle.codewords.specs.Laws.Code.{leading_log2, length-code_s, length-code_s-zero}
use Rattle.codewords.specs.CodeWord.{log2}
use Rattle.codewords.proofs.sint_code_len.Goals as goal
use Rattle.codewords.proofs.sint_code_len.Goals.{After-unsigned_abs-m}

-- a signed argument is passed as its bits, and read back
is-abs : (c : After-unsigned_abs-m) → c.unsigned_abs-m.result ≡ nat_abs c.args.v
is-abs c = c.unsigned_abs-m.ensures.0 ∙ ap nat_abs (to_z-of_z {w = w64} c.ranges.v)

pub returns-then-m-eq0 : goal.returns-then-m-eq0
returns-then-m-eq0 c = sym (length-code_s-zero c.args.v (sym (is-abs (goal.at.returns-then-m-eq0 c).After-unsigned_abs-m) ∙ c.if-m-eq0.true))

pub returns-else-m-eq0 : goal.returns-else-m-eq0
returns-else-m-eq0 c =
    let v = c.args.v in
    let m = c.unsigned_abs-m.result in
    let e : m ≡ nat_abs v = is-abs (goal.at.returns-else-m-eq0 c).After-unsigned_abs-m in
    let p : 0 < m = omega arith in
    omega (
      arith,
      leading_log2 64 (m + 1) (omega arith) (omega arith),
      length-code_s v (rw e at p),
      ap (λ (x : ℕ). log2 (x + 1)) e,
    )
