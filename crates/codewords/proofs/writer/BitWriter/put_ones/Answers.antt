use mathlib.Core.Path.{◌≡◌}
use mathlib.Core.List.{List}
use Prim.Native.Nat.{ℕ, ◌+◌, ◌-◌, ◌*◌, ◌%◌, ◌^◌, ◌≤◌}
use lib.ListN.{replicate-append-replicate}
use Rattle.codewords.specs.declared.writer.BitWriter.{BitWriter}
use Rattle.codewords.specs.Bit.{lit, one_bits}
use Rattle.codewords.specs.Laws.Bit.{lit_ones}
use Rattle.codewords.specs.Code.Writer.{Sound, Wrote}
use Rattle.codewords.specs.Laws.Writer.{wrote_none, wrote_then}
use native.Mathlib.Omega.{arith}
use Rattle.codewords.proofs.writer.BitWriter.put_ones.Goals as goal

-- k ones more
more : {o o₁ o₂ : List ℕ} {w s₁ s₂ : BitWriter} (m k : ℕ) → k ≤ 32 → Sound w
    → Wrote o w (one_bits m) o₁ s₁ → Wrote o₁ s₁ (lit k (2 ^ 32 - 1)) o₂ s₂ → Wrote o w (one_bits (m + k)) o₂ s₂
more m k h s p q = rw (← replicate-append-replicate) (wrote_then s p (rw (lit_ones k 32 h) at q))

pub loop-init : goal.loop-init
loop-init c = wrote_none c.requires

pub loop-preserved : goal.loop-preserved
loop-preserved c =
    let e : (c.loop.counter + 1) * 32 ≡ c.loop.counter * 32 + 32 = omega arith in
    rw e (more (c.loop.counter * 32) 32 (omega arith) c.requires.sound c.loop.invariant c.put_short.ensures)

pub returns : goal.returns
returns c =
    let e : c.loop.counter * 32 + c.args.n % 32 ≡ c.args.n = omega (arith, c.loop-test.false, c.loop.auto.counter-end) in
    rw e at (more (c.loop.counter * 32) (c.args.n % 32) (omega arith) c.requires.sound c.loop.invariant c.put_short-2.ensures)
