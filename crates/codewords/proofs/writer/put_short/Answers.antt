-- `codewords::writer::put_short` meets its contract: the bits pending and the new ones are one number, and its 32 high
-- bits are written, if it has as many.
use mathlib.Core.Path.{◌≡◌, sym}
use Prim.Native.Nat.{◌+◌, ◌-◌, ◌*◌, ◌%◌, ◌^◌, ◌≤◌}
use native.Mathlib.Omega.{arith}
use lib.Pow.{pow_pos, pow-add}
use Rattle.std.proofs.lemmas.Nat.{div_below}
use Rattle.codewords.specs.Laws.Bit.{lit_join, one_shl}
use Rattle.codewords.specs.Laws.Writer.{joined, joined-lt, wrote_few, wrote_bits}
use Rattle.codewords.proofs.writer.put_short.Goals as goal
use Rattle.codewords.proofs.writer.put_short.Goals.{Start}

-- the two powers, as they are shifted
size_is : (c : Start) → 1 * 2 ^ c.args.n % 2 ^ 64 ≡ 2 ^ c.args.n
size_is c = one_shl c.args.n (omega (arith, c.requires.1))

rest_is : (c : Start) → let j = c.args.w.pending_bits + c.args.n - 32 in 1 * 2 ^ j % 2 ^ 64 ≡ 2 ^ j
rest_is c = one_shl _ (omega (arith, c.requires))

pub returns-then-k-lt32 : goal.returns-then-k-lt32
returns-then-k-lt32 c =
    rw (size_is (goal.at.returns-then-k-lt32 c).Start) (wrote_few c.args.out.now c.args.w c.args.n c.args.v c.requires.0.sound c.if-k-lt32.true)

pub overflow_cast-x : goal.overflow_cast-x
overflow_cast-x c =
    let a = c.args in
    let k = a.w.pending_bits + a.n in
    let e : k ≡ 32 + (k - 32) = omega (arith, c.if-k-lt32.false) in
    let h = joined-lt a.w a.n a.v c.requires.0.sound in
    rw (size_is (goal.at.overflow_cast-x c).Start) (omega (arith, div_below (joined a.w a.n a.v) (2 ^ (k - 32)) (2 ^ 32) (pow_pos (k - 32)) (rw (e, pow-add) at h)))

pub returns-else-k-lt32 : goal.returns-else-k-lt32
returns-else-k-lt32 c =
    let a = c.args in
    let k = a.w.pending_bits + a.n in
    let h : 32 ≤ k = c.if-k-lt32.false in
    rw (size_is (goal.at.returns-else-k-lt32 c).Start, rest_is (goal.at.returns-else-k-lt32 c).Start)
    (wrote_bits k 32 (k - 32) (joined a.w a.n a.v) (sym (lit_join a.w.pending_bits a.w.pending a.n a.v))
    (omega arith) (omega (arith, c.requires)) (omega arith) (rw (size_is (goal.at.returns-else-k-lt32 c).Start) at c.put_four.ensures))
