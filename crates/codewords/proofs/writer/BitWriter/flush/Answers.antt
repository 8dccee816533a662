use mathlib.Core.Path.{◌≡◌, refl}
use mathlib.Core.List.{List, append-nil}
use Prim.Native.Nat.{ℕ, ◌+◌, ◌-◌, ◌/◌, ◌%◌, ◌^◌, ◌≤◌, ◌<◌}
use native.Mathlib.Omega.{arith}
use lib.ListN.{set}
use Rattle.laws.specs.Code.Laid.{Lays}
use Rattle.laws.specs.Laws.Laid.{lays_start, lays_on, lays_first}
use Rattle.codewords.specs.Bit.{lit}
use Rattle.codewords.specs.Laws.Bit.{length-lit, lit-none, byte_up, one_shl}
use Rattle.codewords.specs.Bytes.{to_bytes}
use Rattle.codewords.specs.Laws.Byte.{pack-none, length-to_bytes, bytes_more}
use Rattle.codewords.specs.Code.Writer.{pending_of}
use Rattle.codewords.specs.Laws.Writer.{wrote_bits}
use Rattle.codewords.proofs.writer.BitWriter.flush.Goals as goal
use Rattle.codewords.proofs.writer.BitWriter.flush.Goals.{At-loop-self}

-- one byte more
again : {o o₁ : List ℕ} {at place : ℕ} (n k x : ℕ) → 8 ≤ k → k ≤ n → (n - k) % 8 ≡ 0 → Lays o at (to_bytes (lit (n - k) (x / 2 ^ k))) o₁ place
    → Lays o at (to_bytes (lit (n - (k - 8)) (x / 2 ^ (k - 8)))) (set o₁ place (x / 2 ^ (k - 8) % 256)) (place + 1)
again {o} {o₁} {at} {place} n k x h l m p =
    let y = x / 2 ^ (k - 8) in
    let e : n - (k - 8) ≡ n - k + 8 = omega arith in
    rw (e, bytes_more (n - k) y m, byte_up x k h) (lays_on p (lays_first (y % 256) (lays_start (set o₁ place (y % 256)) (place + 1))))

-- where the next byte goes
place_is : (c : At-loop-self)
    → let w = c.args.self.now in c.loop-self.self.at ≡ w.at + (w.pending_bits - c.loop-self.self.pending_bits) / 8
place_is c =
    let w = c.args.self.now in
    let k = c.loop-self.self.pending_bits in
    let n = w.pending_bits - k in
    omega (arith, c.loop-self.invariant.laid.next, length-to_bytes (lit n (w.pending / 2 ^ k)), length-lit n (w.pending / 2 ^ k))

pub loop-self-init : goal.loop-self-init
loop-self-init c =
    let w = c.args.self.now in
    let n = w.pending_bits in
    let none : n - n ≡ 0 = omega arith in
    record {
      same = refl;
      left = omega arith;
      whole = omega arith;
      laid = rw (none, lit-none (w.pending / 2 ^ n), pack-none 7 0) (lays_start _ _);
    }

pub bounds-out-self : goal.bounds-out-self
bounds-out-self c =
    omega (arith, place_is (goal.at.bounds-out-self c).At-loop-self, c.loop-self-test.true, c.loop-self.invariant.left, c.loop-self.invariant.laid.size, c.requires.room)

pub overflow_add-self : goal.overflow_add-self
overflow_add-self c = omega (arith, bounds-out-self c)

pub loop-self-preserved : goal.loop-self-preserved
loop-self-preserved c =
    let w = c.args.self.now in
    let k = c.loop-self.self.pending_bits in
    let i = c.loop-self.invariant in
    record {
      same = i.same;
      left = omega (arith, i.left);
      whole = omega (arith, i.left, i.whole);
      laid = rw i.same (again w.pending_bits k w.pending c.loop-self-test.true i.left i.whole i.laid);
    }

pub returns : goal.returns
returns c =
    let w = c.args.self.now in
    let n = w.pending_bits in
    let l = c.loop-self in
    let k = l.self.pending_bits in
    let h : k < 8 = c.loop-self-test.false in
    rw (one_shl k (omega arith), l.invariant.same)
    (record {
      wrote =
          wrote_bits n (n - k) k w.pending (append-nil (pending_of w)) (omega (arith, l.invariant.left)) (omega arith)
          (omega (arith, place_is (goal.at.returns c).At-loop-self, l.invariant.whole)) l.invariant.laid.is;
      part = h;
    })
