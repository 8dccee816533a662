-- Laws of the standard's intlog2 and of sample offsets: intlog2 n is the least m with n at most 2^m.
use Rattle.std.specs.Prelude.{◌≡◌, refl, Bool, true, false, ℕ, zero, suc, ◌+◌, ◌^◌, ◌≤◌, ◌<◌, leb}
use Rattle.std.proofs.Common.{pow-suc, arith, pow_pos, pow_mono, leb-true, leb-false}
use Rattle.std.proofs.Math.Decide.{dec_le}
use Rattle.unit.specs.Limits.{side_limit}
use Rattle.unit.specs.Sizes.{least_from, intlog2, offset_of}
use Rattle.unit.specs.Code.Valid.{Between}

pub record Least (n m : ℕ) : Type 0 where
  pub enough : n ≤ 2 ^ m
  pub least : (j : ℕ) → n ≤ 2 ^ j → m ≤ j

-- what is more than 2^m needs more than m
above : {n m : ℕ} → 2 ^ m < n → (j : ℕ) → n ≤ 2 ^ j → suc m ≤ j
above {n} {m} p j g = by (dec_le (suc m) j)
  where
    by : Dec (suc m ≤ j) → suc m ≤ j
    by (yes h) = h
    by (no h) = let q = pow_mono {i = j} {j = m} (omega arith) in absurd (omega arith)

least_from_lem : (f k n : ℕ) → n ≤ 2 ^ (k + f) → ((j : ℕ) → n ≤ 2 ^ j → k ≤ j) → Least n (least_from f k n)
least_from_lem zero k n h l = let e : k + 0 ≡ k = omega arith in record { enough = rw e at h; least = l }
least_from_lem (suc f) k n h l =
    let e : k + suc f ≡ suc k + f = omega arith in
    by (leb n (2 ^ k)) refl (least_from_lem f (suc k) n (rw e at h))
  where
    by : (b : Bool) → leb n (2 ^ k) ≡ b → (((j : ℕ) → n ≤ 2 ^ j → suc k ≤ j) → Least n (least_from f (suc k) n))
        → Least n (elim b [ true ↦ k | false ↦ least_from f (suc k) n ])
    by true e next = record { enough = leb-true n (2 ^ k) e; least = l }
    by false e next = next (above (leb-false n (2 ^ k) e))

self_pow : (n : ℕ) → n ≤ 2 ^ n
self_pow zero = omega arith
self_pow (suc n) = let h = self_pow n in let p = pow_pos n in omega (arith, pow-suc 2 n)

pub intlog2-least : (n : ℕ) → Least n (intlog2 n)
unfolding intlog2
intlog2-least n = least_from_lem n 0 n (let e : 0 + n ≡ n = omega arith in rw e (self_pow n)) (λ j h. omega arith)

pub intlog2-most : (n : ℕ) → intlog2 n ≤ n
intlog2-most n = (intlog2-least n).least n (self_pow n)

-- ---- samples
-- the depth of an excursion e from 1 to 65535
pub depth_range : (e : ℕ) → Between side_limit e → Between 16 (intlog2 (e + 1))
depth_range e b =
    let l = intlog2-least (e + 1) in
    record { some = above {n = e + 1} {m = 0} (omega arith) (intlog2 (e + 1)) l.enough; few = l.least 16 (omega arith) }

-- the offset is half of 2^d
pub offset_is : (d : ℕ) → offset_of (suc d) ≡ 2 ^ d
offset_is d = omega (arith, pow-suc 2 d)

pub offset_range : (d : ℕ) → Between 16 d → Between 32768 (offset_of d)
offset_range zero b = absurd (omega arith)
offset_range (suc d) b =
    let p = pow_pos d in
    let q = pow_mono {i = d} {j = 15} (omega arith) in
    record { some = omega (arith, offset_is d); few = omega (arith, offset_is d) }
