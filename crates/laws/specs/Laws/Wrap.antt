-- Laws of the two's complement wrap at 64 bits.
use Rattle.std.specs.Prelude.{◌≡◌, ℕ, suc, ◌+◌, ◌-◌, ◌*◌, ◌/◌, ◌%◌, ◌^◌, ◌<◌, ◌≤◌, Bool, true, false, not, T, ℤ, pos, negsuc, ◌+ℤ◌, ◌-ℤ◌, ◌*ℤ◌, neg_ℤ, FitsSigned, nat_lt, refl}
use Rattle.std.proofs.Common.{ap, sym, ◌∙◌, arith, ltb→lt, nltb→le}
use Rattle.std.proofs.Math.IntN.{neg_ℤ-neg_ℤ}
use Rattle.std.specs.Int.Signed.{shr_z, mag}
use Rattle.std.specs.Int.{w64}
use mir.Val.{to_z, of_z, sel}
use Rattle.laws.specs.Laws.Integer.{up, dn, parts, ext, var, ◌⊞◌, ◌⊟◌}
use Rattle.laws.specs.Wrap.{low64, wrap}

-- r is z less k times 2 ^ 64, and an i64
pub record Wraps (z r : ℤ) : Type 0 where
  pub k : ℤ
  pub law : up r + dn z + 2 ^ 64 * up k ≡ dn r + up z + 2 ^ 64 * dn k
  pub fits : mag r < 2 ^ 63

pub unique : (z r s : ℤ) → Wraps z r → Wraps z s → r ≡ s
unique z r s x y = ext (omega (arith, parts r, parts s))

to_z_by : (n : ℕ) (b : Bool) → (T b → n < 2 ^ 63) → (T (not b) → 2 ^ 63 ≤ n) → n < 2 ^ 64 → Wraps (pos n) (sel b (pos n) (negsuc (2 ^ 64 - suc n)))
to_z_by n true f g h = let l : n < 2 ^ 63 = f tt in record { k = pos 0; law = omega arith; fits = l }
to_z_by n false f g h = let l : 2 ^ 63 ≤ n = g tt in record { k = pos 1; law = omega arith; fits = omega arith }

pub to_z_wraps : (n : ℕ) → n < 2 ^ 64 → Wraps (pos n) (to_z w64 n)
to_z_wraps n h = to_z_by n (nat_lt n (2 ^ 63)) (ltb→lt n (2 ^ 63)) (nltb→le n (2 ^ 63)) h

low-lt : (z : ℤ) → low64 z < 2 ^ 64
low-lt (pos n) = omega arith
low-lt (negsuc n) = omega arith

-- the lowest bits are z less 2 ^ 64 times its floor
low_law : (z : ℤ) → low64 z + dn z + 2 ^ 64 * up (shr_z z (2 ^ 64)) ≡ up z + 2 ^ 64 * dn (shr_z z (2 ^ 64))
low_law (pos n) = omega arith
low_law (negsuc n) = omega arith

pub wraps : (z : ℤ) → Wraps z (wrap z)
unfolding wrap
wraps z =
    let w = to_z_wraps (low64 z) (low-lt z) in
    let l = low_law z in
    let q = shr_z z (2 ^ 64) in
    let v = var w.k ⊞ var q in
    record { k = w.k +ℤ q; law = omega arith; fits = w.fits }

-- a number that fits is its own wrap
pub wrap-fits : (z : ℤ) → FitsSigned w64 z → wrap z ≡ z
wrap-fits z f = unique z (wrap z) z (wraps z) (record { k = pos 0; law = omega arith; fits = f.sfits })

-- an inner wrap changes nothing
pub wrap-add : (a b : ℤ) → wrap (wrap a +ℤ b) ≡ wrap (a +ℤ b)
wrap-add a b =
    let x = wraps (wrap a +ℤ b) in
    let y = wraps a in
    let v = var (wrap a) ⊞ var b in
    let w = var a ⊞ var b in
    let u = var x.k ⊞ var y.k in
    unique (a +ℤ b) _ _ (record { k = x.k +ℤ y.k; law = omega arith; fits = x.fits }) (wraps (a +ℤ b))

-- the wrap by the machine's bits: n is z and j times 2 ^ 64
pub wrap-bits : (z : ℤ) (n j : ℕ) → n + dn z ≡ up z + 2 ^ 64 * j → to_z w64 (n % 2 ^ 64) ≡ wrap z
wrap-bits z n j h =
    let x = to_z_wraps (n % 2 ^ 64) (omega arith) in
    let q = n / 2 ^ 64 in
    let v = var (pos q) ⊟ var (pos j) in
    let w = var x.k ⊞ var (pos q -ℤ pos j) in
    unique z _ _ (record { k = x.k +ℤ (pos q -ℤ pos j); law = omega arith; fits = x.fits }) (wraps z)

-- 1 where z is below 0, else 0
abbrev pub sg : ℤ → ℕ
sg (pos n) = 0
sg (negsuc n) = 1

pub sg-le : (z : ℤ) → sg z ≤ 1
sg-le (pos n) = omega arith
sg-le (negsuc n) = omega arith

pub of_z_law : (z : ℤ) → FitsSigned w64 z → of_z w64 z + dn z ≡ up z + 2 ^ 64 * sg z
of_z_law (pos n) f = omega arith
of_z_law (negsuc n) f = omega arith

pub of_z_lt : (z : ℤ) → FitsSigned w64 z → of_z w64 z < 2 ^ 64
of_z_lt (pos n) f = omega arith
of_z_lt (negsuc n) f = omega arith

pub add-bits : (a b : ℤ) → FitsSigned w64 a → FitsSigned w64 b → to_z w64 ((of_z w64 a + of_z w64 b) % 2 ^ 64) ≡ wrap (a +ℤ b)
add-bits a b f g =
    let v = var a ⊞ var b in
    wrap-bits (a +ℤ b) (of_z w64 a + of_z w64 b) (sg a + sg b) (omega (arith, of_z_law a f, of_z_law b g))

-- what std::num's difference gives: r with (r + b) % 2 ^ 64 ≡ a
pub sub-bits : (a b : ℤ) (r : ℕ) → FitsSigned w64 a → FitsSigned w64 b → r < 2 ^ 64 → (r + of_z w64 b) % 2 ^ 64 ≡ of_z w64 a → to_z w64 r ≡ wrap (a -ℤ b)
sub-bits a b r f g h e =
    let v = var a ⊟ var b in
    let n = r + 2 ^ 64 in
    let q = (r + of_z w64 b) / 2 ^ 64 in
    let m : n % 2 ^ 64 ≡ r = omega arith in
    ap (to_z w64) (sym m) ∙ wrap-bits (a -ℤ b) n (1 + q + sg a - sg b) (omega (arith, of_z_law a f, of_z_law b g, of_z_lt a f, of_z_lt b g, sg-le b))

pub neg-mul : (n : ℕ) (x : ℤ) → negsuc n *ℤ x ≡ neg_ℤ (pos (suc n) *ℤ x)
neg-mul n (pos a) = refl
neg-mul n (negsuc a) = sym (neg_ℤ-neg_ℤ (pos (suc n * suc a)))
