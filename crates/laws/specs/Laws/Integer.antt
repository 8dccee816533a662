-- Linear arithmetic on ℤ by omega: z is up z - dn z, and one of the two is 0; magnitudes; division that rounds down.
use Rattle.std.specs.Prelude.{◌≡◌, ℕ, zero, suc, ◌+◌, ◌-◌, ◌*◌, ◌/◌, ◌<◌, ◌≤◌, min, Bool, true, false, cond, not, T, ℤ, pos, negsuc, ◌+ℤ◌, ◌-ℤ◌, ◌*ℤ◌, neg_ℤ, int_lt, nat_lt, unsigned_abs, refl}
use Rattle.std.proofs.Common.{ap, sym, ◌∙◌, subst, arith, mod-lt, div-mul-le_self, mul_comm, mul-suc, suc-mul, mul-add, mul-zero, ltb→lt, nltb→le}
use Rattle.std.proofs.Math.Nat.{div-add-mod}
use Rattle.std.proofs.Math.IntN.{sub_ℕ}
use Rattle.std.specs.Int.Signed.{mag, shr_z}

abbrev pub up : ℤ → ℕ
up (pos n) = n
up (negsuc n) = 0

abbrev pub dn : ℤ → ℕ
dn (pos n) = 0
dn (negsuc n) = suc n

-- magnitude and sign of z by up and dn
pub record Parts (z : ℤ) : Type 0 where
  pub one_side : min (up z) (dn z) ≡ 0
  pub abs : unsigned_abs z ≡ up z + dn z
  pub mag_is : mag z + min 1 (dn z) ≡ up z + dn z

pub parts : (z : ℤ) → Parts z
parts (pos n) = omega arith
parts (negsuc n) = omega arith

pub ext : {a b : ℤ} → up a + dn b ≡ up b + dn a → a ≡ b
ext {a = pos m} {b = pos n} h = ap pos (omega arith)
ext {a = pos m} {b = negsuc n} h = absurd (omega arith)
ext {a = negsuc m} {b = pos n} h = absurd (omega arith)
ext {a = negsuc m} {b = negsuc n} h = ap negsuc (omega arith)

-- z is p - n
pub record Lin (z : ℤ) : Type 0 where
  pub p : ℕ
  pub n : ℕ
  pub law : up z + n ≡ dn z + p

sub_by : (a b : ℕ) (c : Bool) → (T c → a < b) → (T (not c) → b ≤ a) → up (cond c (negsuc (b - suc a)) (pos (a - b))) + b ≡ dn (cond c (negsuc (b - suc a)) (pos (a - b))) + a
sub_by a b true f g = let h : a < b = f tt in omega arith
sub_by a b false f g = let h : b ≤ a = g tt in omega arith

sub_law : (a b : ℕ) → up (sub_ℕ a b) + b ≡ dn (sub_ℕ a b) + a
sub_law a b = sub_by a b (nat_lt a b) (ltb→lt a b) (nltb→le a b)

pub add_law : (a b : ℤ) → up (a +ℤ b) + (dn a + dn b) ≡ dn (a +ℤ b) + (up a + up b)
add_law (pos a) (pos b) = omega arith
add_law (pos a) (negsuc b) = omega (arith, sub_law a (suc b))
add_law (negsuc a) (pos b) = omega (arith, sub_law b (suc a))
add_law (negsuc a) (negsuc b) = omega arith

pub neg_law : (a : ℤ) → (up (neg_ℤ a) ≡ dn a) × (dn (neg_ℤ a) ≡ up a)
neg_law (pos zero) = omega arith
neg_law (pos (suc n)) = omega arith
neg_law (negsuc n) = omega arith

pub times_law : (k : ℕ) (a : ℤ) (p n : ℕ) → up a + n ≡ dn a + p → up (pos k *ℤ a) + k * n ≡ dn (pos k *ℤ a) + k * p
times_law k (pos a) p n h = sym (mul-add k a n) ∙ ap (λ (x : ℕ). k * x) h ∙ mul-add k 0 p ∙ ap (λ (x : ℕ). x + k * p) (mul-zero k)
times_law k (negsuc a) p n h =
    let g = neg_law (pos (k * suc a)) in
    let e : k * n ≡ k * suc a + k * p = ap (λ (x : ℕ). k * x) (omega arith) ∙ mul-add k (suc a) p in
    omega arith

abbrev pub var : (z : ℤ) → Lin z
var z = record { p = up z; n = dn z; law = omega arith }

abbrev pub plus : {a b : ℤ} → Lin a → Lin b → Lin (a +ℤ b)
plus {a} {b} x y = record { p = x.p + y.p; n = x.n + y.n; law = omega (arith, add_law a b) }

abbrev pub minus : {a : ℤ} → Lin a → Lin (neg_ℤ a)
minus {a} x = record { p = x.n; n = x.p; law = omega (arith, neg_law a) }

abbrev pub times : (k : ℕ) {a : ℤ} → Lin a → Lin (pos k *ℤ a)
times k {a} x = record { p = k * x.p; n = k * x.n; law = times_law k a x.p x.n x.law }

infixl 6 ◌⊞◌ ◌⊟◌
abbrev pub ◌⊞◌ : {a b : ℤ} → Lin a → Lin b → Lin (a +ℤ b)
x ⊞ y = plus x y

abbrev pub ◌⊟◌ : {a b : ℤ} → Lin a → Lin b → Lin (a -ℤ b)
x ⊟ y = plus x (minus y)

pub by_parts : {a b : ℤ} (x : Lin a) (y : Lin b) → x.p + y.n ≡ y.p + x.n → a ≡ b
by_parts x y h = ext (omega arith)

-- the order
holds : {b : Bool} → b ≡ true → T b
holds e = subst T (sym e) tt

fails : {b : Bool} → b ≡ false → T (not b)
fails e = subst (λ (x : Bool). T (not x)) (sym e) tt

-- a signed test's flag
pub lt_yes : (a b : ℤ) → int_lt a b ≡ true → up a + dn b < up b + dn a
lt_yes (pos m) (pos n) h = let g = ltb→lt m n (holds h) in omega arith
lt_yes (pos m) (negsuc n) h = absurd (holds h)
lt_yes (negsuc m) (pos n) h = omega arith
lt_yes (negsuc m) (negsuc n) h = let g = ltb→lt n m (holds h) in omega arith

pub lt_no : (a b : ℤ) → int_lt a b ≡ false → up b + dn a ≤ up a + dn b
lt_no (pos m) (pos n) h = let g = nltb→le m n (fails h) in omega arith
lt_no (pos m) (negsuc n) h = omega arith
lt_no (negsuc m) (pos n) h = absurd (fails h)
lt_no (negsuc m) (negsuc n) h = let g = nltb→le n m (fails h) in omega arith

-- ---- magnitudes
pub abs_neg : (a : ℤ) → unsigned_abs (neg_ℤ a) ≡ unsigned_abs a
abs_neg a = omega (arith, parts a, parts (neg_ℤ a), neg_law a)

pub abs_add : (a b : ℤ) → unsigned_abs (a +ℤ b) ≤ unsigned_abs a + unsigned_abs b
abs_add a b = let s = var a ⊞ var b in omega (arith, parts a, parts b, parts (a +ℤ b))

pub abs_sub : (a b : ℤ) → unsigned_abs (a -ℤ b) ≤ unsigned_abs a + unsigned_abs b
abs_sub a b = let s = var a ⊟ var b in omega (arith, parts a, parts b, parts (a -ℤ b))

pub abs_mul : (a b : ℤ) → unsigned_abs (a *ℤ b) ≡ unsigned_abs a * unsigned_abs b
abs_mul (pos a) (pos b) = refl
abs_mul (pos a) (negsuc b) = abs_neg (pos (a * suc b))
abs_mul (negsuc a) (pos b) = abs_neg (pos (suc a * b))
abs_mul (negsuc a) (negsuc b) = refl

-- ---- division that rounds down: shr_z z m is the floor of z / m, for any m
pub record Floor (z q : ℤ) (m : ℕ) : Type 0 where
  pub low : m * up q + dn z ≤ up z + m * dn q
  pub high : up z + m * dn q < m * up q + dn z + m

pub floor_law : (z : ℤ) {m : ℕ} → 0 < m → Floor z (shr_z z m) m
floor_law (pos a) {m} h = let l = mod-lt a h in omega (arith, div-add-mod a m, mul-zero m)
floor_law (negsuc a) {m} h = let l = mod-lt a h in omega (arith, div-add-mod a m, mul-zero m, mul-suc m (a / m))

-- m |floor (z / m)| is at most |z| + m
pub abs_floor : (z : ℤ) (m : ℕ) → m * unsigned_abs (shr_z z m) ≤ unsigned_abs z + m
abs_floor (pos a) m = omega (arith, div-mul-le_self a m, mul_comm m (a / m))
abs_floor (negsuc a) m = omega (arith, div-mul-le_self a m, mul_comm m (suc (a / m)), suc-mul (a / m) m)

-- ---- regrouping
pub sub-add : (a b : ℤ) → (a -ℤ b) +ℤ b ≡ a
sub-add a b = by_parts (var a ⊟ var b ⊞ var b) (var a) (omega arith)
