-- The wrapped product of two 64-bit numbers, by halves of 32 bits; their wrapped difference; a tap times the wrapped
-- sum of two numbers.
use Rattle.std.specs.Prelude.{◌≡◌, ℕ, suc, ◌+◌, ◌-◌, ◌*◌, ◌/◌, ◌%◌, ◌^◌, ℤ, pos, negsuc, ◌+ℤ◌, ◌-ℤ◌, ◌*ℤ◌, neg_ℤ, FitsSigned}
use Rattle.std.proofs.Common.{sym, ap, ◌∙◌, arith, add-mul, mul-add, mul_assoc, mul_comm, mul_right_comm, mul_left_comm, mul-le-mul, div-add-mod', to_z, of_z}
use Rattle.std.proofs.Math.Nat.{mul-sub}
use Rattle.std.proofs.Math.IntN.{+ℤ_comm}
use Rattle.std.specs.Int.{w64}
use Rattle.laws.specs.Laws.Integer.{up, dn, neg_law, times_law, Lin, var, ◌⊞◌, by_parts}
use Rattle.laws.specs.Wrap.{wrap}
use Rattle.laws.specs.Laws.Wrap.{wraps, unique, wrap-add, wrap-bits, of_z_lt, sub-bits as sub-of, neg-mul}

pub by_halves : (x y : ℕ)
    → ((x % 2 ^ 32 * (y / 2 ^ 32) + y % 2 ^ 32 * (x / 2 ^ 32)) % 2 ^ 64 * 2 ^ 32 % 2 ^ 64 + x % 2 ^ 32 * (y % 2 ^ 32)) % 2 ^ 64 ≡ x * y % 2 ^ 64
by_halves x y =
    let h : ℕ = x / 2 ^ 32 in
    let l : ℕ = x % 2 ^ 32 in
    let g : ℕ = y / 2 ^ 32 in
    let k : ℕ = y % 2 ^ 32 in
    let e : (h * 2 ^ 32 + l) * y ≡ x * y = ap (λ (z : ℕ). z * y) (div-add-mod' x (2 ^ 32)) in
    let a : h * (g * 2 ^ 32 + k) ≡ h * y = ap (λ (z : ℕ). h * z) (div-add-mod' y (2 ^ 32)) in
    let b : l * (g * 2 ^ 32 + k) ≡ l * y = ap (λ (z : ℕ). l * z) (div-add-mod' y (2 ^ 32)) in
    let whole : x * y ≡ h * g * 2 ^ 64 + (l * g + k * h) * 2 ^ 32 + l * k =
    omega (
      arith,
      add-mul (h * 2 ^ 32) l y,
      mul_right_comm h (2 ^ 32) y,
      mul-add h (g * 2 ^ 32) k,
      mul-add l (g * 2 ^ 32) k,
      mul_assoc h g (2 ^ 32),
      mul_assoc l g (2 ^ 32),
      mul_comm k h,
    ) in
    omega arith

-- the difference of the bits is that of the numbers, but for a multiple of 2 ^ 64
pub sub-bits : (a b : ℤ) → FitsSigned w64 a → FitsSigned w64 b → to_z w64 ((of_z w64 a + (2 ^ 64 - of_z w64 b)) % 2 ^ 64) ≡ wrap (a -ℤ b)
sub-bits a b f g =
    let x = of_z_lt a f in
    let y = of_z_lt b g in
    sub-of a b _ f g (omega arith) (omega arith)

opposites : (a b c d n j : ℕ) → a + c ≡ n → b + d ≡ n → c ≡ b + j → c * d ≡ a * b + n * j
opposites a b c d n j ec ed ej =
    let e : (a + c) * b ≡ n * b = ap (λ (z : ℕ). z * b) ec in
    let f : c * (b + d) ≡ c * n = ap (λ (z : ℕ). c * z) ed in
    let g : c * n ≡ (b + j) * n = ap (λ (z : ℕ). z * n) ej in
    omega (arith, add-mul a c b, mul-add c b d, add-mul b j n, mul_comm n b, mul_comm n j)

-- the product of the bits is that of the numbers, but for a multiple of 2 ^ 64
pub mul-bits : (a b : ℤ) → FitsSigned w64 a → FitsSigned w64 b → to_z w64 ((of_z w64 a * of_z w64 b) % 2 ^ 64) ≡ wrap (a *ℤ b)
mul-bits (pos a) (pos b) f g = wrap-bits (pos (a * b)) (a * b) 0 (omega arith)
mul-bits (pos a) (negsuc b) f g =
    wrap-bits (neg_ℤ (pos (a * suc b))) (a * (2 ^ 64 - suc b)) a (omega (arith, neg_law (pos (a * suc b)), mul-sub a (2 ^ 64) (suc b), mul-le-mul {n₁ = a} {m₁ = suc b} {n₂ = a} {m₂ = 2 ^ 64} (omega arith) (omega arith)))
mul-bits (negsuc a) (pos b) f g =
    wrap-bits (neg_ℤ (pos (suc a * b))) ((2 ^ 64 - suc a) * b) b
    (omega (arith, neg_law (pos (suc a * b)), mul_comm (2 ^ 64 - suc a) b, mul_comm (suc a) b, mul-sub b (2 ^ 64) (suc a), mul-le-mul {n₁ = b} {m₁ = suc a} {n₂ = b} {m₂ = 2 ^ 64} (omega arith) (omega arith)))
mul-bits (negsuc a) (negsuc b) f g =
    wrap-bits (pos (suc a * suc b)) ((2 ^ 64 - suc a) * (2 ^ 64 - suc b)) (2 ^ 64 - suc a - suc b)
    (omega (arith, opposites (suc a) (suc b) (2 ^ 64 - suc a) (2 ^ 64 - suc b) (2 ^ 64) (2 ^ 64 - suc a - suc b) (omega arith) (omega arith) (omega arith)))

-- ---- a wrapped sum times t
scale_law : (t a : ℤ) (p n : ℕ) → up a + n ≡ dn a + p → up (t *ℤ a) + (up t * n + dn t * p) ≡ dn (t *ℤ a) + (up t * p + dn t * n)
scale_law (pos k) a p n h = omega (arith, times_law k a p n h)
scale_law (negsuc k) a p n h = rw (neg-mul k a) (omega (arith, times_law (suc k) a p n h, neg_law (pos (suc k) *ℤ a)))

abbrev scale : (t : ℤ) {a : ℤ} → Lin a → Lin (t *ℤ a)
scale t {a} x = record { p = up t * x.p + dn t * x.n; n = up t * x.n + dn t * x.p; law = scale_law t a x.p x.n x.law }

pub mul-sum : (t x y : ℤ) → t *ℤ (x +ℤ y) ≡ t *ℤ x +ℤ t *ℤ y
mul-sum t x y =
    by_parts (scale t (var x ⊞ var y)) (scale t (var x) ⊞ scale t (var y))
    (omega (arith, mul-add (up t) (up x) (up y), mul-add (up t) (dn x) (dn y), mul-add (dn t) (up x) (up y), mul-add (dn t) (dn x) (dn y)))

-- an inner wrap changes nothing
wrap-mul : (t z : ℤ) → wrap (t *ℤ wrap z) ≡ wrap (t *ℤ z)
wrap-mul t z =
    let x = wraps (t *ℤ wrap z) in
    let y = wraps z in
    let k = y.k in
    let l1 = scale_law t (wrap z) (up z + 2 ^ 64 * dn k) (dn z + 2 ^ 64 * up k) (omega (arith, y.law)) in
    let l2 = scale_law t z (up z) (dn z) (omega arith) in
    let l3 = scale_law t k (up k) (dn k) (omega arith) in
    let v = var x.k ⊞ var (t *ℤ k) in
    unique (t *ℤ z) _ _
    (record {
      k = x.k +ℤ t *ℤ k;
      law =
          omega (
            arith,
            mul-add (up t) (up z) (2 ^ 64 * dn k),
            mul-add (up t) (dn z) (2 ^ 64 * up k),
            mul-add (dn t) (up z) (2 ^ 64 * dn k),
            mul-add (dn t) (dn z) (2 ^ 64 * up k),
            mul_left_comm (up t) (2 ^ 64) (dn k),
            mul_left_comm (up t) (2 ^ 64) (up k),
            mul_left_comm (dn t) (2 ^ 64) (dn k),
            mul_left_comm (dn t) (2 ^ 64) (up k),
          );
      fits = x.fits;
    })
    (wraps (t *ℤ z))

wrap-both : (a b : ℤ) → wrap (wrap a +ℤ wrap b) ≡ wrap (a +ℤ b)
wrap-both a b = wrap-add a (wrap b) ∙ ap wrap (+ℤ_comm a (wrap b)) ∙ wrap-add b a ∙ ap wrap (+ℤ_comm b a)

-- t times a sum is the sum of the products, all wrapped
pub wrap-mul-sum : (t x y : ℤ) → wrap (t *ℤ wrap (x +ℤ y)) ≡ wrap (wrap (t *ℤ x) +ℤ wrap (t *ℤ y))
wrap-mul-sum t x y = wrap-mul t (x +ℤ y) ∙ ap wrap (mul-sum t x y) ∙ sym (wrap-both (t *ℤ x) (t *ℤ y))
