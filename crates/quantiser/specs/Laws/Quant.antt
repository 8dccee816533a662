-- What the layers above cite of the quantiser: how near, how large and of which sign a rebuilt coefficient is, that no
-- cap changes a coefficient below 2^53, and the bounds of factors and numbers.
use Rattle.std.specs.Prelude.{◌≡◌, ℕ, zero, suc, ◌+◌, ◌*◌, ◌/◌, ◌%◌, ◌^◌, ◌≤◌, ◌<◌, ℤ, pos, ◌-ℤ◌}
use Rattle.std.proofs.Math.Path.{refl, ap}
use Rattle.std.proofs.Common.{sym, ◌∙◌, mod-lt, div-add-mod', suc-mul, zero-mul, mul-le-mul_left, arith}
use Rattle.std.proofs.Math.Nat.{div-eq_of_lt}
use Rattle.std.proofs.Math.IntN.{nat_abs}
use Rattle.quantiser.specs.Standard.{factor, offset, signed, inverse_abs, inverse}
use Rattle.quantiser.specs.Quant.{cap, quant_factor, quant_offset, forward_by, forward_quant, capped_inverse_abs, inverse_by, inverse_quant}
use Rattle.quantiser.specs.Laws.Cap.{cap-same, cap-le, cap-lt, quant_factor-zero, quant_factor-one, quant_factor_six, factor-same, offset-same}
pub use Rattle.quantiser.specs.Laws.Cap.{factor-least, quant_factor-least, quant_factor-lt, quant_offset-lt}
use Rattle.quantiser.specs.Laws.Step.{over_more}
use Rattle.quantiser.specs.Laws.Sign.{signed-zero, abs_signed, signed_abs, signed-signed, Near, near_signed}

-- ---- numbers, of every coefficient
number_abs : (c : ℤ) (i : ℕ) → nat_abs (forward_quant c i) ≡ cap (4 * nat_abs c / quant_factor i)
unfolding forward_quant forward_by
number_abs c i = abs_signed c (cap (4 * nat_abs c / quant_factor i))

-- a quantised number is at most 2^63 in size
pub number-most : (f : ℕ) (c : ℤ) → nat_abs (forward_by f c) ≤ 2 ^ 63
unfolding forward_by
number-most f c = omega (arith, abs_signed c (cap (4 * nat_abs c / f)), cap-lt (4 * nat_abs c / f))

pub number_size : (c : ℤ) (i : ℕ) → nat_abs (forward_quant c i) ≤ nat_abs c
number_size c i =
    omega (arith, number_abs c i, cap-le (4 * nat_abs c / quant_factor i), over_more (nat_abs c) (quant_factor i) (quant_factor-least i))

pub forward-zero : (c : ℤ) (i : ℕ) → 4 * nat_abs c < quant_factor i → forward_quant c i ≡ pos 0
unfolding forward_quant forward_by
forward-zero c i h = rw (div-eq_of_lt h, cap-same {n = 0} (omega arith)) (signed-zero c)

-- ---- a factor f with its offset off, where neither is capped
record Room (f off : ℕ) : Type 0 where
  low : 1 ≤ off
  high : off + 2 < f
  half : 2 * off ≤ f + 1

room : (i : ℕ) → quant_factor i < 2 ^ 62 → Room (quant_factor i) (quant_offset i)
unfolding quant_offset
room zero h = omega (arith, quant_factor-zero)
room (suc zero) h = omega (arith, quant_factor-one)
room (suc (suc i)) h =
    let f = quant_factor (suc (suc i)) in
    let e : cap (f + 1) ≡ f + 1 = cap-same (omega arith) in
    omega (arith, quant_factor_six (suc (suc i)) (omega arith))

-- ---- a magnitude m, its number n and what is rebuilt of it
uncapped : (f off n : ℕ) → n < 2 ^ 63 → n * f + off + 2 < 2 ^ 63 → capped_inverse_abs f off n ≡ inverse_abs f off n
uncapped f off zero h l = refl
uncapped f off (suc n) h l =
    rw (cap-same h, cap-same {n = suc n * f} (omega arith), cap-same {n = suc n * f + off} (omega arith), cap-same l)

-- two inverses of a number: by the capped factor and offset f and off, and by the standard's g and o
record Size (f off g o m n : ℕ) : Type 0 where
  plain : capped_inverse_abs f off n ≡ inverse_abs g o n
  near_size : Near f m (inverse_abs g o n)
  most_size : inverse_abs g o n ≤ m + m / 2 + 1

abbrev SizeAt : ℕ → ℕ → ℕ → Type 0
SizeAt i m n = Size (quant_factor i) (quant_offset i) (factor i) (offset i) m n

-- the error by the remainder r: a number that is not 0 has a factor of at most 4 m, which is below 2^55
size_by_lem : (i m n r : ℕ) → m < 2 ^ 53 → n * quant_factor i + r ≡ 4 * m → r < quant_factor i → SizeAt i m n
size_by_lem i m zero r h e l = let z = zero-mul (quant_factor i) in record { plain = refl; near_size = omega arith; most_size = omega arith }
size_by_lem i m (suc n) r h e l =
    let f = quant_factor i in
    let p : f ≤ suc n * f = omega (arith, suc-mul n f) in
    let b : suc n ≤ suc n * f = omega (arith, mul-le-mul_left (suc n) (quant_factor-least i)) in
    let s = room i (omega arith) in
    rw (factor-same i (omega arith), offset-same i (omega arith))
    (record { plain = uncapped f (quant_offset i) (suc n) (omega arith) (omega arith); near_size = omega arith; most_size = omega arith })

size_at : (i m : ℕ) → m < 2 ^ 53 → SizeAt i m (4 * m / quant_factor i)
size_at i m h =
    let l = quant_factor-least i in
    size_by_lem i m (4 * m / quant_factor i) (4 * m % quant_factor i) h (div-add-mod' (4 * m) (quant_factor i)) (mod-lt (4 * m) (omega arith))

-- ---- what is rebuilt of a coefficient c: its sign on a size
pub record Rebuilt (c : ℤ) (i : ℕ) : Type 0 where
  pub size : ℕ
  pub is : inverse_quant (forward_quant c i) i ≡ signed c size
  pub by_standard : inverse (forward_quant c i) i ≡ signed c size
  pub near_size : Near (quant_factor i) (nat_abs c) size
  pub most : size ≤ nat_abs c + nat_abs c / 2 + 1

-- a function that gives 0 for 0 does not depend on the sign of 0
signed_through : (c : ℤ) (g : ℕ → ℕ) (n : ℕ) → g 0 ≡ 0 → signed (signed c n) (g n) ≡ signed c (g n)
signed_through c g zero e = rw (e, signed-zero c)
signed_through c g (suc n) e = signed-signed c (suc n) (g (suc n)) (omega arith)

module _ (c : ℤ) (i : ℕ) (h : nat_abs c < 2 ^ 53) where
  -- the number, not capped
  pub number_is : forward_quant c i ≡ signed c (4 * nat_abs c / quant_factor i)
  unfolding forward_quant forward_by
  number_is = ap (signed c) (cap-same (omega (arith, over_more (nat_abs c) (quant_factor i) (quant_factor-least i))))

  inverse_by_lem : (g : ℕ → ℕ) → g 0 ≡ 0 → signed (forward_quant c i) (g (nat_abs (forward_quant c i))) ≡ signed c (g (4 * nat_abs c / quant_factor i))
  inverse_by_lem g e = rw (number_is, abs_signed) (signed_through c g (4 * nat_abs c / quant_factor i) e)

  pub rebuilt : Rebuilt c i
  unfolding inverse_quant inverse_by inverse
  rebuilt =
      let s = size_at i (nat_abs c) h in
      record {
        size = inverse_abs (factor i) (offset i) (4 * nat_abs c / quant_factor i);
        is = inverse_by_lem (capped_inverse_abs (quant_factor i) (quant_offset i)) refl ∙ ap (signed c) s.plain;
        by_standard = inverse_by_lem (inverse_abs (factor i) (offset i)) refl;
        near_size = s.near_size;
        most = s.most_size;
      }

  pub near : 4 * nat_abs (c -ℤ inverse_quant (forward_quant c i) i) < quant_factor i
  near = rw rebuilt.is (near_signed (quant_factor i) rebuilt.size c rebuilt.near_size)

  pub standard_same : inverse (forward_quant c i) i ≡ inverse_quant (forward_quant c i) i
  standard_same = rebuilt.by_standard ∙ sym rebuilt.is

pub exact : (c : ℤ) → nat_abs c < 2 ^ 53 → inverse_quant (forward_quant c 0) 0 ≡ c
exact c h =
    let r = rebuilt c 0 h in
    let e : r.size ≡ nat_abs c = omega (arith, quant_factor-zero, r.near_size) in
    r.is ∙ ap (signed c) e ∙ signed_abs c
