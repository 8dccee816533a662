-- Laws of the slices' windows: bounds rise and stay within the side; how many numbers a slice has, and how large;
-- colours that alternate.
use Rattle.std.specs.Prelude.{◌≡◌, refl, ℕ, zero, suc, ◌+◌, ◌*◌, ◌-◌, ◌/◌, ◌%◌, ◌^◌, ◌≤◌, ℤ, nat_abs, length}
use Rattle.std.proofs.Common.{ap, ap₂, ◌∙◌, arith, zero-lt-suc, le-div_iff_mul-le, div-mul-le_self, le_trans, mul-le-mul, mul-le-mul_left, mul_comm, mul-suc, length-append}
use mathlib.Core.List.{List, [], ◌∷◌, ◌++◌, map}
use Rattle.std.proofs.Math.Nat.{div-zero, div-le_of_le-mul, add-mul-div_right}
use Rattle.laws.specs.Rows.{span}
use Rattle.laws.specs.Laws.Rows.{length-span}
use Rattle.laws.specs.Plane.{Plane}
use Rattle.quantiser.specs.Quant.{quant_factor, forward_quant}
use Rattle.quantiser.specs.Laws.Quant.{number-most}
use Rattle.wavelet.specs.Planes.{Band}
use Rattle.unit.specs.Sizes.{Size, area}
use Rattle.unit.specs.Slices.{bound, region, Grid, part, part_size}
use Rattle.unit.specs.Quantised.{size_of, numbers_from, numbers_ld}
use Rattle.unit.specs.LowDelay.{alternated, evens, odds}
use Rattle.unit.specs.Reader.{number_count}
use Rattle.unit.proofs.Laws.Subband.{areas}
use Rattle.unit.proofs.Laws.Trim.{Small, small_append}

-- ---- bounds
pub div_rises : (n : ℕ) {a b : ℕ} → a ≤ b → a / n ≤ b / n
div_rises zero {a} {b} h = rw (div-zero a) (omega arith)
div_rises (suc n) {a} {b} h = (le-div_iff_mul-le (zero-lt-suc n)).1 (le_trans (div-mul-le_self a (suc n)) h)

pub bound_rises : (n w : ℕ) {i j : ℕ} → i ≤ j → bound n w i ≤ bound n w j
bound_rises n w h = div_rises n (mul-le-mul_left w h)

pub bound-most : (n w i : ℕ) → i ≤ n → bound n w i ≤ w
bound-most n w i h = div-le_of_le-mul n (rw (mul_comm n w) (mul-le-mul_left w h))

-- a part is at most the side
part-most : (n w i : ℕ) → bound n w (suc i) - bound n w i ≤ w
part-most zero w i = rw (div-zero (w * suc i)) (omega arith)
part-most (suc n) w i =
    let a : w * suc i ≤ w * i + w * suc n = omega (arith, mul-suc w i, mul-suc w n) in
    let b : w * suc i / suc n ≤ (w * i + w * suc n) / suc n = div_rises (suc n) a in
    omega (arith, add-mul-div_right (w * i) w (zero-lt-suc n))

-- ---- how many numbers
pub length_part : (g : Grid) (z : Size) (k : ℕ) (f : Plane) → length (part g z k f) ≡ part_size g z k
unfolding region
length_part g z k f = length-span _ 0 (part_size g z k)

pub part_size-most : (g : Grid) (z : Size) (k : ℕ) → part_size g z k ≤ area z
part_size-most g z k =
    rw (mul_comm z.width z.height) (mul-le-mul (part-most g.down z.height (k / g.across)) (part-most g.across z.width (k % g.across)))

pub count_most : (g : Grid) (zs : List Size) (k : ℕ) → number_count g zs k ≤ areas zs
unfolding number_count
count_most g [] k = omega arith
count_most g (z ∷ zs) k = omega (arith, part_size-most g z k, count_most g zs k)

-- ---- numbers: how many, and how large
quant_small : (c : ℤ) (i : ℕ) → nat_abs (forward_quant c i) ≤ 2 ^ 63
unfolding forward_quant
quant_small c i = number-most (quant_factor i) c

-- n numbers of magnitudes at most 2^63
pub record Counted (n : ℕ) (xs : List ℤ) : Type 0 where
  pub many : length xs ≡ n
  pub small : Small xs

counted-append : {a b : ℕ} {xs ys : List ℤ} → Counted a xs → Counted b ys → Counted (a + b) (xs ++ ys)
counted-append {xs = xs} {ys = ys} p q = record {
  many = length-append xs ys ∙ ap₂ ◌+◌ p.many q.many;
  small = small_append xs ys p.small q.small;
}

small_span : (f : ℕ → ℤ) (i n : ℕ) → ((k : ℕ) → nat_abs (f k) ≤ 2 ^ 63) → Small (span f i n)
small_span f i zero h = tt
small_span f i (suc n) h = (h i, small_span f (suc i) n h)

counted-part : (g : Grid) (z : Size) (k : ℕ) (f : Plane) → ((y x : ℕ) → nat_abs (f y x) ≤ 2 ^ 63) → Counted (part_size g z k) (part g z k f)
counted-part g z k f h = record { many = length_part g z k f; small = unfold region in small_span _ 0 (part_size g z k) (λ n. h _ _) }

module _ (g : Grid) (m : List ℕ) where
  pub counted_from : (n : ℕ) (bs : List Band) (q k : ℕ) → Counted (number_count g (map size_of bs) k) (numbers_from g m n bs q k)
  unfolding numbers_from number_count
  counted_from n [] q k = record { many = refl; small = tt }
  counted_from n (b ∷ bs) q k = counted-append (counted-part g (size_of b) k _ (λ y x. quant_small _ _)) (counted_from (suc n) bs q k)

  pub counted-low : (bs : List Band) (r : Plane) (q k : ℕ) → Counted (number_count g (map size_of bs) k) (numbers_ld g m bs r q k)
  unfolding numbers_ld number_count
  counted-low [] r q k = record { many = refl; small = tt }
  counted-low (b ∷ bs) r q k = counted-append (counted-part g (size_of b) k _ (λ y x. quant_small _ _)) (counted_from 1 bs q k)

-- ---- colours that alternate
pub length-alternated : (us vs : List ℤ) → length us ≡ length vs → length (alternated us vs) ≡ length us + length vs
unfolding alternated
length-alternated [] [] e = refl
length-alternated [] (v ∷ vs) e = absurd (omega arith)
length-alternated (u ∷ us) [] e = absurd (omega arith)
length-alternated (u ∷ us) (v ∷ vs) e = let f : length us ≡ length vs = omega arith in omega (arith, length-alternated us vs f)

pub evens-alternated : (us vs : List ℤ) → length us ≡ length vs → evens (alternated us vs) ≡ us
unfolding alternated evens
evens-alternated [] vs e = refl
evens-alternated (u ∷ us) [] e = absurd (omega arith)
evens-alternated (u ∷ us) (v ∷ vs) e = ap (λ (r : List ℤ). u ∷ r) (evens-alternated us vs (omega arith))

pub odds-alternated : (us vs : List ℤ) → length us ≡ length vs → odds (alternated us vs) ≡ vs
unfolding alternated odds
odds-alternated [] [] e = refl
odds-alternated [] (v ∷ vs) e = absurd (omega arith)
odds-alternated (u ∷ us) [] e = absurd (omega arith)
odds-alternated (u ∷ us) (v ∷ vs) e = ap (λ (r : List ℤ). v ∷ r) (odds-alternated us vs (omega arith))
