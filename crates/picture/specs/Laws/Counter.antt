-- Laws of numbers added up one by one: what is counted of a run, and room for more numbers.
use Rattle.std.specs.Prelude.{◌≡◌, List, [], ◌∷◌, ℕ, ◌+◌, ◌^◌, ◌≤◌, ℤ, nat_abs, length}
use Rattle.std.proofs.Common.{sym, ◌∙◌, arith, length-append}
use Rattle.codewords.specs.CodeWord.{code_s, codes}
use Rattle.unit.specs.Trim.{bits_of}
use Rattle.unit.proofs.Laws.Trim.{Small, bits_most}
use Rattle.picture.specs.Code.Cost.{added, Counted}
use Rattle.picture.specs.Code.Counter.{Counts}
use Rattle.picture.specs.Laws.Added.{added-one}

-- where m numbers can be added, fewer can
pub counted_fewer : {b k m n : ℕ} → Counted b k m → n ≤ m → Counted b k n
counted_fewer r l = record { bits = r.bits; count = omega (arith, r.count) }

module _ {A : Type 0} {step : A → ℤ → A} {bits count : A → ℕ} (h : Counts step bits count) where
  pub added-count : (c : A) (xs : List ℤ) → count (added step c xs) ≡ count c + length xs
  unfolding added
  added-count c [] = omega arith
  added-count c (z ∷ xs) = omega (arith, added-count (step c z) xs, h.more_count c z)

  pub added-bits : (c : A) (xs : List ℤ) → bits (added step c xs) ≡ bits c + bits_of xs
  unfolding added codes
  added-bits c [] = omega arith
  added-bits c (z ∷ xs) = omega (arith, added-bits (step c z) xs, h.more_bits c z, length-append (code_s z) (codes xs))

  -- there is room for n numbers behind xs
  pub counted_after : (c : A) (xs : List ℤ) (m n : ℕ) → Counted (bits c) (count c) m → Small xs → length xs + n ≤ m
      → Counted (bits (added step c xs)) (count (added step c xs)) n
  counted_after c xs m n r s l =
      let b = added-bits c xs in
      let k = added-count c xs in
      record { bits = omega (arith, bits_most xs s, r.bits); count = omega (arith, r.count) }

  pub counted_one : (c d : A) (z : ℤ) → Counted (bits c) (count c) 2 → nat_abs z ≤ 2 ^ 63 → d ≡ step c z → Counted (bits d) (count d) 1
  counted_one c d z r s e = rw (e ∙ sym (added-one step c z)) (counted_after c (z ∷ []) 2 1 r (s, tt) (omega arith))
