-- Laws of settings as 21 words.
use Rattle.std.specs.Prelude.{◌≡◌, refl, Bool, true, false, ◌&&◌, List, ℕ, zero, suc, eqb, ltb, length}
use Rattle.std.proofs.Math.Bool.{and_assoc}
use Rattle.std.proofs.Common.{eqb-true, eq-eqb, ne_eqb}
use Rattle.unit.specs.declared.PictureKind.TheVariants.{HighQuality}
use Rattle.unit.specs.declared.RateControl.TheVariants.{PictureBytes}
use Rattle.unit.proofs.Laws.Test.{no_truth}
use Rattle.unit.specs.Words.{word_at, known, kind_in, rate_in}

-- both tests hold
pub both_true : (a b : Bool) → a && b ≡ true → (a ≡ true) × (b ≡ true)
both_true true b e = (refl, e)
both_true false b e = no_truth (cc)

-- known words are 21
pub known-long : (ws : List ℕ) → known ws ≡ true → length ws ≡ 21
unfolding known
known-long ws e = eqb-true (length ws) 21 (both_true (eqb (length ws) 21) _ e).0

-- words of another count are not known
pub known_short : (ws : List ℕ) → (length ws ≡ 21 → ⊥) → false ≡ known ws
unfolding known
known_short ws h = rw (ne_eqb (length ws) 21 h)

-- the tests of 21 words, joined from the left
pub known_by : (ws : List ℕ) → length ws ≡ 21 → ltb (word_at ws 0) 2 && ltb (word_at ws 9) 3 && ltb (word_at ws 17) 2 && ltb (word_at ws 18) 2 ≡ known ws
unfolding known
known_by ws e = rw (eq-eqb (length ws) 21 e) (joined (ltb (word_at ws 0) 2) (ltb (word_at ws 9) 3) (ltb (word_at ws 17) 2) (ltb (word_at ws 18) 2))
  where
    joined : (a b c d : Bool) → a && b && c && d ≡ a && (b && (c && d))
    joined true b c d = and_assoc b c d
    joined false b c d = refl

-- a kind that is not 0 is high quality
pub kind_high : (v : ℕ) → (v ≡ 0 → ⊥) → HighQuality ≡ kind_in v
kind_high zero h = absurd (h refl)
kind_high (suc v) h = refl

-- a rate that is neither 0 nor 1 is a picture's bytes
pub rate_bytes : (r n : ℕ) → (r ≡ 0 → ⊥) → (r ≡ 1 → ⊥) → PictureBytes n ≡ rate_in r n
rate_bytes zero n h g = absurd (h refl)
rate_bytes (suc zero) n h g = absurd (g refl)
rate_bytes (suc (suc r)) n h g = refl
