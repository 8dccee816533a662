-- What adds up numbers one by one: by a step, and with the bits and the count of the numbers so far.
use Rattle.std.specs.Prelude.{◌≡◌, refl, ℕ, ◌+◌, ℤ, length}
use Rattle.codewords.specs.CodeWord.{code_s}
use Rattle.picture.specs.declared.slices.cost.Cost.{Cost}
use Rattle.picture.specs.declared.slices.tally.Tally.{Tally}
use Rattle.picture.specs.Code.Cost.{fitted, kept, add1}
use Rattle.picture.specs.Code.Tally.{tally1}

pub record Counts {A : Type 0} (step : A → ℤ → A) (bits count : A → ℕ) : Type 0 where
  pub more_bits : (c : A) (z : ℤ) → bits (step c z) ≡ bits c + length (code_s z)
  pub more_count : (c : A) (z : ℤ) → count (step c z) ≡ count c + 1

pub cost_counts : Counts add1 (λ (c : Cost). c.bits) (λ (c : Cost). c.count)
unfolding fitted kept
cost_counts = record { more_bits = λ c z. refl; more_count = λ c z. refl }

pub tally_counts : Counts tally1 (λ (t : Tally). t.bits) (λ (t : Tally). t.count)
tally_counts = record { more_bits = λ t z. refl; more_count = λ t z. refl }
