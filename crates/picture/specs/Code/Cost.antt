-- What a run of numbers costs, added up number by number.
use Rattle.std.specs.Prelude.{◌≡◌, Bool, cond, List, [], ◌∷◌, ℕ, ◌+◌, ◌*◌, ◌≤◌, ◌^◌, leb, eqb, ℤ, length}
use Rattle.codewords.specs.CodeWord.{code_s}
use Rattle.unit.specs.Trim.{is_zero}
use Rattle.picture.specs.declared.slices.cost.Cost.{Cost}

-- the run that fits, with all numbers so far where these do
unfoldable pub fitted : Cost → Cost
fitted c = record {
  room = c.room;
  bits = c.bits;
  count = c.count;
  kept_bits = c.kept_bits;
  keep = c.keep;
  fit_bits = cond (leb c.bits c.room) c.bits c.fit_bits;
  fit = cond (leb c.bits c.room) c.count c.fit;
}

-- a cost with one number more, which ends at n bits: one that is not 0 ends the kept run
unfoldable pub kept : Cost → Bool → ℕ → Cost
kept c none n = record {
  room = c.room;
  bits = n;
  count = c.count + 1;
  kept_bits = cond none c.kept_bits n;
  keep = cond none c.keep (c.count + 1);
  fit_bits = c.fit_bits;
  fit = c.fit;
}

-- r is that cost
pub record KeptTo (c : Cost) (none : Bool) (n : ℕ) (r : Cost) : Type 0 where
  pub is : r ≡ kept c none n

-- a cost with one number more, whose code word has n bits: one bit is the number 0
abbrev pub add_len : Cost → ℕ → Cost
add_len c n = fitted (kept c (eqb n 1) (c.bits + n))

abbrev pub add1 : Cost → ℤ → Cost
add1 c z = fitted (kept c (is_zero z) (c.bits + length (code_s z)))

-- numbers added to a state one by one
module _ {A : Type 0} (step : A → ℤ → A) where
  unfoldable pub added : A → List ℤ → A
  added c [] = c
  added c (z ∷ zs) = added (step c z) zs

abbrev pub add_all : Cost → List ℤ → Cost
add_all = added add1

-- the cost of no number
abbrev pub no_cost : ℕ → Cost
no_cost room = record { room = room; bits = 0; count = 0; kept_bits = 0; keep = 0; fit_bits = 0; fit = 0 }

-- n more numbers can be added to so many of so many bits
pub record Counted (bits-so-far so_far n : ℕ) : Type 0 where
  pub bits : bits-so-far ≤ 128 * so_far
  pub count : so_far + n ≤ 2 ^ 40

abbrev pub Countable : Cost → ℕ → Type 0
Countable c = Counted c.bits c.count
