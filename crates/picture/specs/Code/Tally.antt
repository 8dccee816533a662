-- The tally of a run of numbers: their bits, their count, and their count without trailing zeros.
use Rattle.std.specs.Prelude.{cond, List, ℕ, ◌+◌, ◌-◌, eqb, ℤ, length}
use Rattle.codewords.specs.CodeWord.{code_s}
use Rattle.unit.specs.Trim.{is_zero, trimmed, trimmed_cost}
use Rattle.picture.specs.declared.slices.cost.Cost.{Cost}
use Rattle.picture.specs.declared.slices.tally.Trimmed.{Trimmed}
use Rattle.picture.specs.declared.slices.tally.Tally.{Tally}
use Rattle.picture.specs.Code.Cost.{added, Counted}

-- a tally with one number more
abbrev pub tally1 : Tally → ℤ → Tally
tally1 t z = record { bits = t.bits + length (code_s z); count = t.count + 1; keep = cond (is_zero z) t.keep (t.count + 1) }

-- one number more, whose code word has n bits: one bit is the number 0
abbrev pub tally_len : Tally → ℕ → Tally
tally_len t n = record { bits = t.bits + n; count = t.count + 1; keep = cond (eqb n 1) t.keep (t.count + 1) }

abbrev pub tally_all : Tally → List ℤ → Tally
tally_all = added tally1

-- the tally of no number
abbrev pub no_tally : Tally
no_tally = record { bits = 0; count = 0; keep = 0 }

-- the tally of a cost
abbrev pub tally_of : Cost → Tally
tally_of c = record { bits = c.bits; count = c.count; keep = c.keep }

-- a run without trailing zeros: how many numbers, and their bits
abbrev pub trimmed_of : List ℤ → Trimmed
trimmed_of xs = record { count = length (trimmed xs); bits = trimmed_cost xs }

-- what is tallied, without trailing zeros, each of which has one bit
abbrev pub trimmed_by : Tally → Trimmed
trimmed_by t = record { count = t.keep; bits = t.bits - (t.count - t.keep) }

-- n more numbers can be added
abbrev pub Addable : Tally → ℕ → Type 0
Addable t = Counted t.bits t.count
