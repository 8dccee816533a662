-- The range of indices that an election still has.
use Rattle.std.specs.Prelude.{Bool, true, false, ℕ, ◌+◌}
use Rattle.picture.specs.declared.slices.search.Range.{Range}

-- the part of a range that the search goes on in
abbrev pub half_of : Range → ℕ → Bool → Range
half_of r mid true = record { lo = r.lo; hi = mid }
half_of r mid false = record { lo = mid + 1; hi = r.hi }
