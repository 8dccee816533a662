-- How many taps a stage of the code may have.
use Rattle.std.specs.Prelude.{ℕ, Bool, ◌||◌, ◌==◌}

abbrev pub is_count : ℕ → Bool
is_count c = c == 1 || (c == 2 || (c == 4 || c == 8))
