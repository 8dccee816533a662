-- A quotient rounded up, and a number rounded up to a multiple.
use Rattle.std.specs.Prelude.{ℕ, ◌+◌, ◌-◌, ◌*◌, ◌/◌}

-- n over m, rounded up
abbrev pub ceiling : ℕ → ℕ → ℕ
ceiling n m = (n + (m - 1)) / m

-- n rounded up to a multiple of m
abbrev pub rounded_up : ℕ → ℕ → ℕ
rounded_up m n = ceiling n m * m
