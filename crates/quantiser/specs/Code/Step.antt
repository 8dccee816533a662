-- A quotient and a remainder doubled.
use Rattle.std.specs.Prelude.{◌≡◌, ℕ, ◌+◌, ◌*◌, ◌<◌, ◌≤◌}
use Rattle.quantiser.specs.declared.Quotient.{Quotient}

-- r is the quotient and remainder by f of twice what q is of
pub record Doubles (f : ℕ) (q r : Quotient) : Type 0 where
  pub twice : r.quotient * f + r.remainder ≡ 2 * (q.quotient * f + q.remainder)
  pub small : r.remainder < f
  pub most : r.quotient ≤ 2 * q.quotient + 1
