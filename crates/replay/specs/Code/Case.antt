-- What is read of a case.
use Rattle.std.specs.Prelude.{ℕ, ◌≤◌}
use Rattle.replay.specs.declared.Next.{Next}
use Rattle.replay.specs.declared.Next.TheVariants.{End, Cut, Case}

-- a case has at most most words
abbrev pub Held : ℕ → Next → Type 0
Held most End = Unit {0}
Held most (Cut kind) = Unit {0}
Held most (Case kind n) = n ≤ most
