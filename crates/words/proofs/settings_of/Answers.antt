-- `settings_of` meets its contract: known words are 21.
use native.Mathlib.Omega.{arith}
use Rattle.unit.specs.Words.{settings_of}
use Rattle.words.specs.Laws.Words.{known-long}
use Rattle.words.proofs.settings_of.Goals as goal
use Rattle.words.proofs.settings_of.Goals.{in_default-via-then-words-lt21, in_default-via-else-words-lt21+else-words-lt22}

pub unreachable-requires : goal.unreachable-requires
unreachable-requires c =
    let n = known-long c.args.words.now c.requires in
    elim c.in_default.branch [
      | in_default-via-then-words-lt21 w ↦ grind (arith, n)
      | in_default-via-else-words-lt21+else-words-lt22 w ↦ grind (arith, n)
    ]

pub returns : goal.returns
unfolding settings_of
returns c = rw (← c.kind_in.ensures, ← c.rate_in.ensures)
