-- `front::refusal::first_broken` meets its contract. The invariant: no rule before the loop's is broken.
use mathlib.Core.Path.{◌≡◌}
use Rattle.std.specs.Prelude.{map, drop}
use Rattle.unit.specs.Rules.{first}
use Rattle.picture.specs.Code.Rules.{rule_of}
use Rattle.picture.proofs.front.refusal.first_broken.Given as goal

abbrev pub invariant-loop-refusal : goal.invariant-loop-refusal
invariant-loop-refusal l = first (map rule_of (drop l.refusal-index l.rules)) ≡ first (map rule_of l.rules)
