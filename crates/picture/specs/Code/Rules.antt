-- The rules of a call as the code has them.
use Rattle.std.specs.Prelude.{Bool}
use Rattle.refusals.specs.declared.Refusal.{Refusal}
use Rattle.refusals.specs.Number.{number}
use Rattle.unit.specs.Rules.{Rule, rule}

-- a refusal, and whether the call breaks its rule
abbrev pub rule_of : Refusal × Bool → Rule
rule_of r = rule (number r.0) r.1
