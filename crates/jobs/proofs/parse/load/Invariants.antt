-- `parse::load` meets its contract. The invariant: the first i contents are laid.
use mathlib.Core.List.{map}
use lib.ListN.{take}
use Rattle.laws.specs.Code.Laid.{Lays}
use Rattle.jobs.specs.Job.{content_of}
use Rattle.jobs.proofs.parse.load.Given as goal

abbrev pub invariant-loop-i : goal.invariant-loop-i
invariant-loop-i g l = Lays l.initial.numbers 0 (take l.i (map g.value (map content_of l.words))) l.numbers l.i
