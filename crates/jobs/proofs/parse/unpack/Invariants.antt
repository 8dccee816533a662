-- `parse::unpack` meets its contract. The invariant: the first i words are laid.
use lib.ListN.{take}
use Rattle.laws.specs.Code.Laid.{Lays}
use Rattle.jobs.specs.Job.{words_of}
use Rattle.jobs.proofs.parse.unpack.Given as goal

abbrev pub invariant-loop-i : goal.invariant-loop-i
invariant-loop-i l = Lays l.initial.words 0 (take l.i (words_of l.bytes)) l.words l.i
