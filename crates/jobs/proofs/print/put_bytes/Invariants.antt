-- `print::put_bytes` meets its contract. The invariant: the text of the first i bytes is laid.
use Rattle.laws.specs.Code.Chunks.{chunks}
use Rattle.laws.specs.Code.Laid.{Lays}
use Rattle.jobs.specs.Laws.Print.{chunk_at}
use Rattle.jobs.proofs.print.put_bytes.Given as goal

abbrev pub invariant-loop-i : goal.invariant-loop-i
invariant-loop-i l = Lays l.initial.text l.initial.at (chunks (chunk_at l.bytes) l.i) l.text l.at
