-- `coder::passes::put_hq_slices` meets its contract. The loop's invariant: k slices are written, and the work slice is
-- as it was.
use mathlib.Core.Path.{◌≡◌}
use lib.ListN.{length}
use Rattle.laws.specs.Code.Laid.{Lays}
use Rattle.picture.specs.Code.Choice.{high_runs, words_to}
use Rattle.picture.proofs.coder.passes.put_hq_slices.Given as goal

abbrev pub invariant-loop-k : goal.invariant-loop-k
invariant-loop-k l = Lays l.initial.out l.at (high_runs l.initial.work l.fn.p l.fn.t l.k) l.out l.c.at × ((l.c.cut_slices ≡ 0) × ((l.c.words ≡ length (words_to l.initial.work l.fn.p l.fn.t l.k)) × (l.work ≡ l.initial.work)))
