-- `coder::passes::put_ld_slices` meets its contract. The loop's invariant: the slices before the k-th are coded.
use Rattle.picture.specs.Laws.LowSlice.{Coded}
use Rattle.picture.proofs.coder.passes.put_ld_slices.Given as goal

abbrev pub invariant-loop-k : goal.invariant-loop-k
invariant-loop-k l = Coded l.p l.n l.initial.work l.initial.out l.at l.k l.work l.out l.c
