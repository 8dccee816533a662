-- `coder::passes::plan_slices` meets its contract. The invariant: the slices before the k-th are planned, their words
-- packed and their choices noted.
use Rattle.picture.specs.Code.Passes.{PlansTo}
use Rattle.picture.specs.Code.Notes.{Notes}
use Rattle.picture.proofs.coder.passes.plan_slices.Given as goal

abbrev pub invariant-loop-k : goal.invariant-loop-k
invariant-loop-k l = PlansTo l.initial.work l.fn.p l.fn.t l.at l.k l.c × Notes l.initial.work l.fn.p l.fn.t l.k l.work
