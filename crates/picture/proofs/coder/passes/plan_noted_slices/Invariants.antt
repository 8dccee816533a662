-- `coder::passes::plan_noted_slices` meets its contract. The invariant: the slices before the k-th are planned, and the
-- work slice is as it was.
use mathlib.Core.Path.{◌≡◌}
use Rattle.picture.specs.Code.Passes.{PlansTo}
use Rattle.picture.proofs.coder.passes.plan_noted_slices.Given as goal

abbrev pub invariant-loop-k : goal.invariant-loop-k
invariant-loop-k l = PlansTo l.initial.work l.fn.p l.fn.t l.at l.k l.c × (l.work ≡ l.initial.work)
