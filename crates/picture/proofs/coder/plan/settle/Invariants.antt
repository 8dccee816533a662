-- `coder::plan::settle` meets its contract. The invariant: r is the plan with scaler c, whose choices are noted, and
-- the turns from c end where those from the first scaler do.
use Prim.Native.Nat.{◌-◌, ◌^◌}
use Rattle.picture.specs.Code.Matrix.{lent_in}
use Rattle.picture.specs.Code.Picture.{slices_in}
use Rattle.picture.specs.Code.Choice.{terms_of}
use Rattle.picture.specs.Code.Notes.{Notes}
use Rattle.picture.specs.Laws.HighPlan.{Settling}
use Rattle.picture.proofs.coder.plan.settle.Given as goal

abbrev pub invariant-loop-c : goal.invariant-loop-c
invariant-loop-c l = Settling l.initial.work l.p l.call.settings (lent_in l.call.matrix) l.c l.r × Notes l.initial.work l.p (terms_of l.call.settings (lent_in l.call.matrix) l.c) (slices_in l.p) l.work

abbrev pub decreases-loop-c : goal.decreases-loop-c
decreases-loop-c l = 2 ^ 24 - l.c
