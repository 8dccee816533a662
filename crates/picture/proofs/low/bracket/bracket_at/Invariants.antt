-- `low::bracket::bracket_at` meets its contract. The invariant: the runs at hand are known, and what the candidates
-- left in the work slice is rebuilt as if none had been tried.
use Prim.Native.Nat.{◌≤◌}
use Rattle.picture.specs.Code.Low.{Tried}
use Rattle.picture.specs.Code.LowRest.{Known}
use Rattle.picture.proofs.low.bracket.bracket_at.Given as goal

abbrev pub invariant-loop-step : goal.invariant-loop-step
invariant-loop-step l = Tried l.s.picture l.s.k l.fn.work l.work × ((Known l.work l.s.picture l.s.k l.b.low × Known l.work l.s.picture l.s.k l.b.high) × (l.q ≤ 127))
