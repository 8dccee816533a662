-- The code's table of stages as the definitions have it.
use Rattle.std.specs.Prelude.{ℕ, List, [], ◌++◌, take, slice_index_or}
use Rattle.wavelet.specs.Lifting.{Stage}
use Rattle.wavelet.specs.Filters.{type1, dd97, legall, dd137, haar0, haar1, fidelity, daub97}
use Rattle.wavelet.specs.declared.stage.LiftStage.{LiftStage}

unfoldable pub stage_of : LiftStage → Stage
stage_of s = record { to = s.to; adds = s.adds; shift = s.shift; ahead = s.ahead; back = s.back; taps = take s.count s.taps }

-- all stages of all filters: filter i's begin at 2 i
unfoldable pub stages : List Stage
stages = dd97.stages ++ legall.stages ++ dd137.stages ++ haar0.stages ++ haar1.stages ++ fidelity.stages ++ daub97.stages

abbrev pub stage_at : ℕ → Stage
stage_at j = slice_index_or stages j (type1 0 0 0 [])
