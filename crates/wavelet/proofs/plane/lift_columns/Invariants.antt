-- `plane::lift_columns` meets its contract. The loop's invariant: the first n updates of every column are done.
use Rattle.std.proofs.Common.{not}
use Rattle.wavelet.specs.Code.Table.{stage_of}
use Rattle.wavelet.specs.Laws.Columns.{ColumnsLifted}
use Rattle.wavelet.proofs.plane.lift_columns.Given as goal

abbrev pub invariant-loop-n : goal.invariant-loop-n
invariant-loop-n l = ColumnsLifted (stage_of l.s) (not l.s.adds) l.h l.w l.initial.plane l.plane l.n
