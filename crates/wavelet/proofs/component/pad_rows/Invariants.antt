-- `component::pad_rows` meets its contract. The loop's invariant: the first y rows of the scratch are there.
use Rattle.std.proofs.Common.{◌*◌}
use Rattle.laws.specs.Laws.Window.{Parts}
use Rattle.wavelet.specs.Pad.{padded}
use Rattle.wavelet.specs.Laws.Level.{row_of}
use Rattle.wavelet.proofs.component.pad_rows.Given as goal

abbrev pub invariant-loop-y : goal.invariant-loop-y
invariant-loop-y l = Parts (row_of l.index (padded l.samples l.c.offset l.c.w l.c.h) l.c.pw) l.initial.work 0 l.c.ph l.c.pw l.work l.y (l.y * l.c.pw)
