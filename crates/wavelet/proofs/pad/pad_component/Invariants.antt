-- `pad::pad_component` meets its contract. The loop's invariant: the first y rows are there.
use Rattle.std.proofs.Common.{◌*◌}
use Rattle.laws.specs.Rows.{row}
use Rattle.laws.specs.Laws.Window.{Parts}
use Rattle.wavelet.specs.Pad.{padded}
use Rattle.wavelet.proofs.pad.pad_component.Given as goal

abbrev pub invariant-loop-y : goal.invariant-loop-y
invariant-loop-y l = Parts (λ y. row l.c.pw (padded l.samples l.c.offset l.c.w l.c.h y)) l.initial.plane 0 l.c.ph l.c.pw l.plane l.y (l.y * l.c.pw)
