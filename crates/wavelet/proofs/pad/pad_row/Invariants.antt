-- `pad::pad_row` meets its contract. The loop's invariant: the first x places are there.
use Rattle.std.proofs.Common.{◌≡◌, ◌++◌, drop}
use Rattle.laws.specs.Rows.{row}
use Rattle.wavelet.specs.Code.Pad.{padded_row}
use Rattle.wavelet.proofs.pad.pad_row.Given as goal

abbrev pub invariant-loop-x : goal.invariant-loop-x
invariant-loop-x l = l.dst ≡ row l.x (padded_row l.bits l.samples l.c l.y) ++ drop l.x l.initial.dst
