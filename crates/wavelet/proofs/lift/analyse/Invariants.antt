-- `lift::analyse` meets its contract. The loop's invariant: all stages from k on are undone.
use Rattle.std.proofs.Common.{◌≡◌, drop}
use Rattle.laws.specs.Wrap.{wrap}
use Rattle.wavelet.specs.Lifting.{analysis}
use Rattle.wavelet.specs.Filters.{filter_of}
use Rattle.wavelet.proofs.lift.analyse.Given as goal

abbrev pub invariant-loop-k : goal.invariant-loop-k
invariant-loop-k l = l.row ≡ analysis wrap (drop l.k (filter_of l.index).stages) l.initial.row
