-- `plane::copy_into` meets its contract. The loop's invariant: the first k numbers are there.
use Rattle.std.proofs.Common.{◌≡◌, ◌++◌, drop}
use Rattle.wavelet.specs.Code.Copy.{copied}
use Rattle.wavelet.proofs.plane.copy_into.Given as goal

abbrev pub invariant-loop-k : goal.invariant-loop-k
invariant-loop-k l = l.dst ≡ copied l.bits l.src l.from l.step l.k ++ drop l.k l.initial.dst
