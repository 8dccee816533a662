-- `plane::dwt` meets its contract. The invariant of both loops: what the levels left make is what all levels make at
-- the start.
use Rattle.std.proofs.Common.{◌+◌, ◌-◌}
use Rattle.wavelet.specs.Laws.Walk.{WalksAt}
use Rattle.wavelet.proofs.plane.dwt.Given as goal

abbrev pub invariant-loop-level : goal.invariant-loop-level
invariant-loop-level l = WalksAt l.fn.s l.t l.fn.work l.t.k (l.level - (l.t.k + 1)) l.p l.work

abbrev pub invariant-loop-level-2 : goal.invariant-loop-level-2
invariant-loop-level-2 l = WalksAt l.fn.s l.t l.fn.work (l.level - 1) 0 l.p l.work
