-- `high::packed::Packing::pack_strip` meets its contract. The loop's invariant: the rows above y are packed.
use Prim.Native.Nat.{◌-◌}
use Rattle.laws.specs.Code.Chunks.{chunks}
use Rattle.picture.specs.Laws.Strip.{rows}
use Rattle.picture.specs.Code.Packed.{Packs}
use Rattle.picture.proofs.high.packed.Packing.pack_strip.Given as goal

abbrev pub invariant-loop-y : goal.invariant-loop-y
invariant-loop-y l = Packs l.initial.work l.initial.self (chunks (rows l.initial.work l.s l.s.top) (l.y - l.s.top)) l.work l.self
