-- `high::packed::Packing::pack_row` meets its contract. The loop's invariant: the places left of x are packed.
use Prim.Native.Nat.{◌-◌}
use Rattle.laws.specs.Code.Chunks.{chunks}
use Rattle.picture.specs.Laws.Strip.{places}
use Rattle.picture.specs.Code.Packed.{Packs}
use Rattle.picture.proofs.high.packed.Packing.pack_row.Given as goal

abbrev pub invariant-loop-x : goal.invariant-loop-x
invariant-loop-x l = Packs l.initial.work l.initial.self (chunks (places l.initial.work l.s l.y l.s.left) (l.x - l.s.left)) l.work l.self
