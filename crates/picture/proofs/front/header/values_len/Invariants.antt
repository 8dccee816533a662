-- `front::header::values_len` meets its contract. The loop's invariant: bits counts the bits of the values before place
-- v-index.
use mathlib.Core.Path.{◌≡◌}
use Prim.Native.Nat.{◌*◌, ◌≤◌}
use lib.ListN.{length, take}
use Rattle.unit.specs.Parameters.{codes_u}
use Rattle.picture.proofs.front.header.values_len.Given as goal

abbrev pub invariant-loop-v : goal.invariant-loop-v
invariant-loop-v l = (l.bits ≡ length (codes_u (take l.v-index l.values))) × (l.bits ≤ 65 * l.v-index)
