-- `front::header::put_values` meets its contract. The loop's invariant: the values before place v-index are written.
use lib.ListN.{take}
use Rattle.codewords.specs.Code.Writer.{Wrote}
use Rattle.unit.specs.Parameters.{codes_u}
use Rattle.picture.proofs.front.header.put_values.Given as goal

abbrev pub invariant-loop-v : goal.invariant-loop-v
invariant-loop-v l = Wrote l.initial.out l.initial.w (codes_u (take l.v-index l.values)) l.out l.w
