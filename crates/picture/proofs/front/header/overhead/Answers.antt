-- `picture::front::header::overhead` meets its contract.
use native.Mathlib.Omega.{arith}
use mathlib.Core.Path.{ap}
use mathlib.Core.List.{List}
use mathlib.Core.Option.{Option}
use Prim.Native.Nat.{ℕ}
use lib.ListN.{length}
use Rattle.unit.specs.Parameters.{matrix_bits}
use Rattle.picture.specs.Code.Matrix.{lent_in}
use Rattle.picture.specs.Code.Head.{slice_in}
use Rattle.picture.specs.Laws.Head.{carried_is, bytes_of_parts}
use Rattle.picture.proofs.front.header.overhead.Goals as goal

pub returns : goal.returns
returns c =
    let a = c.args in
    let x = c.shape_len.ensures in
    let y = c.slice_parameters_len.ensures in
    let z = c.matrix_len.ensures in
    let e = ap (λ (o : Option (List ℕ)). length (matrix_bits o)) (carried_is a.call.carries) in
    (omega (arith, bytes_of_parts a.call.settings (lent_in a.call.matrix) (slice_in a.p), x.0, y.0, z.0, e), omega (arith, x.1, y.1, z.1))
