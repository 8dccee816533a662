-- `picture::front::header::write_transform_parameters` meets its contract.
use Rattle.codewords.specs.Laws.Writer.{wrote_then}
use Rattle.codewords.specs.Code.Writer.{Room}
use Rattle.codewords.specs.Bit.{Bits}
use mathlib.Core.Path.{◌≡◌, sym, ap, ◌∙◌}
use mathlib.Core.Bool.{Bool}
use mathlib.Core.List.{List, ◌++◌}
use mathlib.Core.Option.{Option}
use Prim.Native.Nat.{ℕ}
use native.Mathlib.Omega.{arith}
use lib.ListN.{length, length-append}
use Rattle.unit.specs.Parameters.{slice_parameter_bits, matrix_bits, parameter_bits}
use Rattle.unit.specs.Unit.{major_version}
use Rattle.picture.specs.Code.Matrix.{lent_in, carried_in}
use Rattle.picture.specs.Code.Head.{slice_in, parameters_in, shape_bits}
use Rattle.picture.specs.Laws.Head.{carried_is, parameters_parts}
use Rattle.picture.proofs.front.header.write_transform_parameters.Goals as goal
use Rattle.picture.proofs.front.header.write_transform_parameters.Goals.{Start}

-- the bits of the slice parameters and of the matrix
abbrev slices : Start → Bits
slices c = slice_parameter_bits (slice_in c.args.p)

abbrev matrix : Start → Bits
matrix c = matrix_bits (carried_in c.args.call.matrix)

parts : (c : Start)
    → parameter_bits (major_version c.args.call.settings) (parameters_in c.args.call c.args.p) ≡ shape_bits c.args.call.settings ++ (slices c ++ matrix c)
parts c =
    parameters_parts c.args.call.settings (lent_in c.args.call.matrix) (slice_in c.args.p)
    ∙ ap (λ (o : Option (List ℕ)). shape_bits c.args.call.settings ++ (slices c ++ matrix_bits o)) (sym (carried_is c.args.call.carries))

room : (c : Start) → Room c.args.out.now c.args.w.now (length (shape_bits c.args.call.settings ++ (slices c ++ matrix c)))
room c = rw (parts c) at c.requires

pub put_shape-requires : goal.put_shape-requires
put_shape-requires c = let r = room (goal.at.put_shape-requires c).Start in omega (arith, length-append {A = Bool})

pub put_slice_parameters-requires : goal.put_slice_parameters-requires
put_slice_parameters-requires c = let r = room (goal.at.put_slice_parameters-requires c).Start in omega (arith, length-append {A = Bool})

pub put_matrix-requires : goal.put_matrix-requires
put_matrix-requires c =
    let r = room (goal.at.put_matrix-requires c).Start in
    (c.args.call.carries.few, omega (arith, length-append {A = Bool}))

pub returns : goal.returns
returns c =
    let x = c.put_shape.ensures in
    rw (parts (goal.at.returns c).Start) (wrote_then c.requires.sound x (wrote_then x.sound c.put_slice_parameters.ensures c.put_matrix.ensures))
