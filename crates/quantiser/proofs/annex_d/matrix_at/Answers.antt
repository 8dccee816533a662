-- antt compares the code's numbers with the definition's matrices.
use mathlib.Core.Path.{refl}
use mathlib.Core.List.{flatten}
use native.Mathlib.Omega.{arith}
use Rattle.quantiser.specs.Code.Cells.{all_tables, matrix_at}
use Rattle.quantiser.specs.Laws.Cell.{numbers_at, number_at, filled-turn, filled_all}
use Rattle.quantiser.proofs.annex_d.matrix_at.Goals as goal

pub loop-i-init : goal.loop-i-init
loop-i-init c = refl

pub loop-i-preserved : goal.loop-i-preserved
unfolding numbers_at matrix_at flatten all_tables
loop-i-preserved c =
    let a = c.args in
    let l = c.loop-i in
    filled-turn a.table a.cell c.requires.0 c.requires.1 l.values l.i _ c.loop-i-test.true l.invariant
    (number_at a.table a.cell l.i c.requires.0 c.requires.1 c.loop-i-test.true)

pub returns : goal.returns
returns c =
    let l = c.loop-i in
    filled_all c.args.table c.args.cell c.requires.0 c.requires.1 l.values l.i (omega (arith, l.auto.i-end, c.loop-i-test.false)) l.invariant
