use Rattle.std.proofs.Common.{sym, arith}
use Rattle.laws.specs.Wrap.{wrap}
use Rattle.wavelet.specs.Laws.Lifting.{analysis-none}
use Rattle.wavelet.specs.Filters.{filter_of}
use Rattle.wavelet.specs.Laws.Table.{in_table}
use Rattle.wavelet.specs.Laws.Run.{analysis-turn}
use Rattle.wavelet.proofs.lift.analyse.Goals as goal

pub loop-k-init : goal.loop-k-init
loop-k-init c = rw c.stage_count-k.ensures (sym (analysis-none wrap (filter_of c.args.index).stages c.args.row.now))

pub overflow_add-index : goal.overflow_add-index
overflow_add-index c = omega (arith, (in_table c.args.index c.requires.0).room)

pub stage-requires : goal.stage-requires
stage-requires c = omega (arith, (in_table c.args.index c.requires.0).room)

pub loop-k-preserved : goal.loop-k-preserved
loop-k-preserved c =
    let l = c.loop-k in
    let s = c.stage in
    analysis-turn c.args.index l.k s.result c.args.row.now l.row _ c.requires.0 c.loop-k-test.true (omega arith) s.ensures l.invariant c.lift.ensures
