use Rattle.std.proofs.Common.{not, arith}
use Rattle.wavelet.specs.Code.Table.{stage_of}
use Rattle.wavelet.specs.Laws.Columns.{stage-none, column-runs, column-turn, stage_all}
use Rattle.wavelet.proofs.plane.lift_columns.Goals as goal

pub loop-n-init : goal.loop-n-init
loop-n-init c = stage-none (stage_of c.args.s) (not c.args.s.adds) c.args.h c.args.w c.args.plane.now c.requires.long

pub run-requires : goal.run-requires
unfolding stage_of
run-requires c =
    let a = c.args in
    let l = c.loop-n in
    column-runs a.s (not a.s.adds) a.h a.w a.plane.now l.plane l.n c.places-o.result l.invariant c.loop-n-test.true c.places-o.ensures

pub loop-n-preserved : goal.loop-n-preserved
unfolding stage_of
loop-n-preserved c =
    let a = c.args in
    let l = c.loop-n in
    let o = c.places-o in
    column-turn a.s (not a.s.adds) a.h a.w a.plane.now l.plane l.n o.result l.invariant c.loop-n-test.true o.ensures c.run.new.a c.run.ensures

pub returns : goal.returns
returns c =
    let a = c.args in
    let l = c.loop-n in
    stage_all (stage_of a.s) (not a.s.adds) a.h a.w a.plane.now l.plane l.n l.invariant (omega arith)
