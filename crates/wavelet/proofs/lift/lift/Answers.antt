use Rattle.std.proofs.Common.{length, not, refl, ◌∙◌, arith}
use Rattle.laws.specs.Wrap.{wrap}
use Rattle.wavelet.specs.Laws.Lifting.{lifted-zero}
use Rattle.wavelet.specs.Code.Table.{stage_of}
use Rattle.wavelet.specs.Laws.Run.{row-runs, ran-lifted}
use Rattle.wavelet.proofs.lift.lift.Goals as goal

pub loop-n-init : goal.loop-n-init
loop-n-init c = record { n-le = omega arith; long = refl; now_is = lifted-zero wrap (stage_of c.args.s) (not c.args.s.adds) c.args.a.now }

pub run-requires : goal.run-requires
unfolding stage_of
run-requires c =
    let a = c.args in
    let l = c.loop-n in
    row-runs a.s c.places-o.result (length a.a.now) l.n c.run_length-m.result c.places-o.ensures c.run_length-m.ensures l.a l.invariant.long

pub loop-n-preserved : goal.loop-n-preserved
unfolding stage_of
loop-n-preserved c =
    let a = c.args in
    let l = c.loop-n in
    let m = c.run_length-m in
    let o = c.places-o in
    let r = c.run in
    record {
      n-le = omega (arith, m.ensures.fits);
      long = r.auto.a ∙ l.invariant.long;
      now_is = r.ensures ∙ ran-lifted a.s o.result (length a.a.now) l.n m.result o.ensures m.ensures (not a.s.adds) a.a.now l.a refl l.invariant.now_is;
    }
