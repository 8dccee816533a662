-- `lift::run_length` meets its contract.
use Rattle.std.proofs.Common.{◌∙◌, arith}
use Rattle.wavelet.specs.Laws.Run.{moves_more}
use Rattle.wavelet.proofs.lift.run_length.Goals as goal

pub returns : goal.returns
returns c =
    let a = c.args in
    moves_more a.s a.len a.n c.max.result c.requires.1 (omega (arith, c.if-n-s.false))
    (c.max.ensures ∙ rw (c.saturating_sub.ensures, c.min.ensures, c.saturating_sub-end.ensures))
