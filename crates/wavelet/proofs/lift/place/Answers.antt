-- `lift::place` meets its contract.
use Rattle.std.proofs.Common.{◌≡◌, ◌∙◌}
use Rattle.wavelet.specs.Lifting.{place}
use Rattle.wavelet.specs.Laws.Lifting.{place_law}
use Rattle.wavelet.specs.Code.Table.{stage_of}
use Rattle.wavelet.proofs.lift.place.Goals as goal

pub returns : goal.returns
unfolding stage_of
returns c =
    let a = c.args in
    let e : c.within.result ≡ place (stage_of a.s) a.len a.n a.k = c.within.ensures ∙ rw c.saturating_sub-c.ensures in
    (e, rw e (place_law (stage_of a.s) a.len a.n a.k a.s.side c.requires.1.0).inside)
