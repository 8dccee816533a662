-- `component::analyse_components` meets its contract.
use Rattle.std.proofs.Common.{◌*◌}
use Rattle.wavelet.specs.Laws.Component.{three_are}
use Rattle.wavelet.proofs.component.analyse_components.Goals as goal

pub returns : goal.returns
returns c =
    let a = c.args in
    let x = c.analyse_component in
    let y = c.analyse_component-2 in
    let z = c.analyse_component-3 in
    three_are a.n (a.luma.ph * a.luma.pw) (a.colour.ph * a.colour.pw) a.work.now x.new.work y.new.work z.new.work _ _ _ c.requires.fits x.auto.work y.auto.work x.ensures y.ensures z.ensures
