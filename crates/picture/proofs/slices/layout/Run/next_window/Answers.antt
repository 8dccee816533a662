-- `slices::layout::Run::next_window` meets its contract.
use mathlib.Core.Path.{◌∙◌}
use Rattle.picture.specs.Laws.Layout.{window_same}
use Rattle.picture.proofs.slices.layout.Run.next_window.Goals as goal

pub returns-then-n-depth_ho-ne1 : goal.returns-then-n-depth_ho-ne1
returns-then-n-depth_ho-ne1 c =
    let r = c.args.self.now in
    c.requires.1 ∙ window_same r.layout r.first c.args.n r.slice c.if-n-depth_ho.true c.if-n-depth_ho-ne1.true
