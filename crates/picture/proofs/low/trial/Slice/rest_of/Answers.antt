-- `low::trial::Slice::rest_of` meets its contract.
use mathlib.Core.Path.{ap}
use Rattle.picture.specs.declared.low.trial.Windows.{Windows}
use Rattle.picture.specs.Laws.Layout.{run_lies}
use Rattle.picture.specs.Laws.Picture.{run_y, run_pair}
use Rattle.picture.proofs.low.trial.Slice.rest_of.Goals as goal

pub rest_run-requires : goal.rest_run-requires
rest_run-requires c = let h = c.requires in rw c.run.ensures (run_lies (run_y h), (h.arranged.y.area, ap (λ (v : Windows). v.luma) c.args.self.is))

pub rest_run-requires-2 : goal.rest_run-requires-2
rest_run-requires-2 c = let h = c.requires in rw c.colours.ensures (run_lies (run_pair h), (h.arranged.c1.area, ap (λ (v : Windows). v.colour) c.args.self.is))
