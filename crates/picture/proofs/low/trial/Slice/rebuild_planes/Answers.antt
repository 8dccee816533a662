-- `low::trial::Slice::rebuild_planes` meets its contract.
use mathlib.Core.Path.{ap, ◌∙◌}
use Rattle.picture.specs.declared.low.trial.Windows.{Windows}
use Rattle.picture.specs.Laws.Layout.{run_lies}
use Rattle.picture.specs.Laws.Picture.{run_y, run_c1, run_c2}
use Rattle.picture.specs.Laws.LowIndex.{planes-rebuilt, slice_rebuilt}
use Rattle.picture.specs.Laws.LowRest.{window_c2}
use Rattle.picture.proofs.low.trial.Slice.rebuild_planes.Goals as goal

pub rebuild_run-requires : goal.rebuild_run-requires
rebuild_run-requires c = let h = c.requires in rw c.run.ensures (run_lies (run_y h), ap (λ (v : Windows). v.luma) c.args.self.is)

pub rebuild_run-requires-2 : goal.rebuild_run-requires-2
rebuild_run-requires-2 c =
    let p = c.args.self.picture in
    let h = c.requires in
    let y = slice_rebuilt p.y h (run_y h) (rw c.run.ensures at c.rebuild_run.ensures) in
    rw c.run-2.ensures (run_lies (run_c1 y), ap (λ (v : Windows). v.colour) c.args.self.is)

pub rebuild_run-requires-3 : goal.rebuild_run-requires-3
rebuild_run-requires-3 c =
    let p = c.args.self.picture in
    let h = c.requires in
    let y = slice_rebuilt p.y h (run_y h) (rw c.run.ensures at c.rebuild_run.ensures) in
    let c1 = slice_rebuilt p.c1 y (run_c1 y) (rw c.run-2.ensures at c.rebuild_run-2.ensures) in
    rw c.run-3.ensures (run_lies (run_c2 c1), ap (λ (v : Windows). v.colour) c.args.self.is ∙ window_c2 p c.args.self.k h.arranged)

pub returns : goal.returns
returns c =
    let a = c.args in
    let p = a.self.picture in
    let h = c.requires in
    let y = slice_rebuilt p.y h (run_y h) (rw c.run.ensures at c.rebuild_run.ensures) in
    let c1 = slice_rebuilt p.c1 y (run_c1 y) (rw c.run-2.ensures at c.rebuild_run-2.ensures) in
    let c2 = slice_rebuilt p.c2 c1 (run_c2 c1) (rw c.run-3.ensures at c.rebuild_run-3.ensures) in
    (planes-rebuilt a.work.now c.rebuild_run.new.work c.rebuild_run-2.new.work c.rebuild_run-3.new.work p a.self.k a.q (rw c.run.ensures at c.rebuild_run.ensures) (rw c.run-2.ensures at c.rebuild_run-2.ensures) (rw c.run-3.ensures at c.rebuild_run-3.ensures), c2.small)
