-- `slices::run::cost_run` meets its contract.
use mathlib.Core.Path.{◌≡◌, ap, ◌∙◌}
use Prim.Native.Nat.{◌*◌, ◌-◌}
use native.Mathlib.Omega.{arith}
use Rattle.picture.specs.declared.slices.strip.Strip.{Strip}
use Rattle.picture.specs.Code.Strip.{strip_numbers}
use Rattle.picture.specs.Code.Cost.{add1, add_all}
use Rattle.picture.specs.Code.Layout.{run_strip, second_of, pair_of}
use Rattle.picture.specs.Code.Counter.{cost_counts}
use Rattle.picture.specs.Laws.Counter.{counted_fewer, counted_after}
use Rattle.picture.specs.Laws.Strip.{rows_small}
use Rattle.picture.specs.Laws.Layout.{window-area, first_most, first_lies, first_part, first_length, added_whole}
use Rattle.picture.proofs.slices.run.cost_run.Goals as goal
use Rattle.picture.proofs.slices.run.cost_run.Goals.{After-add_strip-first}

added : (c : After-add_strip-first) → let a = c.args in c.add_strip-first.result ≡ add_all a.t (strip_numbers a.work.now (run_strip a.r.now 0 0))
added c = let a = c.args in c.add_strip-first.ensures ∙ ap (λ (s : Strip). add_all a.t (strip_numbers a.work.now s)) c.strip_in-s.ensures

pub add_strip-first-requires : goal.add_strip-first-requires
add_strip-first-requires c =
    let a = c.args in
    let s = c.strip_in-s in
    let h = c.requires.0.holds in
    (first_lies h _ s.result s.ensures, (tt, counted_fewer c.requires.1 (omega (arith, first_part _ _ _ _ _ _ s.result s.ensures, first_most a.r.now.layout a.r.now.first))))

pub add_rest-requires : goal.add_rest-requires
add_rest-requires c =
    let a = c.args in
    let v = c.first_window-v in
    let s = run_strip a.r.now 0 0 in
    let r = counted_after cost_counts a.t (strip_numbers a.work.now s) _ (2 * (a.r.now.first.width * a.r.now.first.height - v.result.width * v.result.height)) c.requires.1 (rows_small a.work.now s _ _)
    (omega (arith, first_length a.work.now a.r.now.layout a.r.now.first (second_of a.r.now) (pair_of a.r.now) a.r.now.slice a.r.now.index, first_most a.r.now.layout a.r.now.first, window-area _ _ _ v.result v.ensures)) in
    (c.requires.0, (rw (added (goal.at.add_rest-requires c).After-add_strip-first) r, v.ensures))

pub returns : goal.returns
returns c = let a = c.args in added_whole a.work.now a.r.now.layout a.r.now.first (second_of a.r.now) (pair_of a.r.now) a.r.now.slice a.r.now.index add1 a.t _ _ (added (goal.at.returns c).After-add_strip-first) c.add_rest.ensures
