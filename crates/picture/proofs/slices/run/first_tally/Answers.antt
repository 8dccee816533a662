-- `slices::run::first_tally` meets its contract.
use mathlib.Core.Path.{ap, ◌∙◌}
use native.Mathlib.Omega.{arith}
use Rattle.picture.specs.declared.slices.strip.Strip.{Strip}
use Rattle.picture.specs.Code.Strip.{strip_numbers}
use Rattle.picture.specs.declared.slices.cost.Cost.{Cost}
use Rattle.picture.specs.Code.Cost.{add_all, no_cost}
use Rattle.picture.specs.Code.Tally.{tally_of, tally_all, no_tally}
use Rattle.picture.specs.Laws.Tally.{tally_cost}
use Rattle.picture.specs.Laws.Layout.{first_lies, first_part, first_most}
use Rattle.picture.proofs.slices.run.first_tally.Goals as goal

pub add_strip-requires : goal.add_strip-requires
add_strip-requires c =
    let a = c.args in
    let s = c.strip_in-s in
    rw c.no_cost-none.ensures (first_lies c.requires.0.holds _ s.result s.ensures, (tt, record { bits = omega arith; count = omega (arith, first_part _ _ _ _ _ _ s.result s.ensures, first_most a.r.now.layout a.r.now.first, c.requires.1.0) }))

pub returns : goal.returns
returns c =
    let a = c.args in
    let s = c.strip_in-s in
    let z = c.no_cost-none in
    c.from.ensures
    ∙ ap tally_of (c.add_strip.ensures ∙ ap (λ (t : Cost). add_all t (strip_numbers a.work.now s.result)) z.ensures)
    ∙ tally_cost (no_cost 0) (strip_numbers a.work.now s.result) ∙ ap (λ (s : Strip). tally_all no_tally (strip_numbers a.work.now s)) s.ensures
