-- `parse::well_formed` meets its contract.
use mathlib.Core.Path.{◌≡◌, sym, ap, ◌∙◌}
use mathlib.Core.Bool.{Bool, not}
use Prim.Native.Nat.{◌-◌}
use lib.ListN.{length, take, drop}
use Rattle.jobs.specs.Job.{is_end}
use lib.Seq.{length-take-le}
use Rattle.jobs.specs.Laws.Parse.{lent_rest, ends_rise, order_unknown, order_endless, order_uncounted, order_last}
use native.Mathlib.Omega.{arith}
use Rattle.jobs.proofs.parse.well_formed.Goals as goal
use Rattle.jobs.proofs.parse.well_formed.Goals.{Start}

-- the test of the last word
ended : (st : Start) {r b : Bool} → let ws = st.args.words.now in
    let n = st.args.e.c2 in r ≡ is_end (take (length ws - n) (drop n ws)) → r ≡ b → is_end (drop n ws) ≡ b
ended st p q = ap is_end (sym (lent_rest st.args.e.c2 st.args.words.now)) ∙ sym p ∙ q

pub slice_bounds-known-end : goal.slice_bounds-known-end
slice_bounds-known-end c =
    let a = c.args in
    let q = ends_rise a.words.now a.e c.requires in
    sym (length-take-le a.e.settings a.words.now (omega arith))

pub returns-then-not-known : goal.returns-then-not-known
returns-then-not-known c =
    let a = c.args in
    order_unknown a.words.now a.e c.requires (sym c.known.ensures ∙ c.if-not-known.true)

pub returns-then-not-is_end : goal.returns-then-not-is_end
returns-then-not-is_end c =
    let a = c.args in
    order_endless a.words.now a.e c.requires (sym c.known.ensures ∙ c.if-not-known.false) (ended (goal.at.returns-then-not-is_end c).Start c.is_end.ensures c.if-not-is_end.true)

pub returns-then-not-counted : goal.returns-then-not-counted
returns-then-not-counted c =
    let a = c.args in
    order_uncounted a.words.now a.e c.requires (sym c.known.ensures ∙ c.if-not-known.false) (ended (goal.at.returns-then-not-counted c).Start c.is_end.ensures c.if-not-is_end.false) (sym c.counted.ensures ∙ c.if-not-counted.true)

pub returns : goal.returns
returns c =
    let a = c.args in
    ap not c.any_above.ensures ∙ order_last a.words.now a.e c.requires (sym c.known.ensures ∙ c.if-not-known.false) (ended (goal.at.returns c).Start c.is_end.ensures c.if-not-is_end.false) (sym c.counted.ensures ∙ c.if-not-counted.false)
