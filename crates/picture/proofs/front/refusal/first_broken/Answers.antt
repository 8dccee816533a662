use mathlib.Core.Path.{◌≡◌, refl, ◌∙◌}
use Prim.Native.Nat.{ℕ, ◌+◌, ◌<◌}
use Rattle.std.specs.Prelude.{Bool, true, false, List, map, drop, length, get_or}
use Rattle.std.proofs.Common.{add-one, drop-cons, drop_of_length-le}
use Rattle.refusals.specs.declared.Refusal.{Refusal}
use Rattle.refusals.specs.Number.{number}
use Rattle.unit.specs.Rules.{first}
use Rattle.picture.specs.Code.Rules.{rule_of}
use Rattle.picture.proofs.front.refusal.first_broken.Goals as goal

-- rule i is broken or not
module _ (rs : List (Refusal × Bool)) (i : ℕ) (d : Refusal × Bool) (h : i < length rs) where
  stops : (get_or rs i d).1 ≡ true → number (get_or rs i d).0 ≡ first (map rule_of (drop i rs))
  stops b = rw (drop-cons rs i d h, b) refl

  goes_on : (get_or rs i d).1 ≡ false → first (map rule_of (drop (i + 1) rs)) ≡ first (map rule_of (drop i rs))
  goes_on b = rw (drop-cons rs i d h, b, add-one i) refl

pub loop-refusal-init : goal.loop-refusal-init
loop-refusal-init c = refl

pub loop-refusal-preserved : goal.loop-refusal-preserved
loop-refusal-preserved c =
    goes_on c.args.rules.now c.loop-refusal.refusal-index _ c.loop-refusal-test.true c.if-broken.false ∙ c.loop-refusal.invariant

pub returns-then-broken : goal.returns-then-broken
returns-then-broken c =
    stops c.args.rules.now c.loop-refusal.refusal-index _ c.loop-refusal-test.true c.if-broken.true ∙ c.loop-refusal.invariant

pub returns : goal.returns
returns c =
    let rs = c.args.rules.now in
    rw (drop_of_length-le rs {i = c.loop-refusal.refusal-index} c.loop-refusal-test.false) at c.loop-refusal.invariant
