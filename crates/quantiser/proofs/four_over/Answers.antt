-- `quantiser::four_over` meets its contract.
use mathlib.Core.Path.{refl}
use Prim.Native.Nat.{◌/◌, ◌^◌, ◌≤◌}
use native.Mathlib.Omega.{arith}
use native.Mathlib.Nat.{mod-lt}
use Rattle.quantiser.specs.Laws.Step.{quarter, over_four, four_times}
use Rattle.quantiser.proofs.four_over.Goals as goal
use Rattle.quantiser.proofs.four_over.Goals.{Start}

pub returns-then-f-eq4 : goal.returns-then-f-eq4
returns-then-f-eq4 c = over_four c.args.m c.args.f c.if-f-eq4.true

-- the first quotient
quotient : (c : Start) → c.args.m / c.args.f ≤ 2 ^ 61
quotient c = quarter c.args.m c.args.f c.requires.0.0 c.requires.1

pub doubled-requires : goal.doubled-requires
doubled-requires c =
    (omega (arith, quotient (goal.at.doubled-requires c).Start), (mod-lt c.args.m (omega arith), c.requires.0.1))

pub doubled-four-requires : goal.doubled-four-requires
doubled-four-requires c =
    let d = c.doubled.ensures in
    (omega (arith, quotient (goal.at.doubled-four-requires c).Start, d.most), (d.small, c.requires.0.1))

pub returns : goal.returns
returns c =
    let a = c.args in
    four_times a.f a.m _ _ _ refl refl c.doubled.ensures c.doubled-four.ensures
