-- `pad::padded_side` meets its contract.
use Rattle.std.proofs.Common.{◌≡◌, ℕ, ◌*◌, ◌%◌, ◌^◌, ap, ◌∙◌, arith}
use Rattle.std.proofs.lemmas.Nat.{pow_below}
use Rattle.laws.specs.Ceiling.{rounded_up}
use Rattle.wavelet.specs.Laws.Pad.{next_multiple}
use Rattle.wavelet.proofs.pad.padded_side.Goals as goal

pub returns : goal.returns
returns c =
    let r = c.next_multiple_of in
    let e : 1 * 2 ^ c.args.depth % 2 ^ 64 ≡ 2 ^ c.args.depth = omega (arith, pow_below c.args.depth 17 (omega arith)) in
    next_multiple _ c.args.side r.result r.ensures.multiple r.ensures.lower_bound r.ensures.upper_bound ∙ ap (λ (m : ℕ). rounded_up m c.args.side) e
