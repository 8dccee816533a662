-- `quantiser::factors::factor_at` meets its contract.
use mathlib.Core.Path.{◌∙◌}
use Rattle.quantiser.specs.Laws.Cap.{base_small, factor-low, is_factor}
use Rattle.quantiser.proofs.factors.factor_at.Goals as goal

pub factor_by-requires : goal.factor_by-requires
factor_by-requires c = let b = base_small c.args.index c.if-index-ge128.false in rw b.is b.small

pub returns : goal.returns
returns c =
    let i = c.args.index in
    let h = c.if-index-ge128.false in
    is_factor i _ (c.factor_by.ensures ∙ rw (base_small i h).is (factor-low i h))
