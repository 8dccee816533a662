-- `low::size::length_bits` meets its contract.
use native.Mathlib.Omega.{arith}
use Rattle.picture.specs.Laws.LowIndex.{length_few}
use Rattle.picture.proofs.low.size.length_bits.Goals as goal

pub returns : goal.returns
returns c =
    let e = c.intlog2.ensures.0 in
    (e, omega (arith, e, length_few c.args.n c.requires.1))
