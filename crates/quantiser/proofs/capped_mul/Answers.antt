-- `quantiser::capped_mul` meets its contract.
use Prim.Native.Nat.{ℕ, ◌*◌}
use native.Mathlib.Omega.{arith}
use Rattle.quantiser.specs.Quant.{cap}
use Rattle.quantiser.proofs.capped_mul.Goals as goal

pub returns : goal.returns
unfolding cap
returns c =
    let p : ℕ = c.args.a * c.args.b in
    (omega (arith, c.cap.ensures.0, c.saturating_mul.ensures), c.cap.ensures.1)
