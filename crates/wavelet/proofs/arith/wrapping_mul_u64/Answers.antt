-- `arith::wrapping_mul_u64` meets its contract: no product of two halves passes 64 bits, and the halves make up the
-- product.
use Rattle.wavelet.specs.Laws.Product.{by_halves}
use Rattle.wavelet.proofs.arith.wrapping_mul_u64.Goals as goal

pub returns : goal.returns
returns c = by_halves c.args.x c.args.y
