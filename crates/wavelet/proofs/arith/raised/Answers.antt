-- `arith::raised` meets its contract.
use Rattle.wavelet.specs.Laws.Copy.{raised_is}
use Rattle.wavelet.proofs.arith.raised.Goals as goal

pub returns : goal.returns
returns c = raised_is c.args.bits c.args.x c.requires c.ranges.x
