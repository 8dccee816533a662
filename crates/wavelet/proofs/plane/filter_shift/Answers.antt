-- `plane::filter_shift` meets its contract: the constant is the list of the filters' shifts.
use lib.ListN.{get_or-map}
use Rattle.wavelet.specs.Filters.{Filter, filters, dd97, legall, dd137, haar0, haar1, fidelity, daub97}
use Rattle.wavelet.proofs.plane.filter_shift.Goals as goal

pub returns : goal.returns
unfolding dd97 legall dd137 haar0 haar1 fidelity daub97
returns c = get_or-map (λ (f : Filter). f.bits) filters c.args.index haar0
