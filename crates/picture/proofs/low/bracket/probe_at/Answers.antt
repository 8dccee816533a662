-- `low::bracket::probe_at` meets its contract.
use Rattle.picture.specs.Laws.LowRest.{joins_both}
use Rattle.picture.proofs.low.bracket.probe_at.Goals as goal

pub bits_with-requires : goal.bits_with-requires
bits_with-requires c = joins_both c.first_tallies-f.ensures c.rest_of-rest.ensures.0 c.requires.arranged
