-- `slices::run::rebuild_run` meets its contract.
use Rattle.picture.specs.Laws.Layout.{first_lies}
use Rattle.picture.proofs.slices.run.rebuild_run.Goals as goal

pub rebuild_strip-requires : goal.rebuild_strip-requires
rebuild_strip-requires c =
    first_lies c.requires.0.holds _ c.strip_in-s.result c.strip_in-s.ensures
