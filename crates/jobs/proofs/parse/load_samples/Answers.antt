use Rattle.std.proofs.Common.{map}
use Rattle.jobs.specs.Job.{content_of}
use Rattle.jobs.specs.Laws.Print.{lays_same}
use Rattle.jobs.specs.Laws.Parse.{values_same}
use Rattle.jobs.proofs.parse.load_samples.Goals as goal

pub returns : goal.returns
returns c = lays_same (values_same (map content_of c.args.words.now) c.requires.1) c.load.ensures
