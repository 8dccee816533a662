-- `parse::load_samples` meets its contract: a content's low 16 bits.
use Rattle.std.proofs.Common.{◌%◌}
use Rattle.jobs.proofs.parse.load_samples.Given as goal

abbrev pub ghost-load : goal.ghost-load
ghost-load a = λ content. content % 65536
