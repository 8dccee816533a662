-- `known` meets its contract.
use mathlib.Core.Path.{◌∙◌}
use Rattle.std.proofs.Common.{ne_eqb}
use Rattle.words.specs.Laws.Words.{known_short, known_by}
use Rattle.words.proofs.known.Goals as goal

pub returns-then-words-eq21 : goal.returns-then-words-eq21
returns-then-words-eq21 c = known_by c.args.words.now c.if-words-eq21.true

pub returns-else-words-eq21 : goal.returns-else-words-eq21
returns-else-words-eq21 c =
    ne_eqb _ 21 c.if-words-eq21.false ∙ known_short c.args.words.now c.if-words-eq21.false
