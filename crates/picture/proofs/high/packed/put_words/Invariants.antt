-- `picture::high::packed::put_words` meets its contract. The loop's invariant: the words before z are written.
use Rattle.codewords.specs.CodeWord.{codes}
use Rattle.codewords.specs.Code.Writer.{Wrote}
use Rattle.picture.specs.Code.Packed.{unpacked, words_at}
use Rattle.picture.proofs.high.packed.put_words.Given as goal

abbrev pub invariant-loop-z : goal.invariant-loop-z
invariant-loop-z l = Wrote l.initial.out l.initial.v (codes (unpacked (words_at l.work l.at l.z-index))) l.out l.v
