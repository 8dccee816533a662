-- `codewords::writer::BitWriter::put_bit` meets its contract.
use Rattle.codewords.specs.Laws.Bit.{lit_bit}
use Rattle.codewords.proofs.writer.BitWriter.put_bit.Goals as goal

pub returns : goal.returns
returns c = rw (lit_bit c.args.bit) at c.put_short.ensures
