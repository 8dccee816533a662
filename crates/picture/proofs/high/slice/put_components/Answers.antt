-- `high::slice::put_components` meets its contract.
use Rattle.codewords.specs.Laws.Writer.{wrote_then}
use Rattle.picture.proofs.high.slice.put_components.Goals as goal

pub returns : goal.returns
returns c =
    let y = c.put_component.ensures in
    wrote_then c.requires.1.1.sound y (wrote_then y.sound c.put_component-2.ensures c.put_component-3.ensures)
