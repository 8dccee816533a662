-- `high::slice::put_hq_slice` meets its contract.
use native.Mathlib.Omega.{arith}
use Rattle.picture.specs.Code.Notes.{numbers_at}
use Rattle.picture.specs.Laws.HighSlice.{prefix_room, index_room, components_room, flush_room, slice_laid}
use Rattle.picture.proofs.high.slice.put_hq_slice.Goals as goal

pub put_prefix-requires : goal.put_prefix-requires
put_prefix-requires c =
    let a = c.args in
    let t = a.d.fits in
    (prefix_room a.d.terms.prefix a.d.terms.scaler a.c.index (numbers_at a.work.now a.from a.c) a.at c.new-w.ensures t.scaler.0 c.requires.1, t.prefix)

pub put_nbits-requires : goal.put_nbits-requires
put_nbits-requires c =
    let a = c.args in
    let t = a.d.fits in
    (index_room a.d.terms.prefix a.d.terms.scaler a.c.index (numbers_at a.work.now a.from a.c) a.at c.new-w.ensures t.scaler.0 c.requires.1 c.put_prefix.ensures, omega arith)

pub put_components-requires : goal.put_components-requires
put_components-requires c =
    let a = c.args in
    let t = a.d.fits in
    (c.requires.0, (t.scaler, components_room a.d.terms.prefix a.d.terms.scaler a.c.index (numbers_at a.work.now a.from a.c) a.at c.new-w.ensures t.scaler.0 c.requires.1 c.put_prefix.ensures c.put_nbits.ensures))

pub flush-requires : goal.flush-requires
flush-requires c =
    let a = c.args in
    let t = a.d.fits in
    flush_room a.d.terms.prefix a.d.terms.scaler a.c.index (numbers_at a.work.now a.from a.c) a.at c.new-w.ensures t.scaler.0 c.requires.1 c.put_prefix.ensures c.put_nbits.ensures c.put_components.ensures

pub returns : goal.returns
returns c =
    let a = c.args in
    let t = a.d.fits in
    slice_laid a.d.terms.prefix a.d.terms.scaler a.c.index (numbers_at a.work.now a.from a.c) a.at c.new-w.ensures t.scaler.0 c.requires.1 c.put_prefix.ensures c.put_nbits.ensures c.put_components.ensures c.flush.ensures
