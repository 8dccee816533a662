-- `high::choice::pack_slice` meets its contract.
use Rattle.picture.specs.Laws.PackSlice.{y_ready, c1_ready, c2_ready, slice_chosen, slice_packed, slice_kept}
use Rattle.picture.proofs.high.choice.pack_slice.Goals as goal

pub pack_run-y-requires : goal.pack_run-y-requires
pack_run-y-requires c =
    let a = c.args in
    rw c.run.ensures (y_ready a.d.picture a.k a.q a.from c.requires.0 a.d.plain c.requires.1)

pub pack_run-c1-requires : goal.pack_run-c1-requires
pack_run-c1-requires c =
    let a = c.args in
    let y = rw c.run.ensures at c.pack_run-y.ensures in
    rw c.run-2.ensures (c1_ready a.d.picture a.k a.q a.from c.requires.0 a.d.plain c.requires.1 y)

pub pack_run-c2-requires : goal.pack_run-c2-requires
pack_run-c2-requires c =
    let a = c.args in
    let y = rw c.run.ensures at c.pack_run-y.ensures in
    let c1 = rw c.run-2.ensures at c.pack_run-c1.ensures in
    rw c.run-3.ensures (c2_ready a.d.picture a.k a.q a.from c.requires.0 a.d.plain c.requires.1 y c1)

pub returns : goal.returns
returns c =
    let a = c.args in
    let y = rw c.run.ensures at c.pack_run-y.ensures in
    let c1 = rw c.run-2.ensures at c.pack_run-c1.ensures in
    let c2 = rw c.run-3.ensures at c.pack_run-c2.ensures in (
      slice_chosen a.d.picture a.k a.q a.from c.requires.0 a.d.plain c.requires.1 y c1 c2,
      (
        slice_packed a.d.picture a.k a.q a.from c.requires.0 a.d.plain c.requires.1 y c1 c2,
        slice_kept a.d.picture a.k a.q a.from c.requires.0 a.d.plain c.requires.1 y c1 c2,
      ),
    )
