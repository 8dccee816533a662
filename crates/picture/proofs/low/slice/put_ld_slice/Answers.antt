-- `low::slice::put_ld_slice` meets its contract.
use native.Mathlib.Omega.{arith}
use Rattle.picture.specs.Laws.LowSlice.{length_room, runs_room, ones_room, flush_room, slice_laid}
use Rattle.picture.proofs.low.slice.put_ld_slice.Goals as goal

pub put_nbits-requires-2 : goal.put_nbits-requires-2
put_nbits-requires-2 c =
    let a = c.args in
    let n = c.room_of-room in
    let r = c.kept_runs-r in
    let m = c.length_bits in
    (length_room a.out.now a.at c.new-w.ensures a.work.now a.s.picture a.n a.s.k a.q n.result m.result r.result n.ensures.0 m.ensures.0 r.ensures c.requires.1.0.0 c.requires.1.1.0 c.put_nbits.ensures, omega (arith, m.ensures.1))

pub put_runs-requires : goal.put_runs-requires
put_runs-requires c =
    let a = c.args in
    let n = c.room_of-room in
    let r = c.kept_runs-r in
    let m = c.length_bits in
    (c.requires.0, runs_room a.out.now a.at c.new-w.ensures a.work.now a.s.picture a.n a.s.k a.q n.result m.result r.result n.ensures.0 m.ensures.0 r.ensures c.requires.1.0.0 c.requires.1.1.0 c.put_nbits.ensures c.put_nbits-2.ensures)

pub put_ones-requires : goal.put_ones-requires
put_ones-requires c =
    let a = c.args in
    let n = c.room_of-room in
    let r = c.kept_runs-r in
    let m = c.length_bits in
    ones_room a.out.now a.at c.new-w.ensures a.work.now a.s.picture a.n a.s.k a.q n.result m.result r.result n.ensures.0 m.ensures.0 r.ensures c.requires.1.0.0 c.requires.1.1.0 c.put_nbits.ensures c.put_nbits-2.ensures c.put_runs.ensures

pub flush-requires : goal.flush-requires
flush-requires c =
    let a = c.args in
    let n = c.room_of-room in
    let r = c.kept_runs-r in
    let m = c.length_bits in
    flush_room a.out.now a.at c.new-w.ensures a.work.now a.s.picture a.n a.s.k a.q n.result m.result r.result n.ensures.0 m.ensures.0 r.ensures c.requires.1.0.0 c.requires.1.1.0 c.put_nbits.ensures c.put_nbits-2.ensures c.put_runs.ensures c.put_ones.ensures

pub returns : goal.returns
returns c =
    let a = c.args in
    let n = c.room_of-room in
    let r = c.kept_runs-r in
    let m = c.length_bits in
    slice_laid a.out.now a.at c.new-w.ensures a.work.now a.s.picture a.n a.s.k a.q n.result m.result r.result n.ensures.0 m.ensures.0 r.ensures c.requires.1.0.0 c.requires.1.1.0 c.put_nbits.ensures c.put_nbits-2.ensures c.put_runs.ensures c.put_ones.ensures c.flush.ensures
