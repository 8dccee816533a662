-- `encode::call` meets its contract.
use mathlib.Core.Path.{sym}
use Prim.Native.Nat.{◌-◌}
use lib.ListN.{length}
use lib.Seq.{length-take-le}
use Rattle.jobs.specs.Laws.Parse.{length_part}
use Rattle.jobs.specs.Laws.Job.{Able, able, loaded, called_from}
use native.Mathlib.Omega.{arith}
use Rattle.jobs.proofs.encode.call.Goals as goal
use Rattle.jobs.proofs.encode.call.Goals.{Start}

-- what the contract allows
facts : (st : Start) → Able st.args.words.now st.args.e (length st.args.matrix.now) (length st.args.samples.now)
facts st = able st.args.words.now st.args.e (length st.args.matrix.now) (length st.args.samples.now) st.requires

pub slice_bounds-settings_of-end : goal.slice_bounds-settings_of-end
slice_bounds-settings_of-end c =
    let a = c.args in
    let f = facts (goal.at.slice_bounds-settings_of-end c).Start in
    sym (length-take-le a.e.settings a.words.now (omega (arith, f.to-matrix, f.to_y, f.to_c1, f.to_c2, f.within)))

pub settings_of-s-requires : goal.settings_of-s-requires
settings_of-s-requires c = (facts (goal.at.settings_of-s-requires c).Start).settings_known

pub load_samples-requires : goal.load_samples-requires
load_samples-requires c =
    let a = c.args in
    let f = facts (goal.at.load_samples-requires c).Start in
    (omega (arith, length_part a.e.matrix a.e.c2 a.words.now (omega (arith, f.to_y, f.to_c1, f.to_c2)) f.within, f.samples_room), f.samples_small)

pub slice_bounds-encode-end-2 : goal.slice_bounds-encode-end-2
slice_bounds-encode-end-2 c =
    let a = c.args in
    let f = facts (goal.at.slice_bounds-encode-end-2 c).Start in
    sym (length-take-le (a.e.matrix - a.e.settings) c.load_matrix.new.matrix (omega (arith, f.matrix_room, c.load_matrix.ensures.size)))

pub slice_bounds-encode-end-4 : goal.slice_bounds-encode-end-4
slice_bounds-encode-end-4 c =
    let a = c.args in
    let f = facts (goal.at.slice_bounds-encode-end-4 c).Start in
    sym (length-take-le (a.e.c2 - a.e.matrix) c.load_samples.new.samples (omega (arith, f.samples_room, c.load_samples.ensures.size)))

pub encode-requires : goal.encode-requires
encode-requires c =
    let a = c.args in
    let f = facts (goal.at.encode-requires c).Start in
    let n = length-take-le (a.e.c2 - a.e.matrix) c.load_samples.new.samples (omega (arith, f.samples_room, c.load_samples.ensures.size)) in
    (omega (arith, f.to_y, f.to_c1), omega (arith, f.to_y, f.to_c1, f.to_c2, n))

pub returns : goal.returns
returns c =
    let a = c.args in
    let f = facts (goal.at.returns c).Start in
    let m = c.load_matrix in
    let p = c.load_samples in
    let h = loaded a.matrix.now a.words.now m.new.matrix a.e.settings a.e.matrix f.to-matrix (omega (arith, f.to_y, f.to_c1, f.to_c2, f.within)) f.matrix_room m.ensures in
    let k = loaded a.samples.now a.words.now p.new.samples a.e.matrix a.e.c2 (omega (arith, f.to_y, f.to_c1, f.to_c2)) f.within f.samples_room p.ensures in
    called_from a.words.now a.e c.requires.0 c.settings_of-s.ensures h k c.encode.ensures
