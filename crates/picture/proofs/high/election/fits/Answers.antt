-- `high::election::fits` meets its contract.
use native.Mathlib.Omega.{arith}
use Rattle.picture.specs.Laws.Layout.{run_lies}
use Rattle.picture.specs.Laws.Picture.{run_y, run_c1, run_c2}
use Rattle.picture.specs.Laws.HighIndex.{run-bits, bits_few, fits_by_lem, alone_not}
use Rattle.picture.proofs.high.election.fits.Goals as goal

pub trimmed_run-y-requires : goal.trimmed_run-y-requires
trimmed_run-y-requires c = let h = c.requires in rw c.run.ensures (run_lies (run_y h), h.arranged.y.area)

pub needs_of-requires : goal.needs_of-requires
needs_of-requires c =
    let a = c.args in
    (run-bits a.work.now a.d.picture a.d.picture.y a.k a.q c.requires.arranged.y.area _ (rw c.run.ensures at c.trimmed_run-y.ensures), (omega arith, omega arith))

pub returns-then-slice_size-share : goal.returns-then-slice_size-share
returns-then-slice_size-share c =
    let a = c.args in
    let z = c.slice_size in
    alone_not a.work.now a.d.picture a.k a.q c.trimmed_run-y.result c.needs_of.result a.d.terms.prefix a.d.terms.scaler a.share z.result
    a.d.fits.scaler.0 (rw c.run.ensures at c.trimmed_run-y.ensures) c.needs_of.ensures.0 z.ensures.0 c.if-slice_size-share.true

pub trimmed_run-c1-requires : goal.trimmed_run-c1-requires
trimmed_run-c1-requires c = let h = c.requires in rw c.run-2.ensures (run_lies (run_c1 h), h.arranged.c1.area)

pub trimmed_run-c2-requires : goal.trimmed_run-c2-requires
trimmed_run-c2-requires c =
    let h = c.requires in
    rw c.run-3.ensures (run_lies (run_c2 h), h.arranged.c2.area)

pub needs_of-requires-2 : goal.needs_of-requires-2
needs_of-requires-2 c =
    let a = c.args in
    bits_few a.work.now a.d.picture a.k a.q c.requires.arranged _ _ _ (rw c.run.ensures at c.trimmed_run-y.ensures) (rw c.run-2.ensures at c.trimmed_run-c1.ensures) (rw c.run-3.ensures at c.trimmed_run-c2.ensures)

pub returns : goal.returns
returns c =
    let a = c.args in
    fits_by_lem a.work.now a.d.picture a.k a.q c.requires.arranged _ _ _ (rw c.run.ensures at c.trimmed_run-y.ensures) (rw c.run-2.ensures at c.trimmed_run-c1.ensures) (rw c.run-3.ensures at c.trimmed_run-c2.ensures)
    c.needs_of-2.result a.d.terms.prefix a.d.terms.scaler a.share c.slice_size-2.result c.needs_of-2.ensures.0 c.slice_size-2.ensures.0
