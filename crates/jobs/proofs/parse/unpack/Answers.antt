use mathlib.Core.Path.{◌∙◌}
use Prim.Native.Nat.{◌/◌}
use lib.ListN.{length}
use Rattle.laws.specs.Laws.Laid.{lays_start}
use Rattle.jobs.specs.Job.{words_of}
use Rattle.jobs.specs.Laws.Parse.{fill-next, fill_all, words_count, words_at_lem}
use native.Mathlib.Omega.{arith}
use Rattle.jobs.proofs.parse.unpack.Goals as goal

pub loop-i-init : goal.loop-i-init
loop-i-init c = lays_start c.args.words.now 0

pub loop-i-preserved : goal.loop-i-preserved
loop-i-preserved c =
    let bs = c.args.bytes.now in
    let l = c.loop-i in
    let t = c.loop-i-test.true in
    fill-next (words_of bs) l.i c.word_at.result 0 (rw (words_count bs) t) (c.word_at.ensures ∙ words_at_lem bs l.i t) l.invariant

pub returns : goal.returns
returns c =
    let bs = c.args.bytes.now in
    let l = c.loop-i in
    fill_all (words_of bs) l.i (length bs / 4) (words_count bs) (omega (arith, l.auto.i-end, c.loop-i-test.false)) l.invariant
