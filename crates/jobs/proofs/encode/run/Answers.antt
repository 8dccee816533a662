-- `encode::run` meets its contract.
use mathlib.Core.Path.{sym}
use mathlib.Core.List.{List}
use Prim.Native.Nat.{ℕ, ◌≤◌}
use native.Mathlib.Omega.{arith}
use lib.ListN.{length, take}
use lib.Seq.{length-take-le}
use Rattle.laws.specs.Code.Laid.{Lays}
use Rattle.jobs.specs.Job.{words_of}
use Rattle.jobs.specs.Laws.Print.{lays_read}
use Rattle.jobs.specs.Laws.Parse.{words_count}
use Rattle.jobs.specs.Laws.Job.{whole-read, odd-read}
use Rattle.jobs.proofs.encode.run.Goals as goal
use Rattle.jobs.proofs.encode.run.Goals.{Start}

-- there is room for the words
few : (st : Start) {ws : List ℕ} {n : ℕ} → Lays st.args.words.now 0 (words_of st.args.bytes.now) ws n → n ≤ length ws
few st p = omega (arith, p.next, p.size, words_count st.args.bytes.now, st.requires.0)

pub returns-then-bytes-ne0 : goal.returns-then-bytes-ne0
returns-then-bytes-ne0 c =
    let a = c.args in
    let j = c.put_job in
    let p = j.ensures in
    let room = c.requires.1.1.1.1 in
    (odd-read a.bytes.now a.out.now a.work.now a.text.now j.new.text j.result c.if-bytes-ne0.true p (omega (arith, room)), omega (arith, p.next, p.size, room))

pub slice_bounds-run_words-end : goal.slice_bounds-run_words-end
slice_bounds-run_words-end c = few (goal.at.slice_bounds-run_words-end c).Start c.unpack-n.ensures

pub slice_bounds-run_words-end-2 : goal.slice_bounds-run_words-end-2
slice_bounds-run_words-end-2 c =
    let u = c.unpack-n in
    sym (length-take-le u.result u.new.words (few (goal.at.slice_bounds-run_words-end-2 c).Start u.ensures))

pub returns : goal.returns
returns c =
    let a = c.args in
    let u = c.unpack-n in
    let r = c.run_words in
    let e = lays_read a.words.now (words_of a.bytes.now) u.new.words u.result u.ensures (omega (arith, words_count a.bytes.now, c.requires.0)) in
    (whole-read a.bytes.now a.out.now a.work.now (take u.result u.new.words) a.text.now r.new.text r.result c.if-bytes-ne0.false e r.ensures.0 r.ensures.1, r.ensures.1)
