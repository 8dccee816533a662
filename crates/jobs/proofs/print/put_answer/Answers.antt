-- `print::put_answer` meets its contract: each arm is given that r is its constructor.
use native.Mathlib.Omega.{arith}
use lib.ListN.{length, take}
use lib.Seq.{length-take-le}
use Rattle.jobs.specs.Laws.Print.{length_bytes, accepted_room, refused_laid, accepted_laid}
use Rattle.jobs.proofs.print.put_answer.Goals as goal

pub returns-in-Err : goal.returns-in-Err
returns-in-Err c =
    let g = c.in-Err in
    let v = c.put_value.ensures in
    (refused_laid g.e c.args.out.now g.is (rw c.number.ensures at v.0), omega (arith, v.1, v.0.size, c.requires.1))

pub returns-in-Ok : goal.returns-in-Ok
returns-in-Ok c =
    let g = c.in-Ok in
    let p = c.put_coded.ensures in
    let q = c.put_bytes.ensures in
    let h = accepted_room g.c (length c.args.out.now) (length c.args.text.now) g.is c.requires in
    let bs = take g.c.written c.args.out.now in
    (accepted_laid g.c c.args.out.now g.is p.0 q, omega (arith, h.1, p.1, p.0.size, q.next, q.size, length_bytes bs, length-take-le g.c.written c.args.out.now h.0))
