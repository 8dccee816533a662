-- `low::put::Put::number` meets its contract.
use native.Mathlib.Omega.{arith}
use mir.Syntax.{w64}
use mir.Facts.{to_z-of_z}
use borrow.Author.Rules.{rules, sfits_of}
use Rattle.picture.specs.Laws.Put.{plain_word, puts_past, puts_one, room_one}
use Rattle.picture.proofs.low.put.Put.number.Goals as goal
use Rattle.picture.proofs.low.put.Put.number.Goals.{then-this-ne0, else-this-ne0}

pub returns-then-self-eq0 : goal.returns-then-self-eq0
returns-then-self-eq0 g c = puts_past _ c.requires.0 c.if-self-eq0.true

pub put_signed-requires : goal.put_signed-requires
put_signed-requires g c =
    let a = c.args in
    let d = c.coefficient-c in
    let e = plain_word a.work.now a.s a.coefs a.base a.y a.x c.forward_size.result d.result (c.requires.1.1 (search rules)) (omega arith) d.ensures.0 c.forward_size.ensures.0 in
    (rw e (room_one a.self.now _ (omega arith) c.requires.0), omega arith)

pub put_sint-requires : goal.put_sint-requires
put_sint-requires g c =
    let z = c.number_at-z in
    rw (to_z-of_z {w = w64} (sfits_of z.type_inv), z.ensures) (room_one c.args.self.now _ (omega arith) c.requires.0)

pub returns : goal.returns
returns g c =
    let a = c.args in
    elim c.if-this-ne0.branch [
      | then-this-ne0 w ↦ (
          let d = w.coefficient-c in
          let e = plain_word a.work.now a.s a.coefs a.base a.y a.x w.forward_size.result d.result (c.requires.1.1 (search rules)) (omega arith) d.ensures.0 w.forward_size.ensures.0 in
          rw (w.self-is, w.out-is) (puts_one _ (omega arith) (rw e at w.put_signed.ensures)))
      | else-this-ne0 w ↦ (
          let z = w.number_at-z in
          rw (w.self-is, w.out-is) (puts_one _ (omega arith) (rw (to_z-of_z {w = w64} (sfits_of z.type_inv), z.ensures) at w.put_sint.ensures)))
    ]
