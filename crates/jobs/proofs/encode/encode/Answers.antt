-- `encode::encode` meets its contract.
use Prim.Native.Nat.{◌-◌}
use lib.ListN.{take, drop}
use Rattle.jobs.specs.Laws.Job.{lent-to_end}
use Rattle.jobs.proofs.encode.encode.Goals as goal

pub returns : goal.returns
returns c =
    let a = c.args in
    let l = a.samples.now in
    lent-to_end (take a.y l) (take (a.c1 - a.y) (drop a.y l)) l a.c1 c.encode_picture.ensures
