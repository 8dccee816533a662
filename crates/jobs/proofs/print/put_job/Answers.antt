-- `print::put_job` meets its contract.
use mathlib.Core.Path.{◌≡◌, refl, sym, ap, ◌∙◌}
use mathlib.Core.List.{◌++◌}
use lib.ListN.{length, drop}
use Rattle.laws.specs.Code.Laid.{laid}
use Rattle.laws.specs.Laws.Laid.{laid_is, length-laid}
use Rattle.jobs.specs.Job.{job_text}
use Rattle.jobs.proofs.print.put_job.Goals as goal

pub returns : goal.returns
returns c =
    let t = c.args.text.now in
    let e : c.copy_from_slice.new.self ++ drop 4 t ≡ laid t 0 job_text = rw (c.copy_from_slice.ensures.after) (sym (laid_is t 0 job_text c.requires)) in
    record { is = e; next = refl; size = ap length e ∙ length-laid t 0 job_text }
