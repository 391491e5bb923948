use Rattle.std.proofs.Common.{refl}
use Rattle.job_print.proofs.streams.Expected.{other_prints, other_reports}
use Rattle.job_print.proofs.printing.print_open.Goals as goal

pub returns-in-Err-clause-prints : goal.returns-in-Err-clause-prints
returns-in-Err-clause-prints g c =
    other_prints _ c.args.options _ _ refl c.in-Err.why (rw c.schema.ensures at c.in-Err.ensures.other)

pub returns-in-Err-clause-reports : goal.returns-in-Err-clause-reports
returns-in-Err-clause-reports g c = λ limits start o.
    other_reports _ _ start _ _ o c.in-Err.why (rw c.schema.ensures at c.in-Err.ensures.other)
