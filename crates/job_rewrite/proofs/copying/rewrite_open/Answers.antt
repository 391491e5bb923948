use Rattle.job_rewrite.proofs.Expected.{other_reports, other_rewrites}
use Rattle.job_rewrite.proofs.copying.rewrite_open.Goals as goal

pub returns-in-Err-clause-rewrites : goal.returns-in-Err-clause-rewrites
returns-in-Err-clause-rewrites g c = λ limits start o.
    other_rewrites _ c.args.options start _ _ _ o c.in-Err.why (rw c.schema.ensures at c.in-Err.ensures.other)

pub returns-in-Err-clause-reports : goal.returns-in-Err-clause-reports
returns-in-Err-clause-reports g c = λ limits start o.
    other_reports _ _ start _ _ o c.in-Err.why (rw c.schema.ensures at c.in-Err.ensures.other)
