use Rattle.std.proofs.lemmas.Result.{err_from_is_err_and}
use Rattle.job_print.proofs.Puts.{puts_never}
use Rattle.job_print.proofs.printing.print_tail.Goals as goal

pub returns-in_err-line-in-Counts-clause-puts : goal.returns-in_err-line-in-Counts-clause-puts
returns-in_err-line-in-Counts-clause-puts g c =
    let p = err_from_is_err_and c.from_residual.result c.from_residual.ensures.1 in
    rw (p.1, p.2) (puts_never _ _)
