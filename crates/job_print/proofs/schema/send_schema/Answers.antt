use Rattle.std.proofs.lemmas.Result.{err_from_is_err_and}
use Rattle.job_print.proofs.FrontPuts.{then_sent}
use Rattle.job_print.proofs.Puts.{puts_never}
use Rattle.job_print.proofs.schema.send_schema.Goals as goal

pub returns-in_err-lines-clause-puts : goal.returns-in_err-lines-clause-puts
returns-in_err-lines-clause-puts g c =
    let p = err_from_is_err_and c.from_residual.result c.from_residual.ensures.1 in
    rw (p.1, p.2) (puts_never _ _)

pub returns-clause-puts : goal.returns-clause-puts
returns-clause-puts g c =
    then_sent _ _ _ _ _ _ c.flush.result (rw c.in_ok-lines.ensures at c.in_ok-print_front.ensures.puts) c.flush.ensures.puts
