use Rattle.std.proofs.lemmas.Result.{err_from_is_err_and}
use Rattle.job_print.proofs.streams.Heads.{rows_behind}
use Rattle.job_print.proofs.Puts.{puts_not_more}
use Rattle.job_print.proofs.batch_text.print_batch.Goals as goal

pub returns-in_err-print_head : goal.returns-in_err-print_head
returns-in_err-print_head g c =
    let p = err_from_is_err_and c.from_residual.result c.from_residual.ensures.1 in
    rw (p.1, p.2) (puts_not_more _ _ _ _ _ _ c.in_err-print_head.ensures)

pub returns : goal.returns
returns g c = rows_behind _ _ _ _ _ _ _ _ _ c.print_batch_rows.result c.in_ok-print_head.ensures c.print_batch_rows.ensures
