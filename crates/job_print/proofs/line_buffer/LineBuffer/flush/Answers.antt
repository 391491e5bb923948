use Rattle.std.proofs.lemmas.Result.{err_from_is_err_and}
use Rattle.job_print.proofs.line_buffer.LineBuffer.flush.Goals as goal

pub returns-in_err-send-clause-works : goal.returns-in_err-send-clause-works
returns-in_err-send-clause-works g c =
    let p = err_from_is_err_and c.from_residual.result c.from_residual.ensures.1 in
    rw (p.1, p.2) c.in_err-send.ensures.only
