use Rattle.std.proofs.lemmas.Result.{err_from_is_err_and}
use Rattle.job_print.proofs.FrontPuts.{then_sent}
use Rattle.job_print.proofs.Puts.{puts_kept, puts_never}
use Rattle.job_print.proofs.line_buffer.LineBuffer.put.Goals as goal

pub returns-in_err-reserve : goal.returns-in_err-reserve
returns-in_err-reserve g c =
    let p = err_from_is_err_and c.from_residual.result c.from_residual.ensures.1 in
    rw (p.1, p.2) (puts_never _ _)

pub returns : goal.returns
returns g c =
    then_sent _ _ _ _ _ c.args.text.now c.send_full.result
    (puts_kept _ _ _ _ _ (rw (c.reserve.ensures.text, c.self.view_is) at c.put.ensures.text)) c.send_full.ensures
