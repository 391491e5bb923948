use Rattle.std.proofs.Common.{◌≡◌, true}
use Rattle.job_print.proofs.Puts.{puts_never}
use Rattle.job_print.proofs.batch_text.print_head.Goals as goal

pub returns-in-Ok : goal.returns-in-Ok
returns-in-Ok g c =
    let test : c.in-Rows-default-true.pairs ≡ true =
    rw c.in-Rows-default-true.is at c.in-Rows-default-true.pairs-test in
    rw (c.in-Rows-default-true.is, test) (rw (c.as_slice.ensures.value, c.in-Ok.ensures) at c.put.ensures)

pub returns-in-Err : goal.returns-in-Err
returns-in-Err g c = puts_never _ _
