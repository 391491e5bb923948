use Rattle.job_print.proofs.Puts.{puts_never}
use Rattle.job_print.proofs.printing.print_front.Goals as goal

pub returns-in-Err : goal.returns-in-Err
returns-in-Err g c = record { puts = puts_never _ _ }

pub returns-in-Err-csv_header : goal.returns-in-Err-csv_header
returns-in-Err-csv_header g c = record { puts = puts_never _ _ }
