use Rattle.job_command.proofs.SentLines.{counted_then, sent_then}
use Rattle.job_command.proofs.stop.Stop.write_line.Goals as goal

pub returns-clause-line : goal.returns-clause-line
returns-clause-line g c = sent_then _ _ _ _ _ c.end_line.result c.in_ok-send_text.ensures.sent c.end_line.ensures.sent

pub returns-clause-failures : goal.returns-clause-failures
returns-clause-failures g c = counted_then _ _ _ c.end_line.result c.in_ok-send_text.ensures.failures c.end_line.ensures.failures
