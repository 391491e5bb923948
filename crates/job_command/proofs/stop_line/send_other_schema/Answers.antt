use Rattle.job_command.proofs.SentLines.{sent_then}
use Rattle.job_command.proofs.stop_line.send_other_schema.Goals as goal

pub returns-clause-sent : goal.returns-clause-sent
returns-clause-sent g c =
    sent_then _ _ _ _ _ c.send_field_path.result c.in_ok-send.ensures.sent c.send_field_path.ensures.sent
