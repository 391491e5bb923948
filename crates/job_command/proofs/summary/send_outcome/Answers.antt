use Rattle.std.proofs.Common.{ap}
use Rattle.std.proofs.KnownBytes.{Appends-trans}
use Rattle.job_command.specs.Summaries.{fault_json}
use Rattle.job_command.proofs.SentLines.{sent_as, sent_then}
use Rattle.job_command.proofs.summary.send_outcome.Goals as goal

pub returns-clause-sent : goal.returns-clause-sent
returns-clause-sent g c = sent_as _ _ _ _ c.send-3.result (ap fault_json c.in-Err.is)
    (sent_then _ _ _ _ _ c.send-3.result (Appends-trans _ _ _ _ _ c.in_ok-send.ensures.sent c.in_ok-send_text.ensures.sent)
    c.send-3.ensures.sent)
