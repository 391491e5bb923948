use Rattle.std.proofs.Common.{ap}
use Rattle.job_command.specs.Lines.{above_text}
use Rattle.job_command.proofs.SentLines.{sent_as, sent_then}
use Rattle.job_command.proofs.stop_line.send_above.Goals as goal

pub returns-in_ok-send-in-Batches-clause-sent : goal.returns-in_ok-send-in-Batches-clause-sent
returns-in_ok-send-in-Batches-clause-sent g c =
    let r = c.send_number.result in
    sent_as _ _ _ _ r (ap (λ t. above_text t c.args.number) c.in-Batches.is)
    (sent_then _ _ _ _ _ r c.in_ok-send-in-Batches.ensures.sent c.send_number.ensures.sent)

pub returns-in_ok-send-in-Rows-clause-sent : goal.returns-in_ok-send-in-Rows-clause-sent
returns-in_ok-send-in-Rows-clause-sent g c =
    let r = c.send_number-in-Rows.result in
    sent_as _ _ _ _ r (ap (λ t. above_text t c.args.number) c.in-Rows.is)
    (sent_then _ _ _ _ _ r c.in_ok-send-in-Rows.ensures.sent c.send_number-in-Rows.ensures.sent)

pub returns-in_ok-send-in-Bytes-clause-sent : goal.returns-in_ok-send-in-Bytes-clause-sent
returns-in_ok-send-in-Bytes-clause-sent g c =
    let r = c.send_number-in-Bytes.result in
    sent_as _ _ _ _ r (ap (λ t. above_text t c.args.number) c.in-Bytes.is)
    (sent_then _ _ _ _ _ r c.in_ok-send-in-Bytes.ensures.sent c.send_number-in-Bytes.ensures.sent)
