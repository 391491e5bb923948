use Rattle.std.proofs.KnownBytes.{Appends-trans}
use Rattle.job_command.proofs.SentLines.{sent_then}
use Rattle.job_command.proofs.summary.send_summary.Goals as goal

pub returns-clause-sent : goal.returns-clause-sent
returns-clause-sent g c =
    let job = Appends-trans _ _ _ _ _ c.in_ok-send-2.ensures.sent c.in_ok-send-3.ensures.sent in
    let quoted = Appends-trans _ _ _ _ _ job c.in_ok-send-4.ensures.sent in
    let status = Appends-trans _ _ _ _ _ quoted c.in_ok-send_member.ensures.sent in
    let name = Appends-trans _ _ _ _ _ status c.in_ok-send-5.ensures.sent in
    let fault = Appends-trans _ _ _ _ _ name c.in_ok-send_outcome.ensures.sent in
    let message = Appends-trans _ _ _ _ _ fault (rw c.message_of.ensures at c.in_ok-send_member-2.ensures.sent) in
    let batches = Appends-trans _ _ _ _ _ message c.in_ok-send_member-3.ensures.sent in
    let rows = Appends-trans _ _ _ _ _ batches c.in_ok-send_member-4.ensures.sent in
    let bytes_in = Appends-trans _ _ _ _ _ rows c.in_ok-send_member-5.ensures.sent in
    let bytes_out = Appends-trans _ _ _ _ _ bytes_in c.in_ok-send_member-6.ensures.sent in
    let whole = Appends-trans _ _ _ _ _ bytes_out c.in_ok-send-6.ensures.sent in
    sent_then _ _ _ _ _ c.end_line.result (Appends-trans _ _ _ _ _ c.in_ok-send.ensures.sent whole) c.end_line.ensures.sent
