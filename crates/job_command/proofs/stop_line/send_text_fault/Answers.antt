use Rattle.std.proofs.Common.{ap}
use Rattle.std.proofs.KnownBytes.{Appends-trans}
use Rattle.ipc_text_temporal.specs.FaultLines.{text_fault_line}
use Rattle.job_command.proofs.SentLines.{sent_as, sent_then}
use Rattle.job_command.proofs.stop_line.send_text_fault.Goals as goal

pub returns-in_ok-send-in-NoTextForm-clause-sent : goal.returns-in_ok-send-in-NoTextForm-clause-sent
returns-in_ok-send-in-NoTextForm-clause-sent g c =
    let r = c.send_number.result in
    let sent = sent_then _ _ _ _ _ r c.in_ok-send-in-NoTextForm.ensures.sent c.send_number.ensures.sent in
    sent_as _ _ _ _ r (ap text_fault_line c.in-NoTextForm.is) sent

pub returns-in_ok-send-in-BadField-2-clause-sent : goal.returns-in_ok-send-in-BadField-2-clause-sent
returns-in_ok-send-in-BadField-2-clause-sent g c =
    let r = c.send_number-in-BadField-2.result in
    let two = Appends-trans _ _ _ _ _ c.in_ok-send-in-BadField.ensures.sent c.in_ok-send_number-in-BadField.ensures.sent in
    let three = Appends-trans _ _ _ _ _ two c.in_ok-send-in-BadField-2.ensures.sent in
    sent_as _ _ _ _ r (ap text_fault_line c.in-BadField.is) (sent_then _ _ _ _ _ r three c.send_number-in-BadField-2.ensures.sent)

pub returns-in_ok-send-in-WrongFieldCount-clause-sent : goal.returns-in_ok-send-in-WrongFieldCount-clause-sent
returns-in_ok-send-in-WrongFieldCount-clause-sent g c =
    let r = c.send_number-in-WrongFieldCount.result in
    let sent = sent_then _ _ _ _ _ r c.in_ok-send-in-WrongFieldCount.ensures.sent c.send_number-in-WrongFieldCount.ensures.sent in
    sent_as _ _ _ _ r (ap text_fault_line c.in-WrongFieldCount.is) sent

pub returns-in-BadSchemaJson-clause-sent : goal.returns-in-BadSchemaJson-clause-sent
returns-in-BadSchemaJson-clause-sent g c =
    sent_as _ _ _ _ c.send-in-BadSchemaJson.result (ap text_fault_line c.in-BadSchemaJson.is) c.send-in-BadSchemaJson.ensures.sent
