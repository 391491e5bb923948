use Rattle.std.proofs.Common.{ap}
use Rattle.job_command.specs.Lines.{stop_text}
use Rattle.job_command.proofs.SentLines.{sent_as}
use Rattle.job_command.proofs.stop.Stop.send_text.Goals as goal

pub returns-in-Read-clause-sent : goal.returns-in-Read-clause-sent
returns-in-Read-clause-sent g c = sent_as _ _ _ _ c.send_read_fault.result (ap stop_text c.in-Read.is) c.send_read_fault.ensures.sent

pub returns-in-Input-clause-sent : goal.returns-in-Input-clause-sent
returns-in-Input-clause-sent g c = sent_as _ _ _ _ c.send_fault.result (ap stop_text c.in-Input.is) c.send_fault.ensures.sent

pub returns-in-Schema-clause-sent : goal.returns-in-Schema-clause-sent
returns-in-Schema-clause-sent g c = sent_as _ _ _ _ c.send.result (ap stop_text c.in-Schema.is) c.send.ensures.sent

pub returns-in-Write-clause-sent : goal.returns-in-Write-clause-sent
returns-in-Write-clause-sent g c = sent_as _ _ _ _ c.send_write_fault.result (ap stop_text c.in-Write.is) c.send_write_fault.ensures.sent

pub returns-in-Above-clause-sent : goal.returns-in-Above-clause-sent
returns-in-Above-clause-sent g c = sent_as _ _ _ _ c.send_above.result (ap stop_text c.in-Above.is) c.send_above.ensures.sent

pub returns-in-NoRoom-clause-sent : goal.returns-in-NoRoom-clause-sent
returns-in-NoRoom-clause-sent g c = sent_as _ _ _ _ c.send-in-NoRoom.result (ap stop_text c.in-NoRoom.is) c.send-in-NoRoom.ensures.sent

pub returns-in-Held-clause-sent : goal.returns-in-Held-clause-sent
returns-in-Held-clause-sent g c = sent_as _ _ _ _ c.send_held.result (ap stop_text c.in-Held.is) c.send_held.ensures.sent

pub returns-in-OtherSchema-clause-sent : goal.returns-in-OtherSchema-clause-sent
returns-in-OtherSchema-clause-sent g c =
    sent_as _ _ _ _ c.send_other_schema.result (ap stop_text c.in-OtherSchema.is)
    (rw c.deref.ensures.value at c.send_other_schema.ensures.sent)

pub returns-in-Rows-clause-sent : goal.returns-in-Rows-clause-sent
returns-in-Rows-clause-sent g c =
    sent_as _ _ _ _ c.send_write_fault-in-Rows.result (ap stop_text c.in-Rows.is) c.send_write_fault-in-Rows.ensures.sent

pub returns-in-Text-clause-sent : goal.returns-in-Text-clause-sent
returns-in-Text-clause-sent g c = sent_as _ _ _ _ c.send_text_fault.result (ap stop_text c.in-Text.is) c.send_text_fault.ensures.sent

pub returns-in-SchemaText-clause-sent : goal.returns-in-SchemaText-clause-sent
returns-in-SchemaText-clause-sent g c =
    sent_as _ _ _ _ c.send_text_fault-in-SchemaText.result (ap stop_text c.in-SchemaText.is)
    c.send_text_fault-in-SchemaText.ensures.sent

pub returns-in-Record-clause-sent : goal.returns-in-Record-clause-sent
returns-in-Record-clause-sent g c =
    sent_as _ _ _ _ c.send_text_fault-in-Record.result (ap stop_text c.in-Record.is) c.send_text_fault-in-Record.ensures.sent
