use Rattle.std.proofs.Common.{rules, subst, sym}
use Rattle.std.specs.Io.KnownBytes.{Appends}
use Rattle.std.specs.Prelude.{OnOk}
use Rattle.ipc_model.proofs.Lines.{stop_line_else}
use Rattle.job_command.proofs.SentLines.{sent_then}
use Rattle.job_command.proofs.stop_line.send_read_fault.Goals as goal

pub returns-in_ok-send-in_default : goal.returns-in_ok-send-in_default
returns-in_ok-send-in_default g c =
    let r = c.send_number.result in
    let line = stop_line_else c.args.fault.now c.args.message c.in_default.not-OutOfMemory in
    let sent = sent_then _ _ _ _ _ r c.in_ok-send_fault-in_default.ensures.sent
    (sent_then _ _ _ _ _ r c.in_ok-send-in_default.ensures.sent c.send_number.ensures.sent) in
    record {
      sent = subst (λ text. OnOk r (Appends (g.E.Sink.written c.args.messages.now) (g.E.Sink.written c.send_number.new.messages) text))
          (sym line) sent;
      failures = search rules;
    }
