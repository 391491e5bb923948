use Rattle.std.proofs.Common.{◌∙◌, ◌++◌, ap₂, codes, rules, subst, sym}
use Rattle.std.specs.Io.KnownBytes.{Appends}
use Rattle.std.specs.Prelude.{OnOk}
use Rattle.ipc_model.specs.Texts.{label, place_text}
use Rattle.job_command.proofs.SentLines.{sent_then, write_line_else}
use Rattle.job_command.proofs.stop_line.send_write_fault.Goals as goal

pub returns-in_ok-send_label-in_default : goal.returns-in_ok-send_label-in_default
returns-in_ok-send_label-in_default g c =
    let r = c.send_place.result in
    let fault = c.args.fault.now in
    let line = ap₂ (λ number name. label (codes "W") number name ++ place_text fault) c.number.ensures c.name.ensures
    ∙ sym (write_line_else fault c.in_default.not-OutOfMemory) in
    let sent = sent_then _ _ _ _ _ r c.in_ok-send_label-in_default.ensures.sent c.send_place.ensures.sent in
    record {
      sent = subst (λ text. OnOk r (Appends (g.E.Sink.written c.args.messages.now) (g.E.Sink.written c.send_place.new.messages) text)) line
          sent;
      failures = search rules;
    }
