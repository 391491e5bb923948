use Rattle.std.proofs.Common.{[], ◌∙◌, arith, ap}
use Rattle.std.proofs.KnownBytes.{Appends-nil}
use Rattle.std.proofs.lemmas.Bool.Decides.{nat_tests}
use Rattle.job_command.specs.Lines.{labelled}
use Rattle.job_command.proofs.SentLines.{next_labelled}
use Rattle.job_command.proofs.stop_line.send_labelled.Goals as goal
use Rattle.job_command.proofs.stop_line.send_labelled.Goals.{then-before-eq10+in_ok-send, else-before-eq10}

pub loop-byte-preserved : goal.loop-byte-preserved
loop-byte-preserved g c =
    let now = c.loop-byte.invariant in
    let label = c.args.label.now in
    let lines = c.args.lines.now in
    let i = c.loop-byte.byte-index in
    let next = c.in_ok-send_all.ensures in
    elim c.if-before-eq10.branch [
      | then-before-eq10+in_ok-send w ↦
          let sent = next_labelled _ _ _ _ (labelled label lines) label label lines c.loop-byte.before i (omega arith)
          (grind (arith, nat_tests)) w.in_ok-send.ensures.sent
          (rw w.messages-is at next.sent) (now.0, now.1, now.2) in
          (sent.0, sent.1, sent.2, next.failures ∙ ap (λ m. g.E.Sink.failures m) w.messages-is ∙ w.in_ok-send.ensures.failures ∙ now.3)
      | else-before-eq10 w ↦
          let sent = next_labelled _ _ _ _ (labelled label lines) label [] lines c.loop-byte.before i (omega arith)
          (grind (arith, nat_tests)) (Appends-nil (g.E.Sink.written c.loop-byte.messages))
          (rw w.messages-is at next.sent) (now.0, now.1, now.2) in
          (sent.0, sent.1, sent.2, next.failures ∙ ap (λ m. g.E.Sink.failures m) w.messages-is ∙ now.3)
    ]
