use Rattle.std.proofs.Common.{◌∷◌, [], ◌++◌, ◌∙◌, append_assoc, ap, sym, ℕ, List}
use Rattle.std.proofs.KnownBytes.{Appends-trans}
use Rattle.job_command.specs.Lines.{labelled, stop_text}
use Rattle.job_command.proofs.SentLines.{sent_as, sent_then}
use Rattle.job_command.proofs.running.write_stop.Goals as goal

pub returns-clause-prints : goal.returns-clause-prints
returns-clause-prints g c =
    let label = c.args.label.now in
    let line = stop_text c.args.stop.now in
    let more = labelled label c.args.lines.now in
    sent_as _ _ _ _ c.send_labelled.result
    (sym (append_assoc (label ++ line) (10 ∷ []) more) ∙ ap (λ (l : List ℕ). l ++ more) (append_assoc label line (10 ∷ [])))
    (sent_then _ _ _ _ _ c.send_labelled.result
    (Appends-trans _ _ _ _ _ c.in_ok-send.ensures.sent c.in_ok-write_line.ensures.line) c.send_labelled.ensures.sent)
