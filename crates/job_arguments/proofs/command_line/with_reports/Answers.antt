use Rattle.std.proofs.Common.{◌∙◌, ap}
use Rattle.std.proofs.lemmas.Result.{IfOk-weaker}
use Rattle.job_arguments.specs.CommandLine.{with_messages}
use Rattle.job_arguments.proofs.LineWords.{added_arg}
use Rattle.job_arguments.proofs.command_line.with_reports.Goals as goal

pub returns : goal.returns
returns c =
    let one = added_arg _ _ _ _ _ c.requires c.flag.ensures.rule c.flag.ensures.own c.in_ok-command.ensures in
    let two = added_arg _ _ _ _ _ one c.flag-2.ensures.rule c.flag-2.ensures.own c.in_ok-command-2.ensures in
    let messages = c.in_ok-with_messages.ensures in
    IfOk-weaker c.arg-3.result _ _
    (λ r h. added_arg _ _ _ _ _ (messages.0 ∙ ap with_messages two.0, messages.1) c.flag-3.ensures.rule c.flag-3.ensures.own h)
    c.arg-3.ensures
