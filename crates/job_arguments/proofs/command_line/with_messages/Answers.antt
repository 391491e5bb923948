use Rattle.std.proofs.lemmas.Result.{IfOk-weaker}
use Rattle.job_arguments.proofs.LineWords.{added_arg}
use Rattle.job_arguments.proofs.command_line.with_messages.Goals as goal

pub returns : goal.returns
returns c =
    let one = added_arg _ _ _ _ _ c.requires c.explain.ensures.rule c.explain.ensures.own c.in_ok-arg.ensures in
    let two = added_arg _ _ _ _ _ one c.label.ensures.rule c.label.ensures.own c.in_ok-command.ensures in
    IfOk-weaker c.arg-3.result _ _ (λ r h. added_arg _ _ _ _ _ two c.flag.ensures.rule c.flag.ensures.own h) c.arg-3.ensures
