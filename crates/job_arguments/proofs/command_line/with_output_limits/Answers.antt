use Rattle.std.proofs.lemmas.Result.{IfOk-weaker}
use Rattle.job_arguments.proofs.LineWords.{added_arg}
use Rattle.job_arguments.proofs.command_line.with_output_limits.Goals as goal

pub returns : goal.returns
returns c =
    let one = added_arg _ _ _ _ _ c.requires c.count.ensures.rule c.count.ensures.own c.in_ok-arg.ensures in
    let two = added_arg _ _ _ _ _ one c.count-2.ensures.rule c.count-2.ensures.own c.in_ok-arg-2.ensures in
    let three = added_arg _ _ _ _ _ two c.count-3.ensures.rule c.count-3.ensures.own c.in_ok-arg-3.ensures in
    IfOk-weaker c.arg-4.result _ _ (λ r h. added_arg _ _ _ _ _ three c.count-4.ensures.rule c.count-4.ensures.own h) c.arg-4.ensures
