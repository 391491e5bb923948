use Rattle.std.proofs.lemmas.Result.{IfOk-weaker}
use Rattle.job_arguments.proofs.LineWords.{added_subcommand}
use Rattle.job_arguments.proofs.command_line.command.Goals as goal

pub returns : goal.returns
returns c =
    let one = added_subcommand _ _ _ _ _ c.program.ensures c.in_ok-check.ensures c.in_ok-command.ensures in
    let two = added_subcommand _ _ _ _ _ one c.in_ok-show.ensures c.in_ok-command-2.ensures in
    let three = added_subcommand _ _ _ _ _ two c.in_ok-to_csv.ensures c.in_ok-command-3.ensures in
    let four = added_subcommand _ _ _ _ _ three c.in_ok-from_csv.ensures c.in_ok-command-4.ensures in
    IfOk-weaker c.subcommand-5.result _ _ (λ r h. added_subcommand _ _ _ _ _ four c.in_ok-rewrite.ensures h) c.subcommand-5.ensures
