use Rattle.std.proofs.Common.{rules, ◌≡◌, Some}
use Rattle.std.proofs.lemmas.Result.{IfOk-weaker}
use Rattle.clap.specs.Words.{found_of, rows_of, subcommand_rows_of}
use Rattle.job_arguments.proofs.arguments.invocation_of.Goals as goal

pub returns-in-Some-clause-asked : goal.returns-in-Some-clause-asked
returns-in-Some-clause-asked c =
    let found : subcommand_rows_of c.args.words.now ≡ Some (c.in-Some.name.now, rows_of (found_of c.in-Some.options.now)) = search rules in
    IfOk-weaker c.read_invocation.result _ _
    (λ asked h. (c.in-Some.name.now, rows_of (found_of c.in-Some.options.now), found, h)) c.read_invocation.ensures.asked
