use Rattle.std.proofs.Common.{ap, true}
use Rattle.clap.specs.Words.{Rule}
use Rattle.job_arguments.proofs.command_line.schema.Goals as goal

pub returns-clause-rule : goal.returns-clause-rule
returns-clause-rule c =
    rw (c.help.ensures, c.required-schema.ensures) (ap (λ (r : Rule). record r { required = true }) c.option.ensures.rule)
