use Rattle.std.proofs.Common.{ap, Some}
use Rattle.clap.specs.Words.{Rule}
use Rattle.clap.specs.declared.builder.action.ArgAction.TheVariants.{Set}
use Rattle.job_arguments.proofs.command_line.option.Goals as goal

pub returns-clause-rule : goal.returns-clause-rule
returns-clause-rule c = rw (c.action.ensures, c.value_name.ensures, c.long-option.ensures)
    (ap (λ (r : Rule). record r { long = Some c.args.name.now; action = Some Set; value_names = 1 }) c.new.ensures.rule)
