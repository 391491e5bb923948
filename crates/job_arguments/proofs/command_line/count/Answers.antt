use Rattle.std.proofs.Common.{ap, Some}
use Rattle.clap.specs.Words.{Rule}
use Rattle.clap.specs.declared.builder.value_parser.ValueParser.TheVariants.{Unsigned}
use Rattle.job_arguments.proofs.command_line.count.Goals as goal

pub returns-clause-rule : goal.returns-clause-rule
returns-clause-rule c =
    let given = c.value_parser.ensures.given in
    rw (c.help.ensures, c.value_parser.ensures.others, given.1, given.2, c.unsigned-parser.ensures)
    (ap (λ (r : Rule). record r { parser = Some (Unsigned 0 c.args.greatest) }) c.option-count.ensures.rule)
