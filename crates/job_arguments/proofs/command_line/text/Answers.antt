use Rattle.std.proofs.Common.{ap, [], ◌∷◌}
use Rattle.clap.specs.Words.{Rule}
use Rattle.job_arguments.proofs.command_line.text.Goals as goal

pub returns-clause-rule : goal.returns-clause-rule
returns-clause-rule c = rw (c.help.ensures, c.default_value.ensures)
    (ap (λ (r : Rule). record r { defaults = c.args.usual.now ∷ [] }) c.option.ensures.rule)
