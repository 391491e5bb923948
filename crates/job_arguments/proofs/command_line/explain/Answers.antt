use Rattle.job_arguments.proofs.command_line.explain.Goals as goal

pub returns-clause-rule : goal.returns-clause-rule
returns-clause-rule c = c.flag.ensures.rule
