use Rattle.job_arguments.proofs.LineWords.{wrong_for}
use Rattle.job_arguments.proofs.arguments.read_limits.Goals as goal

pub returns-in-None-clause-refused : goal.returns-in-None-clause-refused
returns-in-None-clause-refused c = wrong_for _ c.wrong.ensures (c.limits_of.ensures.none c.in-None.is)
