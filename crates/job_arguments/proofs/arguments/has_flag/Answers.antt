use Rattle.job_arguments.proofs.LineWords.{flag_is}
use Rattle.job_arguments.proofs.arguments.has_flag.Goals as goal

pub returns : goal.returns
returns c = flag_is _ _ _ _ _ c.unwrap_or.ensures c.get_one.ensures.none c.get_one.ensures.value
