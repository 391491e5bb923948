use Rattle.std.proofs.Common.{length}
use Rattle.job_explain.proofs.writes.+push_steps.Given as goal

abbrev pub decreases-push_steps : goal.decreases-push_steps
decreases-push_steps l = length l.path.now
