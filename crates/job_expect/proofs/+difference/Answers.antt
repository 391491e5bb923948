use Rattle.std.proofs.Common.{arith}
use Rattle.job_expect.proofs.Same.{all_same}
use Rattle.job_expect.proofs.+difference.Goals as goal

pub returns : goal.returns
returns t c = all_same _ _ c.loop-number.number c.loop-number.invariant (omega arith) (omega arith)
