use Rattle.job_expect.proofs.Same.{SameBefore}
use Rattle.job_expect.proofs.+difference.Given as goal

abbrev pub invariant-loop-number : goal.invariant-loop-number
invariant-loop-number l = SameBefore l.number l.expected l.found
