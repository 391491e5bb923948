use Rattle.job_explain.proofs.Joined.{appended}
use Rattle.job_explain.proofs.schemas.push_error.Goals as goal

pub returns-in_ok-extend_from_slice-in-BadNesting-2 : goal.returns-in_ok-extend_from_slice-in-BadNesting-2
returns-in_ok-extend_from_slice-in-BadNesting-2 c = rw c.in-BadNesting.is (appended _ _ _ _ _
    c.in_ok-extend_from_slice-in-BadNesting.ensures.items c.in_ok-extend_from_slice-in-BadNesting-2.ensures.items)
