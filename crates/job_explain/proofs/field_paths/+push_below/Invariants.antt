use Rattle.job_explain.proofs.field_paths.+push_below.Given as goal

abbrev pub decreases-push_below : goal.decreases-push_below
decreases-push_below l = l.depth
