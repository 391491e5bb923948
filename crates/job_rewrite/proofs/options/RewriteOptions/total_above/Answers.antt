use Rattle.job_rewrite.proofs.Totals.{above_batches, above_rows, within_both}
use Rattle.job_rewrite.proofs.options.RewriteOptions.total_above.Goals as goal

pub returns-then-is_above-clause-above : goal.returns-then-is_above-clause-above
returns-then-is_above-clause-above c = λ done last batches rows more within.
    above_batches c.args.self done last _ more (c.is_above.ensures.above _ batches within.batches_within c.if-is_above.true)

pub returns-then-is_above-2-clause-above : goal.returns-then-is_above-2-clause-above
returns-then-is_above-2-clause-above c = λ done last batches rows more within.
    above_rows c.args.self done last _ more (c.is_above-2.ensures.above _ rows within.rows_within c.if-is_above-2.true)

pub returns-clause-within : goal.returns-clause-within
returns-clause-within c = λ none done last batches rows more within.
    within_both c.args.self done last _ more (c.is_above.ensures.within _ batches within.batches_within c.if-is_above.false)
    (c.is_above-2.ensures.within _ rows within.rows_within c.if-is_above-2.false)
