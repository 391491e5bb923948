use Rattle.ipc_stream_read.proofs.Readers.{all_held}
use Rattle.ipc_stream_read.proofs.Reporting.{some_of_all}
use Rattle.job_rewrite.proofs.Bytes.{within_finished, within_left, within_unfinished}
use Rattle.job_rewrite.proofs.Whole.{batches_broken, end_refused, table_copied}
use Rattle.job_rewrite.proofs.copying.copy_stream.Goals as goal

pub returns-in-Ok-finish-clause-rewrites : goal.returns-in-Ok-finish-clause-rewrites
returns-in-Ok-finish-clause-rewrites g c = λ limits start written failures o started.
    table_copied c.args.options start _ _ _ _ _ _ o started _ _ _ _ c.in-Ok.ensures.copies c.in-Ok-finish.ensures.finished.sent

pub returns-in-Err-finish-clause-rewrites : goal.returns-in-Err-finish-clause-rewrites
returns-in-Err-finish-clause-rewrites g c = λ limits start written failures o started.
    let copies = c.in-Ok.ensures.copies in
    end_refused c.args.options start _ _ _ _ _ _ o started _ copies.0 _ _ _ c.in-Ok.ensures.works copies.1
    c.in-Err-finish.ensures.refused

pub returns-in-Err-clause-rewrites : goal.returns-in-Err-clause-rewrites
returns-in-Err-clause-rewrites g c = λ limits start written failures o started.
    batches_broken c.args.options start _ _ _ _ _ _ o started _ _ _ c.in-Err.stop c.into_inner.ensures.written
    c.into_inner.ensures.failures c.in-Err.ensures.copies

pub returns-in-Ok-finish-clause-within : goal.returns-in-Ok-finish-clause-within
returns-in-Ok-finish-clause-within g c = λ written failures started.
    within_finished _ _ _ _ _ _ _ (g.O.Output.writer c.copy_batches.new.output) started
    c.in-Ok.ensures.within _ _ _ c.in-Ok-finish.ensures.finished

pub returns-in-Err-finish-clause-within : goal.returns-in-Err-finish-clause-within
returns-in-Err-finish-clause-within g c = λ written failures started.
    within_unfinished _ _ _ _ _ _ _ (g.O.Output.writer c.copy_batches.new.output) started
    c.in-Ok.ensures.within _ _ _ c.in-Err-finish.ensures.refused

pub returns-in-Err-clause-within : goal.returns-in-Err-clause-within
returns-in-Err-clause-within g c = λ written failures started.
    within_left _ _ _ _ _ _ _ (g.O.Output.writer c.copy_batches.new.output) started
    c.in-Err.ensures.within _ c.into_inner.ensures.written

pub returns-in-Err-finish-clause-reports : goal.returns-in-Err-finish-clause-reports
returns-in-Err-finish-clause-reports g c = λ limits start o. some_of_all start _ _ _ (c.in-Ok.ensures.reports limits start o)

pub returns-in-Err-finish-clause-held : goal.returns-in-Err-finish-clause-held
returns-in-Err-finish-clause-held g c = λ limits start h. all_held _ _ _ (λ bad. absurd bad) (c.in-Ok.ensures.held limits start h)
