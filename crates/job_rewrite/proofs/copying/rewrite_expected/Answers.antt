use Rattle.ipc_stream_read.proofs.Readers.{still_held}
use Rattle.ipc_stream_read.proofs.Reporting.{opened_some}
use Rattle.job_rewrite.proofs.Whole.{none_reported, not_begun, not_begun_held, schema_refused}
use Rattle.job_rewrite.proofs.copying.rewrite_expected.Goals as goal

pub returns-in-Ok-clause-rewrites : goal.returns-in-Ok-clause-rewrites
returns-in-Ok-clause-rewrites g c = λ limits start o.
    let begun = rw (c.sent_limits-limits.ensures.sent, c.limits.ensures, c.schema.ensures) at c.in-Ok.ensures.started in
    c.copy_stream.ensures.rewrites limits start _ _ o (begun, rw c.in_default.is tt)

pub returns-in-Err-clause-rewrites : goal.returns-in-Err-clause-rewrites
returns-in-Err-clause-rewrites g c = λ limits start o.
    schema_refused c.args.options start _ _ _ _ _ _ o
    (rw (c.sent_limits-limits.ensures.sent, c.limits.ensures, c.schema.ensures) at c.in-Err.ensures.refused)

pub returns-in-Err-clause-reports : goal.returns-in-Err-clause-reports
returns-in-Err-clause-reports g c = λ limits start o. opened_some start _ _ o

pub returns-in-Ok-start-clause-rewrites : goal.returns-in-Ok-start-clause-rewrites
returns-in-Ok-start-clause-rewrites g c = λ limits start o.
    let started = rw (c.sent_limits-limits.ensures.sent, c.limits.ensures, c.schema-2.ensures) at c.in-Ok-start.ensures.started in
    c.copy_stream-in-Ok-start.ensures.rewrites limits start _ _ o (rw c.in-Some.is started)

pub returns-in-Ok-start-clause-within : goal.returns-in-Ok-start-clause-within
returns-in-Ok-start-clause-within g c =
    let started = rw (c.sent_limits-limits.ensures.sent, c.limits.ensures, c.schema-2.ensures) at c.in-Ok-start.ensures.started in
    c.copy_stream-in-Ok-start.ensures.within (g.W.Sink.written c.args.sink) (g.W.Sink.failures c.args.sink) (rw c.in-Some.is started)

pub returns-in-Err-start-clause-rewrites : goal.returns-in-Err-start-clause-rewrites
returns-in-Err-start-clause-rewrites g c = λ limits start o.
    not_begun c.args.options start _ _ _ _ _ c.in-Some.most o c.in-Err-start.stop c.in-Some.is
    (rw (c.sent_limits-limits.ensures.sent, c.limits.ensures, c.schema-2.ensures) at c.in-Err-start.ensures.refused)

pub returns-in-Err-start-clause-reports : goal.returns-in-Err-start-clause-reports
returns-in-Err-start-clause-reports g c = λ limits start o.
    none_reported c.args.options start _ _ _ _ _ c.in-Some.most o c.in-Err-start.stop _
    (rw (c.sent_limits-limits.ensures.sent, c.limits.ensures, c.schema-2.ensures) at c.in-Err-start.ensures.refused)

pub returns-in-Err-clause-held : goal.returns-in-Err-clause-held
returns-in-Err-clause-held g c = λ limits start h. still_held _ start _ _ (λ bad. absurd bad) h

pub returns-in-Err-start-clause-held : goal.returns-in-Err-start-clause-held
returns-in-Err-start-clause-held g c = λ limits start h.
    still_held _ start _ _ (not_begun_held _ _ _ _ _ _ _ c.in-Err-start.stop
    (rw (c.sent_limits-limits.ensures.sent, c.limits.ensures, c.schema-2.ensures) at c.in-Err-start.ensures.refused)) h
