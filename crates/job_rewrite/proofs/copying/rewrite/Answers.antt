use Rattle.std.proofs.Common.{◌∙◌, refl, sym, Err}
use Rattle.ipc_stream_read.specs.Held.{fault_of}
use Rattle.ipc_stream_read.proofs.Readers.{has_maximum}
use Rattle.ipc_stream_read.proofs.Reporting.{unopened_to}
use Rattle.job_rewrite.proofs.Bytes.{within_same}
use Rattle.job_rewrite.proofs.Complete.{answered_marked, answered_closed}
use Rattle.job_rewrite.proofs.Expected.{unopened_expected}
use Rattle.job_rewrite.proofs.Stopped.{held_why, stopped_counts, stopped_held, stopped_reports, stopped_unopened}
use Rattle.job_rewrite.specs.Rewriting.{stop_of_reading}
use Rattle.job_rewrite.proofs.copying.rewrite.Goals as goal

pub returns-in-Ok-clause-marked : goal.returns-in-Ok-clause-marked
returns-in-Ok-clause-marked g c = λ x rest t is d none.
    answered_marked c.args.options _ _ _ _ _ _ _ _ c.rewrite_open-result.result.0
    (has_maximum _ _ _ _ (c.rewrite_open-result.ensures.held _ _ c.in-Ok.ensures.held)) c.rewrite_open-result.ensures.devices
    (c.rewrite_open-result.ensures.rewrites _ _ c.in-Ok.ensures.opened) (sym c.into_inner.ensures.failures ∙ none) x rest t is d

pub returns-in-Ok-clause-closed : goal.returns-in-Ok-clause-closed
returns-in-Ok-clause-closed g c = λ x t free is d none.
    answered_closed c.args.options _ _ _ _ _ _ _ _ c.rewrite_open-result.result.0
    (has_maximum _ _ _ _ (c.rewrite_open-result.ensures.held _ _ c.in-Ok.ensures.held)) c.rewrite_open-result.ensures.devices
    (c.rewrite_open-result.ensures.rewrites _ _ c.in-Ok.ensures.opened) (sym c.into_inner.ensures.failures ∙ none) x t free is d

pub returns-in-Ok-clause-reports : goal.returns-in-Ok-clause-reports
returns-in-Ok-clause-reports g c =
    rw c.into_inner.ensures.remaining (c.rewrite_open-result.ensures.reports _ _ c.in-Ok.ensures.opened)

pub returns-in-Ok-clause-held : goal.returns-in-Ok-clause-held
returns-in-Ok-clause-held g c =
    rw c.into_inner.ensures.remaining (c.rewrite_open-result.ensures.held _ _ c.in-Ok.ensures.held)

pub returns-in-Err-clause-rewrites : goal.returns-in-Err-clause-rewrites
returns-in-Err-clause-rewrites g c =
    rw c.of_reading.ensures (stopped_unopened c.args.options _ _ _ _ c.in-Err.why c.in-Err.ensures.refused)

pub returns-in-Err-clause-marked : goal.returns-in-Err-clause-marked
returns-in-Err-clause-marked g c = λ x rest t is d none.
    rw c.of_reading.ensures (answered_marked c.args.options _ _ (g.W.Sink.written c.args.sink) (g.W.Sink.written c.args.sink) _ _
    (g.W.Sink.failures c.args.sink) (g.W.Sink.failures c.args.sink) (Err (stop_of_reading c.in-Err.why 0))
    (λ held. has_maximum _ _ _ _ c.in-Err.ensures.held (held_why c.in-Err.why 0 held))
    (stopped_counts _ _ _ _ c.in-Err.why 0 c.in-Err.ensures.failures refl)
    (stopped_unopened c.args.options _ _ _ _ c.in-Err.why c.in-Err.ensures.refused) none x rest t is d)

pub returns-in-Err-clause-closed : goal.returns-in-Err-clause-closed
returns-in-Err-clause-closed g c = λ x t free is d none.
    rw c.of_reading.ensures (answered_closed c.args.options _ _ (g.W.Sink.written c.args.sink) (g.W.Sink.written c.args.sink) _ _
    (g.W.Sink.failures c.args.sink) (g.W.Sink.failures c.args.sink) (Err (stop_of_reading c.in-Err.why 0))
    (λ held. has_maximum _ _ _ _ c.in-Err.ensures.held (held_why c.in-Err.why 0 held))
    (stopped_counts _ _ _ _ c.in-Err.why 0 c.in-Err.ensures.failures refl)
    (stopped_unopened c.args.options _ _ _ _ c.in-Err.why c.in-Err.ensures.refused) none x t free is d)

pub returns-in-Err-clause-expected : goal.returns-in-Err-clause-expected
returns-in-Err-clause-expected g c = λ x rest s is opens.
    rw c.of_reading.ensures (unopened_expected _ s _ c.in-Err.why (c.in-Err.ensures.schema x rest s is opens))

pub returns-in-Err-clause-devices : goal.returns-in-Err-clause-devices
returns-in-Err-clause-devices g c =
    rw c.of_reading.ensures (stopped_counts _ _ _ _ c.in-Err.why 0 c.in-Err.ensures.failures refl)

pub returns-in-Err-clause-reports : goal.returns-in-Err-clause-reports
returns-in-Err-clause-reports g c =
    rw c.of_reading.ensures (stopped_reports _ _ _ _ c.in-Err.why 0 (unopened_to _ _ (fault_of c.in-Err.why) _
    c.in-Err.ensures.refused))

pub returns-in-Err-clause-within : goal.returns-in-Err-clause-within
returns-in-Err-clause-within g c = within_same _ _

pub returns-in-Err-clause-held : goal.returns-in-Err-clause-held
returns-in-Err-clause-held g c =
    rw c.of_reading.ensures (stopped_held _ _ _ c.in-Err.why 0 (λ is. is) c.in-Err.ensures.held)
