use Rattle.std.proofs.Common.{◌∙◌, ap, Ok, Some}
use Rattle.std.proofs.lemmas.Result.{err_from_is_err_and}
use Rattle.ipc_stream_read.specs.declared.end.End.TheVariants.{Closed, Mark}
use Rattle.ipc_stream_read.proofs.Nexts.{mark_stops, no_second, pulls_at}
use Rattle.ipc_stream_read.proofs.Tables.{batches_broken, batches_ended, batches_full, batches_more, batches_none, ended_stays}
use Rattle.ipc_stream_read.proofs.table.read_batches.Goals as goal

pub loop-batches-init : goal.loop-batches-init
loop-batches-init g c =
    batches_none _ _ _ _ _ c.requires.open c.requires.between c.requires.counted c.requires.within c.new-batches.ensures.items

pub returns-in_err-pull-clause-batches : goal.returns-in_err-pull-clause-batches
returns-in_err-pull-clause-batches g c =
    let p = err_from_is_err_and c.from_residual.result c.from_residual.ensures.1 in
    rw (p.1, p.2) (batches_broken _ _ _ _ _ _ _ _ _ _ _ c.loop-batches.invariant c.pull.ensures.limits c.in_err-pull.field-0.0
    c.in_err-pull.ensures.pulled)

pub unreachable-requires : goal.unreachable-requires
unreachable-requires g c =
    let p = pulls_at _ _ _ _ _ _ _ _ (ap Ok (c.in-Some-Schema.is ∙ ap Some c.in-Some-Schema.field-0-is)) c.in_ok-pull.ensures.pulled in
    no_second _ _ _ c.loop-batches.invariant.still_open p.gives

pub returns-in_err-keep_batch-in-Some-Batch-clause-batches :
    goal.returns-in_err-keep_batch-in-Some-Batch-clause-batches
returns-in_err-keep_batch-in-Some-Batch-clause-batches g c =
    let p = err_from_is_err_and c.from_residual-in_err-keep_batch-in-Some-Batch.result
    c.from_residual-in_err-keep_batch-in-Some-Batch.ensures.1 in
    rw (p.1, p.2, c.in_err-keep_batch-in-Some-Batch.ensures.memory)
    (batches_full _ _ _ _ _ _ _ _ _ _ _ c.loop-batches.invariant c.pull.ensures.limits c.in-Some-Batch.batch c.in-Some-Batch.pairs
    (pulls_at _ _ _ _ _ _ _ _ (ap Ok (c.in-Some-Batch.is ∙ ap Some c.in-Some-Batch.field-0-is)) c.in_ok-pull.ensures.pulled))

pub loop-batches-preserved : goal.loop-batches-preserved
loop-batches-preserved g c =
    batches_more _ _ _ _ _ _ _ _ _ _ _ c.loop-batches.invariant c.pull.ensures.limits c.in-Some-Batch.batch c.in-Some-Batch.pairs
    (pulls_at _ _ _ _ _ _ _ _ (ap Ok (c.in-Some-Batch.is ∙ ap Some c.in-Some-Batch.field-0-is)) c.in_ok-pull.ensures.pulled) _ _
    c.in_ok-pull.ensures.failures c.in_ok-keep_batch-in-Some-Batch.ensures.kept

pub returns-in-Some-End-clause-batches : goal.returns-in-Some-End-clause-batches
returns-in-Some-End-clause-batches g c =
    let p = pulls_at _ _ _ _ _ _ _ _ (ap Ok (c.in-Some-End.is ∙ ap Some c.in-Some-End.field-0-is)) c.in_ok-pull.ensures.pulled in
    rw (c.from_vec.ensures) (batches_ended _ _ _ _ _ _ _ _ _ _ _ c.loop-batches.invariant c.pull.ensures.limits Mark p.x p.takes
    (mark_stops _ _ p.x _ p.gives))

pub returns-in-Some-End-clause-schema : goal.returns-in-Some-End-clause-schema
returns-in-Some-End-clause-schema g c =
    let p = pulls_at _ _ _ _ _ _ _ _ (ap Ok (c.in-Some-End.is ∙ ap Some c.in-Some-End.field-0-is)) c.in_ok-pull.ensures.pulled in
    ended_stays _ _ _ _ _ _ _ _ _ _ _ c.loop-batches.invariant c.pull.ensures.limits Mark p.x p.takes (mark_stops _ _ p.x _ p.gives)

pub returns-in-None-clause-batches : goal.returns-in-None-clause-batches
returns-in-None-clause-batches g c =
    let p = pulls_at _ _ _ _ _ _ _ _ (ap Ok c.in-None.is) c.in_ok-pull.ensures.pulled in
    rw (c.from_vec-in-None.ensures) (batches_ended _ _ _ _ _ _ _ _ _ _ _ c.loop-batches.invariant c.pull.ensures.limits Closed p.x
    p.takes p.gives)

pub returns-in-None-clause-schema : goal.returns-in-None-clause-schema
returns-in-None-clause-schema g c =
    let p = pulls_at _ _ _ _ _ _ _ _ (ap Ok c.in-None.is) c.in_ok-pull.ensures.pulled in
    ended_stays _ _ _ _ _ _ _ _ _ _ _ c.loop-batches.invariant c.pull.ensures.limits Closed p.x p.takes p.gives
