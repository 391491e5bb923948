use Rattle.std.proofs.Common.{◌∙◌, sym, ap, subst, Some, Ok}
use Rattle.ipc_frame.specs.declared.frame.Frame.TheVariants as f
use Rattle.ipc_stream_read.specs.declared.event.Event.TheVariants as report
use Rattle.ipc_stream_read.specs.StreamStates.{Brings}
use Rattle.ipc_stream_read.specs.Scopes.{in_scope}
use Rattle.ipc_stream_read.specs.Stream.{record_batch}
use Rattle.ipc_stream_read.proofs.next_frame.apply_later_frame.Goals as goal

pub returns-in-Batch-clause-next : goal.returns-in-Batch-clause-next
returns-in-Batch-clause-next c =
    subst (λ f. Brings c.args.scope.now.limits (Some (in_scope c.args.scope.now)) f (Some (in_scope c.args.scope.now))
    (Ok (Some (report.Batch c.in_ok-batch-in-Batch.batch c.in-Batch.pairs))))
    (sym (c.in-Message.is ∙ ap (λ g. f.Message c.in-Message.meta g c.in-Message.body) c.in-Batch.is))
    (record_batch c.in_ok-batch-in-Batch.ensures.rows, c.in_ok-batch-in-Batch.ensures.checked)
