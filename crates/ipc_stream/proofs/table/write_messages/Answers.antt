use Rattle.std.proofs.Common.{◌∙◌, ap, arith, get_or, length}
use Rattle.std.proofs.lemmas.Result.{err_from_is_err_and}
use Rattle.ipc_stream.proofs.TablesWritten.{opened, batch_out, next_stream, start_breaks, batch_breaks, end_sends}
use Rattle.ipc_stream.proofs.TablesWritten.{all_accepted, end_broken}
use Rattle.ipc_stream.proofs.table.write_messages.Goals as goal

pub loop-batch-init : goal.loop-batch-init
loop-batch-init g c =
    (opened c.args.table.now _ _ _ _ c.in_ok-stream.ensures.sends c.in_ok-stream.ensures.judged, c.in_ok-stream.ensures.opened)

pub loop-batch-preserved : goal.loop-batch-preserved
loop-batch-preserved g c =
    let i = c.loop-batch.batch-index in
    let is = c.batch-item.is ∙ ap (λ xs. get_or xs i c.batch-item.result) c.as_slice-batch-items.ensures in
    let sent = rw c.loop-batch.invariant.1 at c.in_ok-send_batch.ensures.sends in
    let accepts = rw c.loop-batch.invariant.1 at c.in_ok-send_batch.ensures.judged in
    let left = rw c.loop-batch.invariant.1 at c.in_ok-send_batch.ensures.sent in (
      batch_out c.args.table.now _ _ _ _ _ _ i c.loop-batch.invariant.0 c.batch-item.result
          (omega (arith, ap length c.as_slice-batch-items.ensures)) is sent accepts,
      next_stream c.args.table.now i c.batch-item.result (omega (arith, ap length c.as_slice-batch-items.ensures)) is
          c.args.limits.now _ left,
    )

pub returns-in_err-stream-clause-broken : goal.returns-in_err-stream-clause-broken
returns-in_err-stream-clause-broken g c =
    let p = err_from_is_err_and c.from_residual.result c.from_residual.ensures.1 in
    rw (p.1, p.2) (start_breaks c.args.table.now _ _ _ _ c.in_err-stream.field-0.0 c.in_err-stream.ensures.judged
    c.in_err-stream.ensures.sends)

pub returns-in_err-send_batch-clause-broken : goal.returns-in_err-send_batch-clause-broken
returns-in_err-send_batch-clause-broken g c =
    let p = err_from_is_err_and c.from_residual-in_err-send_batch.result c.from_residual-in_err-send_batch.ensures.1 in
    let i = c.loop-batch.batch-index in
    let is = c.batch-item.is ∙ ap (λ xs. get_or xs i c.batch-item.result) c.as_slice-batch-items.ensures in
    let unsent = rw c.loop-batch.invariant.1 at c.in_err-send_batch.ensures.sends in
    let refused = rw c.loop-batch.invariant.1 at c.in_err-send_batch.ensures.judged in
    rw (p.1, p.2) (batch_breaks c.args.table.now _ _ _ _ _ _ i c.loop-batch.invariant.0 c.batch-item.result
    (omega (arith, ap length c.as_slice-batch-items.ensures)) is c.in_err-send_batch.field-0.0 refused unsent)

pub returns-clause-sends : goal.returns-clause-sends
returns-clause-sends g c = end_sends c.args.table.now _ _ _ _ _ _ c.loop-batch.batch-index c.loop-batch.invariant.0
    (omega (arith, ap length c.as_slice-batch-items.ensures)) c.send_end.result c.send_end.ensures.sends

pub returns-clause-accepted : goal.returns-clause-accepted
returns-clause-accepted g c = all_accepted c.args.table.now _ _ _ _ c.loop-batch.batch-index c.loop-batch.invariant.0
    (omega (arith, ap length c.as_slice-batch-items.ensures)) c.send_end.result

pub returns-clause-broken : goal.returns-clause-broken
returns-clause-broken g c = end_broken c.args.table.now _ _ _ _ _ _ c.loop-batch.batch-index c.loop-batch.invariant.0
    (omega (arith, ap length c.as_slice-batch-items.ensures)) c.send_end.result c.send_end.ensures.sends c.send_end.ensures.only
