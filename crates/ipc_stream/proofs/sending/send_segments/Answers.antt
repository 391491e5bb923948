use Rattle.std.proofs.lemmas.Result.{err_from_is_err_and}
use Rattle.ipc_stream.proofs.SentBytes.{segments_cut, segments_more}
use Rattle.ipc_stream.proofs.sending.send_segments.Goals as goal

pub returns-in_err-send-clause-err : goal.returns-in_err-send-clause-err
returns-in_err-send-clause-err g c =
    let p = err_from_is_err_and c.from_residual.result c.from_residual.ensures.1 in
    rw (p.1) (segments_cut _ _ _ _ _ c.args.segments.now c.loop-segment.segment-index c.segment-item.result c.loop-segment.invariant
    c.loop-segment-test.true c.segment-item.is (rw c.as_bytes.ensures at c.in_err-send.ensures.err))

pub loop-segment-preserved : goal.loop-segment-preserved
loop-segment-preserved g c =
    segments_more _ _ _ _ _ _ c.args.segments.now c.loop-segment.segment-index c.segment-item.result c.loop-segment.invariant
    c.loop-segment-test.true c.segment-item.is (rw c.as_bytes.ensures at c.in_ok-send.ensures.ok) c.in_ok-send.ensures.failures
    (rw c.as_bytes.ensures at c.in_ok-send.ensures.called)
