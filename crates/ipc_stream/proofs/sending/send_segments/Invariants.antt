use Rattle.ipc_stream.proofs.SentBytes.{SegmentsOut}
use Rattle.ipc_stream.proofs.sending.send_segments.Given as goal

abbrev pub invariant-loop-segment : goal.invariant-loop-segment
invariant-loop-segment g l = SegmentsOut (g.W.Sink.written l.fn.sink) (g.W.Sink.written l.sink) (g.W.Sink.failures l.fn.sink)
    (g.W.Sink.failures l.sink) l.segments l.segment-index
