use Rattle.ipc_stream.proofs.GatheredBytes.{gathered_segment}
use Rattle.ipc_stream.proofs.gathering.Gathered.add_segments.Goals as goal

pub loop-segment-preserved : goal.loop-segment-preserved
loop-segment-preserved c =
    gathered_segment _ _ _ _ c.args.segments.now c.loop-segment.segment-index c.segment-item.result c.loop-segment.invariant
    c.loop-segment-test.true c.segment-item.is c.as_bytes.ensures c.in_ok-add.ensures
