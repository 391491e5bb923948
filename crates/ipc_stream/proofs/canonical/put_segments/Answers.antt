use Rattle.std.proofs.Common.{rules}
use Rattle.ipc_stream.proofs.Replaced.{all_put, more_put, room_for_segment}
use Rattle.ipc_stream.proofs.canonical.put_segments.Goals as goal

pub loop-segment-preserved : goal.loop-segment-preserved
loop-segment-preserved c = more_put c.args.segments.now c.loop-segment.segment-index c.segment-item.result c.loop-segment.at
    c.as_bytes-bytes.result.now _ _ _ c.as_bytes-bytes.ensures (search rules) c.segment-item.is c.loop-segment.invariant.0
    c.loop-segment.invariant.1 c.put_bytes.ensures

pub returns : goal.returns
returns c = all_put c.args.segments.now c.loop-segment.segment-index c.loop-segment.at _ _ (search rules) c.loop-segment.invariant.0

pub put_bytes-requires : goal.put_bytes-requires
put_bytes-requires c = room_for_segment c.args.segments.now c.loop-segment.segment-index c.loop-segment.at c.segment-item.result
    c.as_bytes-bytes.result.now c.loop-segment.target c.as_bytes-bytes.ensures (search rules) c.segment-item.is c.loop-segment.invariant.1
