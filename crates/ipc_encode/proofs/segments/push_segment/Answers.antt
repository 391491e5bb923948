use Rattle.ipc_encode.proofs.SegmentColumns.{joined_push}
use Rattle.ipc_encode.proofs.segments.push_segment.Goals as goal

pub returns : goal.returns
returns c = joined_push c.args.segments.now.items c.push.new.self.items c.args.segment c.in_ok-push.ensures.items
