use Rattle.std.proofs.Common.{◌≡◌, ◌++◌, take}
use Rattle.ipc_encode.specs.Segments.{bytes_of_segments}
use Rattle.ipc_stream.specs.Messages.{gathered_bytes}
use Rattle.ipc_stream.proofs.gathering.Gathered.add_segments.Given as goal

abbrev pub invariant-loop-segment : goal.invariant-loop-segment
invariant-loop-segment l = gathered_bytes l.self ≡ gathered_bytes l.fn.self ++ bytes_of_segments (take l.segment-index l.segments)
