use Rattle.std.proofs.Common.{◌≡◌, take}
use Rattle.ipc_encode.specs.Segments.{bytes_of_segments}
use Rattle.ipc_encode.proofs.parts.join.Given as goal

abbrev pub invariant-loop-segment : goal.invariant-loop-segment
invariant-loop-segment l = l.body.items ≡ bytes_of_segments (take l.segment-index l.segments)
