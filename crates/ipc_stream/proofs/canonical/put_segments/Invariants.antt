use Rattle.std.proofs.Common.{◌+◌, ◌≤◌, length, drop, List, ℕ}
use Rattle.ipc_encode.specs.Segments.{bytes_of_segments}
use Rattle.ipc_stream.specs.Canonical.{Replaces}
use Rattle.ipc_stream.proofs.canonical.put_segments.Given as goal

-- the finished segments are written; the others have room after them
abbrev pub invariant-loop-segment : goal.invariant-loop-segment
invariant-loop-segment l = ((new : List ℕ) → Replaces l.at (bytes_of_segments (drop l.segment-index l.segments)) l.target new
    → Replaces 0 (bytes_of_segments l.segments) l.fn.target new)
    × ((l.at + length (bytes_of_segments (drop l.segment-index l.segments))) ≤ length l.target)
