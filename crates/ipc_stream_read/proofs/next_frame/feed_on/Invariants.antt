use Rattle.std.proofs.Common.{◌+◌, ◌-◌, length}
use Rattle.ipc_frame.specs.Parts.{GrowsWithBytes}
use Rattle.ipc_frame.specs.Pieces.{held_of}
use Rattle.ipc_stream_read.specs.Decoding.{progress_at}
use Rattle.ipc_stream_read.specs.StreamStates.{IsSound, decoding_of}
use Rattle.ipc_stream_read.proofs.Feeding.{Feeding}
use Rattle.ipc_stream_read.proofs.next_frame.feed_on.Given as goal

abbrev pub invariant-loop-count : goal.invariant-loop-count
invariant-loop-count l =
    IsSound l.frames l.stream × Feeding (decoding_of l.fn.frames l.fn.stream) l.piece l.taken (decoding_of l.frames l.stream)
    × GrowsWithBytes l.fn.frames.room l.frames.room 0

abbrev pub decreases-loop-count : goal.decreases-loop-count
decreases-loop-count l = held_of (progress_at (decoding_of l.frames l.stream).stage) + (length l.piece - l.taken)
