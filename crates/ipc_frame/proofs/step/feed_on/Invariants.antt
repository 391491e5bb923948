use Rattle.std.proofs.Common.{length, ◌-◌}
use Rattle.ipc_frame.proofs.Stepped.{Feeding}
use Rattle.ipc_frame.specs.Parts.{GrowsWithBytes, capacity_of}
use Rattle.ipc_frame.specs.Pieces.{held_of, progress_of}
use Rattle.ipc_frame.proofs.step.feed_on.Given as goal

abbrev pub invariant-loop-phase : goal.invariant-loop-phase
invariant-loop-phase l =
    Feeding l.limits (progress_of l.fn.parts l.fn.phase) l.piece l.parts l.phase l.taken
    × GrowsWithBytes (capacity_of l.fn.parts) (capacity_of l.parts) (held_of (progress_of l.parts l.phase))

abbrev pub decreases-loop-phase : goal.decreases-loop-phase
decreases-loop-phase l = length l.piece - l.taken
