use Rattle.std.proofs.Common.{length}
use Rattle.ipc_stream_session.proofs.column.+slots_below.Given as goal

-- each call passes one step less
abbrev pub decreases-slots_below : goal.decreases-slots_below
decreases-slots_below l = length l.steps.now
