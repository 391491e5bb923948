use Rattle.std.proofs.Common.{length}
use Rattle.ipc_stream_session.proofs.field.+field_below.Given as goal

-- each call passes one step less
abbrev pub decreases-field_below : goal.decreases-field_below
decreases-field_below l = length l.steps.now
