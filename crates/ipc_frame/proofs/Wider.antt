-- What is a message under some limits is one under all that cover them.
use Rattle.std.proofs.Common.{ℕ, List, length, arith}
use Rattle.ipc_model.specs.Limits.{Covers}
use Rattle.ipc_model.specs.declared.limits.Limits.{Limits}
use Rattle.ipc_meta.specs.declared.head.Head.{Head}
use Rattle.ipc_meta.proofs.Wider.{head_wider}
use Rattle.ipc_frame.specs.Frames.{Encapsulates}

-- a message under some limits is one under all that cover them
pub frame_wider : (limits others : Limits) (x metadata body : List ℕ) (head : Head) → Covers others limits
    → Encapsulates limits x metadata head body → Encapsulates others x metadata head body
frame_wider limits others x metadata body head c f = record {
  prefix = f.prefix;
  marked = f.marked;
  sized = f.sized;
  carried = f.carried;
  fits = omega (arith, f.fits, c.metadata);
  states = head_wider limits others metadata head (length body) c f.states;
}
