use Rattle.std.proofs.Common.{subst, sym}
use Rattle.ipc_frame.specs.Frames.{Pending}
use Rattle.ipc_frame.specs.Parts.{received_bytes}
use Rattle.ipc_frame.specs.Pieces.{MatchesPhase}
use Rattle.ipc_frame.proofs.frames.Frames.wants.Goals as goal

pub returns-in-Reading : goal.returns-in-Reading
returns-in-Reading c =
    let undecided = subst (λ p. MatchesPhase c.self.inside.limits c.self.inside.parts p) c.in-Reading.is c.self.invariant in
    rw (← c.self.view_is, c.in-Reading.is)
    (subst (λ k. Pending c.self.inside.limits (received_bytes c.self.inside.parts) k) (sym c.bytes_needed.ensures) undecided.pending)
