use Rattle.std.proofs.Common.{subst, sym}
use Rattle.ipc_frame.specs.Pieces.{MatchesPhase}
use Rattle.ipc_frame.proofs.Held.{keeps_there, same_progress, sound_there, with_body}
use Rattle.ipc_frame.proofs.frames.Frames.reuse.Goals as goal

pub invariant_of-self : goal.invariant_of-self
invariant_of-self c =
    let limits = c.self.inside.limits in
    let parts = c.self.inside.parts in
    let undecided = subst (λ s. MatchesPhase limits parts s) c.in-Reading.is c.self.invariant in
    subst (λ s. MatchesPhase limits (with_body limits parts c.reuse.new.self c.reuse.ensures.came) s) (sym c.in-Reading.is)
    (sound_there limits parts c.reuse.new.self c.reuse.ensures.came c.in-Reading.field-0 undecided)

pub returns-in-Reading-clause-progress : goal.returns-in-Reading-clause-progress
returns-in-Reading-clause-progress c =
    rw (← c.self.view_is)
    (same_progress c.self.inside.limits c.self.inside.parts c.reuse.new.self c.reuse.ensures.came c.self.inside.phase)

pub returns-in-Reading-clause-kept : goal.returns-in-Reading-clause-kept
returns-in-Reading-clause-kept c =
    let undecided = subst (λ s. MatchesPhase c.self.inside.limits c.self.inside.parts s) c.in-Reading.is c.self.invariant in
    rw (← c.self.view_is, c.in-Reading.is)
    (keeps_there c.self.inside.limits c.self.inside.parts c.in-Reading.field-0 _ _ _ undecided c.reuse.ensures.kept)
