use Rattle.std.proofs.Common.{◌≡◌, ◌∙◌, ap, subst, sym}
use Rattle.std.proofs.lemmas.Result.{IfErr-weaker}
use Rattle.ipc_model.specs.declared.fault.Fault.TheVariants.{OutOfMemory}
use Rattle.ipc_frame.specs.Parts.{HasSize}
use Rattle.ipc_frame.specs.Pieces.{MatchesPhase, progress_of}
use Rattle.ipc_frame.proofs.Grown.{grows_concluded}
use Rattle.ipc_frame.proofs.Pulls.{takes_came, takes_lost}
use Rattle.ipc_frame.proofs.Sized.{sized_alone, sized_at}
use Rattle.ipc_frame.proofs.frames.Frames.feed_from.Goals as goal

pub read_part-requires : goal.read_part-requires
read_part-requires g c = subst (λ s. MatchesPhase c.self.inside.limits c.self.inside.parts s) c.in-Reading.is c.self.invariant

pub returns-in-Ok-clause-takes : goal.returns-in-Ok-clause-takes
returns-in-Ok-clause-takes g c =
    let undecided = subst (λ s. MatchesPhase c.self.inside.limits c.self.inside.parts s) c.in-Reading.is c.self.invariant in
    rw (← c.self.view_is, c.in-Reading.is)
    (takes_came c.self.inside.limits _ _ c.self.inside.parts _ _ _ _ undecided c.in-Ok.ensures.comes _ c.conclude-result.ensures.concludes)

pub returns-in-Ok-clause-memory : goal.returns-in-Ok-clause-memory
returns-in-Ok-clause-memory g c =
    let undecided = subst (λ s. MatchesPhase c.self.inside.limits c.self.inside.parts s) c.in-Reading.is c.self.invariant in
    let sized = sized_at c.self.inside.limits c.self.inside.parts c.in-Reading.expectation in
    rw (← c.self.view_is, c.in-Reading.is)
    (IfErr-weaker c.conclude-result.result (λ fault. fault ≡ OutOfMemory → HasSize c.in-Reading.expectation) _
    (λ fault memory is. sized_alone _ (sized (memory is) undecided.fits)) c.conclude-result.ensures.memory)

pub returns-in-Ok-clause-grown : goal.returns-in-Ok-clause-grown
returns-in-Ok-clause-grown g c =
    rw (← c.self.view_is)
    (grows_concluded c.self.inside.limits _ _ _ _ _ c.conclude-result.result c.in-Ok.ensures.room c.conclude-result.ensures.room
    c.conclude-result.ensures.concludes c.conclude-result.ensures.moved)

pub returns-in-Err-clause-takes : goal.returns-in-Err-clause-takes
returns-in-Err-clause-takes g c =
    let undecided = subst (λ s. MatchesPhase c.self.inside.limits c.self.inside.parts s) c.in-Reading.is c.self.invariant in
    rw (← c.self.view_is, c.in-Reading.is, c.refuse-fault.ensures.fault)
    (takes_lost c.self.inside.limits _ _ c.self.inside.parts _ c.in-Err.fault _ undecided c.in-Err.ensures.lost c.in-Err.ensures.only
    (ap (progress_of c.refuse-fault.new.parts) c.refuse-fault.ensures.phase))

pub returns-in-Err-clause-memory : goal.returns-in-Err-clause-memory
returns-in-Err-clause-memory g c =
    let undecided = subst (λ s. MatchesPhase c.self.inside.limits c.self.inside.parts s) c.in-Reading.is c.self.invariant in
    let sized = sized_at c.self.inside.limits c.self.inside.parts c.in-Reading.expectation in
    rw (← c.self.view_is, c.in-Reading.is)
    (λ is. sized_alone _ (sized (c.in-Err.ensures.memory (sym c.refuse-fault.ensures.fault ∙ is)) undecided.fits))
