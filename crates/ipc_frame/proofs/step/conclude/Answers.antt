use Rattle.std.proofs.Common.{refl, subst, Ok}
use Rattle.ipc_frame.specs.Parts.{Decides, Undecided}
use Rattle.ipc_frame.proofs.step.conclude.Goals as goal

pub returns-in-Ok-More-clause-sound : goal.returns-in-Ok-More-clause-sound
returns-in-Ok-More-clause-sound c =
    subst (λ d. Decides c.args.limits.now c.args.parts.now (Ok d)) c.in-Ok-More.field-0-is c.in-Ok-More.ensures.decides

pub returns-in-Ok-More-clause-concludes : goal.returns-in-Ok-More-clause-concludes
returns-in-Ok-More-clause-concludes c =
    let undecided : Undecided c.args.limits.now c.args.parts.now c.in-Ok-More.next = returns-in-Ok-More-clause-sound c in
    (refl, (_, undecided.pending))
