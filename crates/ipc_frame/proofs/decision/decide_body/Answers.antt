use Rattle.std.proofs.Common.{arith, subst}
use Rattle.std.proofs.lemmas.Result.{err_from_is_err_and}
use Rattle.ipc_meta.specs.Heads.{HeadOf}
use Rattle.ipc_frame.proofs.Parted.{body_short, whole_body}
use Rattle.ipc_frame.proofs.decision.decide_body.Goals as goal

pub returns-then-len-size : goal.returns-then-len-size
returns-then-len-size c = body_short _ _ _ c.requires (omega arith)

pub returns-in_err-head : goal.returns-in_err-head
returns-in_err-head c =
    let p = err_from_is_err_and c.from_residual.result c.from_residual.ensures.1 in
    rw (p.1, p.2) (λ ne. absurd (ne (c.in_err-head.ensures.only c.requires.head c.args.size
    (rw c.as_slice.ensures c.requires.states))))

pub returns : goal.returns
returns c =
    let states = subst (λ z. HeadOf c.args.limits.now z c.in_ok-head.head c.in_ok-head.field-0-1) c.as_slice.ensures
    c.in_ok-head.ensures.finds in
    whole_body c.args.limits.now c.args.parts.now c.args.size c.requires _ c.in_ok-head.head (omega arith) states
    (c.in_ok-head.ensures.only c.requires.head c.args.size (rw c.as_slice.ensures c.requires.states)).1
