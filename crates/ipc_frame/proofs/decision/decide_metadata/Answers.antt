use Rattle.std.proofs.Common.{arith, subst}
use Rattle.std.proofs.lemmas.Result.{err_from_is_err_and}
use Rattle.ipc_frame.specs.Buffers.{filled_bytes}
use Rattle.ipc_meta.specs.Heads.{HeadOf}
use Rattle.ipc_meta.specs.Causes.{Cause}
use Rattle.ipc_frame.proofs.Parted.{metadata_short, refused_metadata, empty_body, stated}
use Rattle.ipc_frame.proofs.decision.decide_metadata.Goals as goal

pub returns-then-len-size : goal.returns-then-len-size
returns-then-len-size c = metadata_short _ _ _ c.requires (omega arith)

pub returns-in_err-head : goal.returns-in_err-head
returns-in_err-head c =
    let p = err_from_is_err_and c.from_residual.result c.from_residual.ensures.1 in
    rw (p.1, p.2) (λ ne. refused_metadata c.args.limits.now c.args.parts.now c.args.size c.requires (omega arith) c.in_err-head.field-0.0
    (λ head m h. ne (c.in_err-head.ensures.only head m (rw c.as_slice.ensures h)))
    (subst (λ z. Cause c.args.limits.now z c.in_err-head.field-0.0)
    c.as_slice.ensures (c.in_err-head.ensures.refused ne)))

pub returns-then-len-eq0 : goal.returns-then-len-eq0
returns-then-len-eq0 c =
    let states = subst (λ z. HeadOf c.args.limits.now z c.in_ok-head.head c.in_ok-head.len) c.as_slice.ensures
    c.in_ok-head.ensures.finds in
    empty_body c.args.limits.now c.args.parts.now c.args.size c.requires (omega arith) _
    (subst (λ n. HeadOf c.args.limits.now (filled_bytes c.args.parts.now.meta) c.in_ok-head.head n) c.if-len-eq0.true states)

pub returns : goal.returns
returns c =
    stated c.args.limits.now c.args.parts.now c.args.size c.requires (omega arith) _ c.in_ok-head.head
    (subst (λ z. HeadOf c.args.limits.now z c.in_ok-head.head c.in_ok-head.len) c.as_slice.ensures c.in_ok-head.ensures.finds)
    (omega arith)
