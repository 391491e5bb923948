use Rattle.ipc_model.specs.Entries.{AllowPairs}
use Rattle.std.proofs.Common.{refl, subst, ℕ, ◌+◌, ◌*◌, ◌/◌, ◌≤◌, length}
use Rattle.ipc_meta.proofs.written.WrittenOrder.{batch_ascends}
use Rattle.ipc_meta.proofs.written.WrittenAnswers.{ok_then, err_then, batch_states, batch_room_is, batch_refused, not_too_long}
use Rattle.ipc_meta.proofs.write.write_batch.Goals as goal

pub finished_metadata-requires : goal.finished_metadata-requires
finished_metadata-requires c = batch_ascends c.args.head.now c.args.pairs.now c.args.body _ _ c.in_ok-message.ensures refl

pub returns-clause-states : goal.returns-clause-states
returns-clause-states c =
    let is = c.in_ok-message.ensures in
    ok_then _ _ c.finished_metadata.result (λ b lies. batch_states {limits = c.args.limits.now} b.items c.args.head.now c.args.pairs.now
    c.args.body _
    c.in_ok-check_batch.ensures.body
    (subst (λ ps. AllowPairs c.args.limits.now ps) c.as_slice.ensures c.in_ok-check_batch.ensures.pairs) is lies)
    c.finished_metadata.ensures.lies

pub returns-clause-room : goal.returns-clause-room
returns-clause-room c =
    let is = c.in_ok-message.ensures in
    ok_then _ _ c.finished_metadata.result (λ b h. not_too_long c.args.limits.now c.args.head.now c.args.pairs.now c.args.body
    (subst (λ (n : ℕ). n ≤ c.args.limits.now.metadata) (batch_room_is c.args.head.now c.args.pairs.now c.args.body _ is) h)
    c.in_ok-check_batch.ensures.body
    (subst (λ ps. AllowPairs c.args.limits.now ps) c.as_slice.ensures c.in_ok-check_batch.ensures.pairs))
    c.finished_metadata.ensures.room

pub returns-clause-refused : goal.returns-clause-refused
returns-clause-refused c =
    let is = c.in_ok-message.ensures in
    err_then _ _ c.finished_metadata.result (λ f h. batch_refused c.args.limits.now c.args.head.now c.args.pairs.now c.args.body _ f is h)
    c.finished_metadata.ensures.refused

pub returns-clause-within : goal.returns-clause-within
returns-clause-within c =
    let is = c.in_ok-message.ensures in
    ok_then _ _ c.finished_metadata.result (λ b h. subst (λ (n : ℕ). (length b.items + 7) / 8 * 8 ≤ n)
    (batch_room_is c.args.head.now c.args.pairs.now c.args.body _ is) h) c.finished_metadata.ensures.within
