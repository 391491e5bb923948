use Rattle.std.proofs.Common.{subst, ℕ, ◌+◌, ◌*◌, ◌/◌, ◌≤◌, length, arith}
use Rattle.ipc_meta.proofs.written.WrittenOrder.{dictionary_ascends}
use Rattle.ipc_meta.proofs.written.WrittenAnswers.{ok_then, err_then, dictionary_is, dictionary_states}
use Rattle.ipc_meta.proofs.written.WrittenAnswers.{dictionary_room_is, dictionary_refused, dictionary_not_too_long}
use Rattle.ipc_meta.proofs.write.write_dictionary.Goals as goal

pub finished_metadata-requires : goal.finished_metadata-requires
finished_metadata-requires c =
    let is = dictionary_is c.args.id c.args.head.now c.args.body _ c.ranges.id c.in_ok-message.ensures in
    dictionary_ascends c.args.id c.args.head.now c.args.body _ is

pub returns-clause-states : goal.returns-clause-states
returns-clause-states c =
    let is = dictionary_is c.args.id c.args.head.now c.args.body _ c.ranges.id c.in_ok-message.ensures in
    let small : c.args.body ≤ c.args.limits.now.body = omega (arith, c.if-body-limits.false) in
    ok_then _ _ c.finished_metadata.result (λ b lies. dictionary_states {limits = c.args.limits.now} b.items c.args.id c.args.head.now
    c.args.body _
    small is lies) c.finished_metadata.ensures.lies

pub returns-clause-within : goal.returns-clause-within
returns-clause-within c =
    let is = dictionary_is c.args.id c.args.head.now c.args.body _ c.ranges.id c.in_ok-message.ensures in
    let opens = dictionary_room_is c.args.id c.args.head.now c.args.body _ is in
    ok_then _ _ c.finished_metadata.result (λ b h. subst (λ (n : ℕ). (length b.items + 7) / 8 * 8 ≤ n) opens h)
    c.finished_metadata.ensures.within

pub returns-clause-room : goal.returns-clause-room
returns-clause-room c =
    let is = dictionary_is c.args.id c.args.head.now c.args.body _ c.ranges.id c.in_ok-message.ensures in
    let opens = dictionary_room_is c.args.id c.args.head.now c.args.body _ is in
    let small : c.args.body ≤ c.args.limits.now.body = omega (arith, c.if-body-limits.false) in
    ok_then _ _ c.finished_metadata.result (λ b h. dictionary_not_too_long c.args.limits.now c.args.id c.args.head.now c.args.body
    (subst (λ (n : ℕ). n ≤ c.args.limits.now.metadata) opens h) small) c.finished_metadata.ensures.room

pub returns-clause-refused : goal.returns-clause-refused
returns-clause-refused c =
    let is = dictionary_is c.args.id c.args.head.now c.args.body _ c.ranges.id c.in_ok-message.ensures in
    err_then _ _ c.finished_metadata.result (λ f h. dictionary_refused c.args.limits.now c.args.id c.args.head.now c.args.body _ f is h)
    c.finished_metadata.ensures.refused
