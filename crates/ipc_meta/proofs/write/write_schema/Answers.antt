use Rattle.std.proofs.Common.{refl, subst, ℕ, ◌+◌, ◌*◌, ◌/◌, ◌≤◌, [], length}
use Rattle.ipc_meta.proofs.written.WrittenOrder.{schema_ascends}
use Rattle.ipc_meta.proofs.written.WrittenAnswers.{ok_then, err_then, schema_states, schema_room_is, schema_refused}
use Rattle.ipc_meta.proofs.write.write_schema.Goals as goal

pub finished_metadata-requires : goal.finished_metadata-requires
finished_metadata-requires c = schema_ascends c.args.schema.now 1 0 [] _ _ c.in_ok-message.ensures refl

pub returns-clause-states : goal.returns-clause-states
returns-clause-states c =
    let is = c.in_ok-message.ensures in
    ok_then _ _ c.finished_metadata.result (λ b lies. schema_states b.items c.args.schema.now _ c.requires is lies)
    c.finished_metadata.ensures.lies

pub returns-clause-room : goal.returns-clause-room
returns-clause-room c =
    let is = c.in_ok-message.ensures in
    ok_then _ _ c.finished_metadata.result (λ b h. subst (λ (n : ℕ). n ≤ c.args.limits.now.metadata) (schema_room_is c.args.schema.now _ is)
    h)
    c.finished_metadata.ensures.room

pub returns-clause-refused : goal.returns-clause-refused
returns-clause-refused c =
    let is = c.in_ok-message.ensures in
    err_then _ _ c.finished_metadata.result (λ f h. schema_refused c.args.limits.now c.args.schema.now _ f is h)
    c.finished_metadata.ensures.refused

pub returns-clause-within : goal.returns-clause-within
returns-clause-within c =
    let is = c.in_ok-message.ensures in
    ok_then _ _ c.finished_metadata.result (λ b h. subst (λ (n : ℕ). (length b.items + 7) / 8 * 8 ≤ n)
    (schema_room_is c.args.schema.now _ is) h)
    c.finished_metadata.ensures.within
