use Rattle.std.proofs.Common.{◌≡◌, ◌∙◌, sym, ap, subst, ℕ, ◌<◌, length, arith}
use Rattle.ipc_column.proofs.SlotValues.{some_same}
use Rattle.ipc_column.specs.Nested.{Nested, only_column, slot_values}
use Rattle.ipc_column.specs.checks.Rules.{HasUtf8Texts}
use Rattle.ipc_encode.proofs.LentBuffers.{buffers_bits}
use Rattle.ipc_encode.proofs.NestedSlots.{struct_gives, struct_spells}
use Rattle.ipc_encode.proofs.whole_columns.structs_use_all_slots.Goals as goal

pub nulls_are_shared-requires : goal.nulls_are_shared-requires
nulls_are_shared-requires c =
    buffers_bits c.args.view.now c.buffers-buffers.result c.buffers-buffers.ensures (length (slot_values c.child-child.result))
    (omega (arith, c.len.ensures, c.len-2.ensures, c.if-len.false))

pub returns-clause-slots : goal.returns-clause-slots
returns-clause-slots c = λ shared child is.
    let s = c.args.view.now in
    let own = c.child-child.result in
    let size : length (slot_values s) ≡ length (slot_values own) = omega (arith, c.len.ensures, c.len-2.ensures, c.if-len.false) in
    struct_gives s own c.buffers-buffers.result c.args.i c.buffers-buffers.ensures c.in-Structs.is c.child-child.ensures size
    (λ i m. c.nulls_are_shared.ensures shared i (omega (arith, m, size)))
    ∙ ap (λ (n : Nested). slot_values n) (some_same own child (sym c.child-child.ensures ∙ is))

pub returns-clause-texts : goal.returns-clause-texts
returns-clause-texts c = λ shared child is spelled.
    let s = c.args.view.now in
    let own = c.child-child.result in
    let size : length (slot_values s) ≡ length (slot_values own) = omega (arith, c.len.ensures, c.len-2.ensures, c.if-len.false) in
    subst (λ (n : Nested). (j : ℕ) → j < length (slot_values n) → HasUtf8Texts (only_column n) j)
    (some_same own child (sym c.child-child.ensures ∙ is))
    (struct_spells s own c.buffers-buffers.result c.args.i c.buffers-buffers.ensures c.in-Structs.is c.child-child.ensures size
    (λ i m. c.nulls_are_shared.ensures shared i (omega (arith, m, size))) spelled)
