use Rattle.std.proofs.Common.{◌≡◌, ◌∙◌, sym, ap, subst, ℕ, ◌*◌, ◌<◌, length, Some, arith}
use Rattle.std.specs.Prelude.{slice_get}
use Rattle.ipc_model.specs.declared.layout.Layout.{Layout}
use Rattle.ipc_column.proofs.SlotValues.{some_same}
use Rattle.ipc_column.specs.Nested.{Nested, only_column, slot_values}
use Rattle.ipc_column.specs.checks.Rules.{HasUtf8Texts}
use Rattle.ipc_column.specs.Slots.{nested_in}
use Rattle.ipc_encode.specs.Buffers.{child_values}
use Rattle.ipc_encode.proofs.LentBuffers.{buffers_bits}
use Rattle.ipc_encode.proofs.NestedSlots.{fixed_gives, fixed_spells}
use Rattle.ipc_encode.proofs.whole_columns.fixed_lists_use_all_slots.Goals as goal

pub null_lists_have_nulls-requires-clause-bits : goal.null_lists_have_nulls-requires-clause-bits
null_lists_have_nulls-requires-clause-bits c =
    buffers_bits c.args.view.now c.buffers-buffers.result c.buffers-buffers.ensures c.len-count.result c.len-count.ensures

pub returns-clause-slots : goal.returns-clause-slots
returns-clause-slots c = λ shared child is.
    let s = c.args.view.now in
    let b = c.buffers-buffers.result in
    let own = c.child-child.result in
    let first = subst (λ (k : ℕ). slice_get (nested_in s) k ≡ Some own) c.if-i-ne0.false c.child-child.ensures in
    let all : c.in-FixedLists.size * length (slot_values s) ≡ length (slot_values own) =
    omega (arith, ap (λ (n : ℕ). c.in-FixedLists.size * n) c.len-count.ensures, c.in-Some.ensures.1, c.if-len-slots.false, c.len.ensures) in
    ap (λ (x : Layout). child_values x (slot_values s) c.args.i) (sym c.buffers-buffers.ensures.layout ∙ c.in-FixedLists.is)
    ∙ (fixed_gives s own b c.in-FixedLists.size c.buffers-buffers.ensures c.in-FixedLists.is first all
    (λ i m. c.null_lists_have_nulls.ensures shared i (omega (arith, m, c.len-count.ensures)))
    ∙ ap slot_values (some_same own child (sym c.child-child.ensures ∙ is)))

pub returns-clause-texts : goal.returns-clause-texts
returns-clause-texts c = λ shared child is spelled.
    let s = c.args.view.now in
    let b = c.buffers-buffers.result in
    let own = c.child-child.result in
    let first = subst (λ (k : ℕ). slice_get (nested_in s) k ≡ Some own) c.if-i-ne0.false c.child-child.ensures in
    let all : c.in-FixedLists.size * length (slot_values s) ≡ length (slot_values own) =
    omega (arith, ap (λ (n : ℕ). c.in-FixedLists.size * n) c.len-count.ensures, c.in-Some.ensures.1, c.if-len-slots.false, c.len.ensures) in
    subst (λ (n : Nested). (j : ℕ) → j < length (slot_values n) → HasUtf8Texts (only_column n) j)
    (some_same own child (sym c.child-child.ensures ∙ is))
    (fixed_spells s own b c.in-FixedLists.size c.buffers-buffers.ensures c.in-FixedLists.is first all
    (λ i m. c.null_lists_have_nulls.ensures shared i (omega (arith, m, c.len-count.ensures))) spelled)
