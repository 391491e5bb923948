use Rattle.std.proofs.Common.{◌≡◌, ◌∙◌, sym, subst, ℕ, List, Some, arith}
use Rattle.std.specs.Prelude.{slice_get}
use Rattle.std.proofs.lemmas.List.{length-map}
use Rattle.std.proofs.lemmas.Option.{get_or_from_slice_get}
use Rattle.ipc_model.specs.declared.schema.Field.{Field}
use Rattle.ipc_model.specs.declared.value.Value.{Value}
use Rattle.ipc_column.proofs.SlotValues.{some_same}
use Rattle.ipc_column.specs.Nested.{Nested, slot_values}
use Rattle.ipc_column.specs.Shapes.{child_shape, field_layout}
use Rattle.ipc_column.specs.Slots.{nested, nested_in}
use Rattle.ipc_encode.specs.Buffers.{child_values}
use Rattle.ipc_encode.specs.WholeColumns.{IsFullColumn}
use Rattle.ipc_encode.proofs.NestedSlots.{first_and_next}
use Rattle.ipc_encode.proofs.SegmentColumns.{whole_all}
use Rattle.ipc_encode.proofs.whole_columns.+has_field_layout.Goals as goal

pub have_field_layouts-loop-i-preserved : goal.have_field_layouts-loop-i-preserved
have_field_layouts-loop-i-preserved t c = λ spelled.
    let s = c.args.view.now in
    let i = c.loop-i.i in
    let own = c.child.result in
    let of = c.index-fields-i.result in
    let values = child_values s.column.layout (slot_values s) in
    first_and_next
    (λ (j : ℕ). (f : Field) (v : Nested) → slice_get c.args.fields.now j ≡ Some f → slice_get (nested_in s) j ≡ Some v
    → IsFullColumn (field_layout f) (child_shape f) v (values j))
    i (c.loop-i.invariant spelled)
    (λ f v field_is is.
    let same : of ≡ f = c.index-fields-i.is ∙ get_or_from_slice_get c.args.fields.now i f of field_is in
    let whole = c.has_field_layout.ensures c.if-not-has_field_layout.false
    (c.uses_all_slots.ensures.texts c.if-not-uses_all_slots.false own c.child.ensures spelled) in
    let there = subst (λ (vs : List Value). IsFullColumn (field_layout of) (child_shape of) own vs) (sym
    (c.uses_all_slots.ensures.slots c.if-not-uses_all_slots.false own c.child.ensures)) whole in
    subst (λ (g : Field). IsFullColumn (field_layout g) (child_shape g) v (values i)) same
    (subst (λ (n : Nested). IsFullColumn (field_layout of) (child_shape of) n (values i))
    (some_same own v (sym c.child.ensures ∙ is)) there))

pub have_field_layouts-returns : goal.have_field_layouts-returns
have_field_layouts-returns t c = λ report spelled.
    let s = c.args.view.now in
    let size = length-map s.children (nested s.body) in
    whole_all c.args.fields.now (nested_in s) (child_values s.column.layout (slot_values s)) (omega (arith, c.requires.count, size))
    (λ i m. c.loop-i.invariant spelled i (omega (arith, m, c.loop-i-test.false, c.loop-i.auto.i-end)))
