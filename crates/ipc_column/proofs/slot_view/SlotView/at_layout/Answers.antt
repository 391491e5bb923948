use Rattle.std.proofs.Common.{◌≡◌, ◌∙◌, sym, ap, subst, length, Some, cond, Bool}
use Rattle.ipc_model.specs.declared.value.Value.{Value}
use Rattle.ipc_model.specs.declared.value.Value.TheVariants as v
use Rattle.ipc_model.specs.declared.layout.Layout.{Layout}
use Rattle.ipc_column.specs.Leaves.{values_or_none}
use Rattle.ipc_column.specs.Lent.{column_of_buffers}
use Rattle.ipc_column.specs.Nested.{Nested, child_columns, only_column}
use Rattle.ipc_column.specs.checks.Rules.{HasUtf8Texts}
use Rattle.ipc_column.specs.Slots.{HasChildSlots, RefersToValues, value_in_slot}
use Rattle.ipc_column.specs.Values.{own_value, row}
use Rattle.ipc_column.specs.Views.{part_columns}
use Rattle.ipc_column.proofs.visited.Leads.{order_any, long_any, slot_inside, slot_shows}
use Rattle.ipc_column.proofs.lending.Slots.{bitmap_front}
use Rattle.ipc_column.proofs.visited.Shown.{own_good}
use Rattle.ipc_column.proofs.slot_view.SlotView.at_layout.Goals as goal

pub is_valid-requires : goal.is_valid-requires
is_valid-requires c =
    let s = c.self.inside in
    bitmap_front s.slots c.args.slot (length s.validity.now) c.self.invariant.bitmap
    (slot_inside (column_of_buffers s.layout s.slots s.validity.now s.offsets.now s.values.now
    (values_or_none s.dictionary)) s.body.now s.children.now
    c.args.self.now c.args.slot
    c.self.view_is c.requires.slot)

pub returns-then-not-is_valid-clause-value : goal.returns-then-not-is_valid-clause-value
returns-then-not-is_valid-clause-value c =
    let s = c.self.inside in
    slot_shows (column_of_buffers s.layout s.slots s.validity.now s.offsets.now s.values.now
    (values_or_none s.dictionary)) s.body.now s.children.now
    c.args.self.now c.args.slot
    c.self.view_is c.requires.slot
    ∙ ap (λ (b : Bool). Some (cond b (own_value s.layout (values_or_none s.dictionary) (row
    (part_columns s.body.now s.children.now)) s.offsets.now s.values.now c.args.slot)
    v.Null)) (sym c.is_valid.ensures ∙ c.if-not-is_valid.true)

pub own_slot-requires-clause-slot : goal.own_slot-requires-clause-slot
own_slot-requires-clause-slot c =
    let s = c.self.inside in
    slot_inside (column_of_buffers s.layout s.slots s.validity.now s.offsets.now s.values.now
    (values_or_none s.dictionary)) s.body.now s.children.now
    c.args.self.now c.args.slot
    c.self.view_is c.requires.slot

pub own_slot-requires-clause-values : goal.own_slot-requires-clause-values
own_slot-requires-clause-values c =
    let s = c.self.inside in
    let same : c.args.layout ≡ s.layout = sym (ap (λ (n : Nested). n.column.layout) c.self.view_is ∙ c.requires.layout) in
    rw same c.self.invariant.values

pub own_slot-requires-clause-offsets : goal.own_slot-requires-clause-offsets
own_slot-requires-clause-offsets c =
    let s = c.self.inside in
    let same : c.args.layout ≡ s.layout = sym (ap (λ (n : Nested). n.column.layout) c.self.view_is ∙ c.requires.layout) in
    rw same c.self.invariant.offsets

pub own_slot-requires-clause-rise : goal.own_slot-requires-clause-rise
own_slot-requires-clause-rise c =
    let s = c.self.inside in
    let same : c.args.layout ≡ s.layout = sym (ap (λ (n : Nested). n.column.layout) c.self.view_is ∙ c.requires.layout) in
    rw same (order_any s.layout s.slots s.offsets.now (length s.values.now) s.body.now s.children.now c.self.invariant.order)

pub own_slot-requires-clause-long : goal.own_slot-requires-clause-long
own_slot-requires-clause-long c =
    let s = c.self.inside in
    let same : c.args.layout ≡ s.layout = sym (ap (λ (n : Nested). n.column.layout) c.self.view_is ∙ c.requires.layout) in
    rw same (long_any s.layout s.slots s.body.now s.children.now c.self.invariant.long)

pub returns-clause-value : goal.returns-clause-value
returns-clause-value c =
    let s = c.self.inside in
    let value = row (part_columns s.body.now s.children.now) in
    let same : s.layout ≡ c.args.layout = ap (λ (n : Nested). n.column.layout) c.self.view_is ∙ c.requires.layout in
    slot_shows (column_of_buffers s.layout s.slots s.validity.now s.offsets.now s.values.now
    (values_or_none s.dictionary)) s.body.now s.children.now
    c.args.self.now c.args.slot
    c.self.view_is c.requires.slot
    ∙ (ap (λ (b : Bool). Some (cond b (own_value s.layout
    (values_or_none s.dictionary) value s.offsets.now s.values.now c.args.slot) v.Null))
    (sym c.is_valid.ensures ∙ c.if-not-is_valid.false)
    ∙ (ap (λ (l : Layout). Some (own_value l (values_or_none s.dictionary) value s.offsets.now s.values.now c.args.slot)) same
    ∙ (ap (λ (x : Value). Some x) (sym (c.own_slot.ensures.value s.body.now))
    ∙ ap (λ (n : Nested). Some (value_in_slot (row (child_columns n)) c.args.slot c.own_slot.result)) c.self.view_is)))

pub returns-clause-inside : goal.returns-clause-inside
returns-clause-inside c =
    let s = c.self.inside in
    subst (λ (n : Nested). HasChildSlots (child_columns n) c.args.slot c.own_slot.result) c.self.view_is
    (c.own_slot.ensures.inside s.body.now)

pub returns-clause-shown : goal.returns-clause-shown
returns-clause-shown c = λ texts.
    let s = c.self.inside in
    let same : s.layout ≡ c.args.layout = ap (λ (n : Nested). n.column.layout) c.self.view_is ∙ c.requires.layout in
    let own = own_good (column_of_buffers s.layout s.slots s.validity.now s.offsets.now s.values.now (values_or_none s.dictionary))
    (part_columns s.body.now s.children.now) c.args.slot
    (subst (λ (n : Nested). HasUtf8Texts (only_column n) c.args.slot) (sym c.self.view_is) texts)
    (sym c.is_valid.ensures ∙ c.if-not-is_valid.false) in
    subst (λ (n : Nested). RefersToValues (child_columns n) c.args.slot c.own_slot.result) c.self.view_is
    (c.own_slot.ensures.shown s.body.now c.self.invariant.sound (rw same at own))
