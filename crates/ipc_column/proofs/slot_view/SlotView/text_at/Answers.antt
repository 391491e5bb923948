use Rattle.std.proofs.Common.{◌≡◌, ◌∙◌, sym, ap, length, Some, cond, Bool, List, ℕ}
use Rattle.ipc_model.specs.declared.layout.Layout.{Layout}
use Rattle.ipc_model.specs.declared.value.Value.TheVariants as v
use Rattle.ipc_column.specs.Leaves.{values_or_none}
use Rattle.ipc_column.specs.Lent.{column_of_buffers}
use Rattle.ipc_column.specs.Nested.{Nested}
use Rattle.ipc_column.specs.Values.{own_value, row}
use Rattle.ipc_column.specs.Views.{part_columns}
use Rattle.ipc_column.proofs.visited.Leads.{slot_inside, slot_shows}
use Rattle.ipc_column.proofs.lending.Slots.{bitmap_front}
use Rattle.ipc_model.specs.declared.layout.Layout.TheVariants as l
use Rattle.std.specs.Prelude.{true}
use Rattle.ipc_column.proofs.slot_view.SlotView.text_at.Goals as goal

pub is_valid-requires : goal.is_valid-requires
is_valid-requires c =
    let s = c.self.inside in
    bitmap_front s.slots c.args.slot (length s.validity.now) c.self.invariant.bitmap
    (slot_inside (column_of_buffers s.layout s.slots s.validity.now s.offsets.now s.values.now
    (values_or_none s.dictionary)) s.body.now s.children.now
    c.args.self.now c.args.slot
    c.self.view_is c.requires.slot)

pub text_in-requires-clause-slot : goal.text_in-requires-clause-slot
text_in-requires-clause-slot c =
    let s = c.self.inside in
    slot_inside (column_of_buffers s.layout s.slots s.validity.now s.offsets.now s.values.now
    (values_or_none s.dictionary)) s.body.now s.children.now
    c.args.self.now c.args.slot
    c.self.view_is c.requires.slot

pub returns-then-is_valid-clause-value : goal.returns-then-is_valid-clause-value
returns-then-is_valid-clause-value c =
    let s = c.self.inside in
    let value = row (part_columns s.body.now s.children.now) in
    let same : s.layout ≡ l.VariableBytes true = ap (λ (n : Nested). n.column.layout) c.self.view_is ∙ c.requires.layout in
    slot_shows (column_of_buffers s.layout s.slots s.validity.now s.offsets.now s.values.now
    (values_or_none s.dictionary)) s.body.now s.children.now
    c.args.self.now c.args.slot
    c.self.view_is c.requires.slot
    ∙ (ap (λ (b : Bool). Some (cond b (own_value s.layout
    (values_or_none s.dictionary) value s.offsets.now s.values.now c.args.slot) v.Null))
    (sym c.is_valid.ensures ∙ c.if-is_valid.true)
    ∙ (ap (λ (l : Layout). Some (own_value l (values_or_none s.dictionary) value s.offsets.now s.values.now c.args.slot)) same
    ∙ ap (λ (t : List ℕ). Some (v.Text t)) (sym c.text_in.ensures.text)))

pub returns-else-is_valid-clause-value : goal.returns-else-is_valid-clause-value
returns-else-is_valid-clause-value c =
    let s = c.self.inside in
    let value = row (part_columns s.body.now s.children.now) in
    slot_shows (column_of_buffers s.layout s.slots s.validity.now s.offsets.now s.values.now
    (values_or_none s.dictionary)) s.body.now s.children.now
    c.args.self.now c.args.slot
    c.self.view_is c.requires.slot
    ∙ ap (λ (b : Bool). Some (cond b (own_value s.layout
    (values_or_none s.dictionary) value s.offsets.now s.values.now c.args.slot) v.Null))
    (sym c.is_valid.ensures ∙ c.if-is_valid.false)
