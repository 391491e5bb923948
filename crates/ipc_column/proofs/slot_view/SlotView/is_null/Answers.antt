use Rattle.std.proofs.Common.{◌∙◌, sym, ap, length, Option}
use Rattle.std.specs.Prelude.{unwrap_or}
use Rattle.ipc_model.specs.declared.value.Value.{Value}
use Rattle.ipc_model.specs.declared.value.Value.TheVariants as v
use Rattle.ipc_column.specs.Leaves.{values_or_none}
use Rattle.ipc_column.specs.Lent.{column_of_buffers}
use Rattle.ipc_column.specs.Slots.{is_null}
use Rattle.ipc_column.specs.Values.{row}
use Rattle.ipc_column.specs.Views.{part_columns}
use Rattle.ipc_column.proofs.visited.Leads.{nothing_shown, null_slot, slot_inside, slot_shows}
use Rattle.ipc_column.proofs.lending.Slots.{bitmap_front}
use Rattle.ipc_column.proofs.slot_view.SlotView.is_null.Goals as goal

pub is_valid-requires : goal.is_valid-requires
is_valid-requires c =
    let s = c.self.inside in
    bitmap_front s.slots c.args.slot (length s.validity.now) c.self.invariant.bitmap
    (slot_inside (column_of_buffers s.layout s.slots s.validity.now s.offsets.now s.values.now
    (values_or_none s.dictionary)) s.body.now s.children.now
    c.args.self.now c.args.slot
    c.self.view_is c.requires)

pub returns-in-Null : goal.returns-in-Null
returns-in-Null c = λ value e.
    let s = c.self.inside in
    let column = column_of_buffers s.layout s.slots s.validity.now s.offsets.now s.values.now (values_or_none s.dictionary) in
    sym (nothing_shown (row (part_columns s.body.now s.children.now)) column c.args.slot c.in-Null.is)
    ∙ ap (λ (o : Option Value). is_null (unwrap_or o v.Null))
    (sym (slot_shows column s.body.now s.children.now c.args.self.now c.args.slot c.self.view_is c.requires) ∙ e)

pub returns-in_default : goal.returns-in_default
returns-in_default c = λ value e.
    let s = c.self.inside in
    let column = column_of_buffers s.layout s.slots s.validity.now s.offsets.now s.values.now (values_or_none s.dictionary) in
    null_slot (row (part_columns s.body.now s.children.now)) column c.args.slot c.is_valid.result c.is_valid.ensures c.in_default.not-Null
    c.in_default.not-Indices
    ∙ ap (λ (o : Option Value). is_null (unwrap_or o v.Null))
    (sym (slot_shows column s.body.now s.children.now c.args.self.now c.args.slot c.self.view_is c.requires) ∙ e)
