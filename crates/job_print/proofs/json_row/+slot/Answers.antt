use Rattle.std.proofs.Common.{rules, arith, ◌+◌, w64}
use Rattle.std.proofs.lemmas.Int.{to_z-of_z}
use Rattle.ipc_column.specs.declared.slot_view.Slot.TheVariants as slot
use Rattle.ipc_column.proofs.lending.Slots.{items_at}
use Rattle.ipc_text_json.specs.RowJson.{cell_json}
use Rattle.job_print.specs.LentSlots.{slot_value}
use Rattle.job_print.proofs.texts.CellTexts.{cell_written, item_written, no_values}
use Rattle.ipc_model.specs.declared.schema.Field.TheViews.{the_lemmas}
use Rattle.job_print.proofs.texts.SlotTexts.{children_done, list_child, list_nulls, slot_json, slots_done, struct_child}
use Rattle.job_print.proofs.json_row.+slot.Goals as goal

pub put_slot-returns-in-Utf8 : goal.put_slot-returns-in-Utf8
put_slot-returns-in-Utf8 t c = c.put_text_slot.ensures c.args.shape c.args.field.now

pub put_slot-returns-in-Null : goal.put_slot-returns-in-Null
put_slot-returns-in-Null t c = rw (slot_json _ _ c.args.column.now _ slot.Null (rw c.in-Null.is at c.at.ensures.value)) c.put_null.ensures

pub put_slot-returns-in-Bool : goal.put_slot-returns-in-Bool
put_slot-returns-in-Bool t c =
    rw (slot_json _ _ c.args.column.now _ (slot.Bool c.in-Bool.truth) (rw c.in-Bool.is at c.at.ensures.value)) c.put_bool.ensures

pub put_slot-returns-in-Int : goal.put_slot-returns-in-Int
put_slot-returns-in-Int t c =
    rw (slot_json _ _ c.args.column.now _ (slot.Int c.in-Int.number) (rw c.in-Int.is at c.at.ensures.value))
    (rw (to_z-of_z w64 c.in-Int.number (search rules)) at c.put_int.ensures)

pub put_slot-returns-in-UInt : goal.put_slot-returns-in-UInt
put_slot-returns-in-UInt t c =
    rw (slot_json _ _ c.args.column.now _ (slot.UInt c.in-UInt.number) (rw c.in-UInt.is at c.at.ensures.value)) c.put_u64.ensures

pub put_slot-returns-in-Bytes : goal.put_slot-returns-in-Bytes
put_slot-returns-in-Bytes t c =
    rw (slot_json _ _ c.args.column.now _ (slot.Bytes c.in-Bytes.bytes) (rw c.in-Bytes.is at c.at.ensures.value)) c.put_bytes.ensures

pub put_slot-returns-in-Text : goal.put_slot-returns-in-Text
put_slot-returns-in-Text t c =
    rw (slot_json _ _ c.args.column.now _ (slot.Text c.in-Text.chars) (rw c.in-Text.is at c.at.ensures.value)) c.put_string.ensures

pub put_slot-returns-in-List : goal.put_slot-returns-in-List
put_slot-returns-in-List t c =
    rw (
      slot_json _ _ c.args.column.now _ (slot.List c.in-List.from c.in-List.to) (rw c.in-List.is at c.at.ensures.value),
      ←
          c.as_slice.ensures,
    ) c.put_list.ensures

pub put_slot-returns-in-Struct : goal.put_slot-returns-in-Struct
put_slot-returns-in-Struct t c =
    rw (slot_json _ _ c.args.column.now _ slot.Struct (rw c.in-Struct.is at c.at.ensures.value), ← c.as_slice-in-Struct.ensures)
    c.put_struct.ensures

pub put_slots-loop-number-preserved : goal.put_slots-loop-number-preserved
put_slots-loop-number-preserved t c = record {
  text = item_written (cell_json c.args.shape c.args.field.now) _ c.loop-number.number
      (slot_value c.args.column.now (c.args.from + c.loop-number.number)) c.loop-number.later _ _ _
      (items_at (slot_value c.args.column.now) c.args.from c.args.count c.loop-number.number (omega arith)) c.loop-number.invariant.text
      (rw c.in_ok-start_item.ensures.text at c.in_ok-put_slot.ensures);
}

pub put_struct-loop-number-preserved : goal.put_struct-loop-number-preserved
put_struct-loop-number-preserved t c = record {
  text = cell_written c.args.shape c.args.children.now _ c.loop-number.number c.index-children-number.result
      (slot_value c.child.result.now c.args.slot) c.loop-number.later _ _ _ c.loop-number-test.true c.index-children-number.is
      (struct_child c.args.column.now c.child.result.now c.args.slot c.loop-number.number c.child.ensures c.requires.slot).0
      c.loop-number.invariant.text (rw c.in_ok-start_value.ensures.text at c.in_ok-put_slot.ensures);
}

pub put_slots-overflow_add-from : goal.put_slots-overflow_add-from
put_slots-overflow_add-from t c =
    let size = c.len-slots.ensures in
    omega (arith, size, c.requires)

pub put_slots-returns : goal.put_slots-returns
put_slots-returns t c =
    let done = slots_done c.args.column.now c.args.from c.args.count c.loop-number.number
    (omega (arith, c.loop-number-test.false, c.loop-number.auto.number-end)) in
    rw (← (rw done at c.loop-number.invariant.text)) c.put_end.ensures

pub put_struct-returns-then-number-children : goal.put_struct-returns-then-number-children
put_struct-returns-then-number-children t c =
    let done = children_done c.args.column.now c.args.slot c.loop-number.number
    (omega (arith, c.children.ensures, c.if-number-children.true)) in
    rw (← (rw (done, no_values c.args.shape c.loop-number.later _) at c.loop-number.invariant.text)) c.put_end.ensures

pub put_struct-put_slot-requires : goal.put_struct-put_slot-requires
put_struct-put_slot-requires t c = (
  search (rules, the_lemmas),
  (
    c.in_ok-start_value.ensures.room,
    (struct_child c.args.column.now c.child.result.now c.args.slot c.loop-number.number c.child.ensures c.requires.slot).1,
  ),
)

pub put_items-returns-then-children-eq0 : goal.put_items-returns-then-children-eq0
put_items-returns-then-children-eq0 t c =
    rw (list_nulls c.args.column.now c.args.from c.args.to (omega (arith, c.children.ensures, c.if-children-eq0.true)))
    (c.put_nulls.ensures c.args.shape c.args.child.now)

pub put_items-put_slots-requires : goal.put_items-put_slots-requires
put_items-put_slots-requires t c = (
  search (rules, the_lemmas),
  (list_child c.args.column.now c.child.result.now c.args.from c.args.to c.child.ensures c.requires).1,
)

pub put_items-returns : goal.put_items-returns
put_items-returns t c =
    rw ((list_child c.args.column.now c.child.result.now c.args.from c.args.to c.child.ensures c.requires).0) c.put_slots.ensures
