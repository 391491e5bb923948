use Rattle.std.proofs.Common.{◌∙◌, sym, ap, subst, Some, arith, rules, ◌<◌, ◌+◌, ◌++◌, ◌∷◌, [], List, length}
use Rattle.std.proofs.lemmas.List.{take_all}
use Rattle.ipc_model.specs.declared.value.Value.{Value}
use Rattle.ipc_column.specs.declared.ranges.ColumnRanges.TheViews.{the_lemmas}
use Rattle.ipc_column.specs.Values.{row, values_from, first_at}
use Rattle.ipc_column.specs.Views.{part_columns}
use Rattle.ipc_column.proofs.Cells.{row_cell, row_more, row_length, items_more}
use Rattle.ipc_column.proofs.lending.Slots.{slot_value}
use Rattle.ipc_column.specs.Columns.{Columns}
use Rattle.ipc_column.specs.Lent.{HaveValues}
use Rattle.ipc_column.proofs.owned_rows.+read.Goals as goal
use Rattle.ipc_column.proofs.Parts.{children_out}

pub read_first-read_slot-requires : goal.read_first-read_slot-requires
read_first-read_slot-requires t c =
    let some : 0 < length c.args.parts.now = search rules in (
      search (rules, the_lemmas),
      slot_value c.args.body.now c.args.parts.now c.args.from c.args.to (c.args.from + c.args.at) 0 c.index-parts-0.result some
          c.index-parts-0.is (omega arith) (omega (arith, c.requires.inside)) c.requires.range,
    )

pub read_items-loop-at-preserved : goal.read_items-loop-at-preserved
read_items-loop-at-preserved t c =
    let f = first_at (part_columns c.args.body.now c.args.parts.now) in
    c.in_ok-push.ensures.items
    ∙ (ap (λ (xs : List Value). xs ++ c.in_ok-read_first.field-0 ∷ []) c.loop-at.invariant
    ∙ (ap (λ (v : Value). values_from f c.args.from c.loop-at.at ++ v ∷ []) c.in_ok-read_first.ensures
    ∙ sym (items_more f c.args.from c.loop-at.at)))

pub read_slot-read_items-requires : goal.read_slot-read_items-requires
read_slot-read_items-requires t c = (
  search (rules, the_lemmas),
  rw c.deref.ensures.value (subst (λ (cs : Columns). HaveValues cs c.in-List.from c.in-List.to)
      (children_out c.args.body.now c.args.part.now) (rw c.in-List.is at c.held_at.ensures.shown)),
)

pub read_slot-read_values-requires : goal.read_slot-read_values-requires
read_slot-read_values-requires t c = (
  search (rules, the_lemmas),
  rw c.deref-in-Struct.ensures.value (subst (λ (cs : Columns). HaveValues cs c.args.slot (c.args.slot + 1))
      (children_out c.args.body.now c.args.part.now) (rw c.in-Struct.is at c.held_at.ensures.shown)),
)

pub read_values-read_slot-requires : goal.read_values-read_slot-requires
read_values-read_slot-requires t c = (
  search (rules, the_lemmas),
  slot_value c.args.body.now c.args.parts.now c.args.slot (c.args.slot + 1) c.args.slot c.loop-part.part-index c.part-item.result
      (omega arith)
      c.part-item.is (omega arith) (omega arith) c.requires,
)

pub read_values-loop-part-preserved : goal.read_values-loop-part-preserved
read_values-loop-part-preserved t c =
    let size = row_length c.args.body.now c.args.parts.now c.args.slot in
    row_more (row (part_columns c.args.body.now c.args.parts.now) c.args.slot) _ _ c.loop-part.part-index c.in_ok-read_slot.field-0
    (omega (arith, size))
    (row_cell c.args.body.now c.args.parts.now c.args.slot c.loop-part.part-index c.part-item.result (omega arith) c.part-item.is
    ∙ ap (λ (v : Value). Some v) (sym c.in_ok-read_slot.ensures)) c.loop-part.invariant c.in_ok-push.ensures.items

pub read_values-returns : goal.read_values-returns
read_values-returns t c =
    let size = row_length c.args.body.now c.args.parts.now c.args.slot in
    c.from_vec.ensures ∙ c.loop-part.invariant
    ∙ take_all c.loop-part.part-index (row (part_columns c.args.body.now c.args.parts.now) c.args.slot) (omega (arith, size))
