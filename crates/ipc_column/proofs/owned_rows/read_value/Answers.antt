use Rattle.std.proofs.Common.{◌∙◌, sym, ap, Some, arith, ◌+◌, Result, Ok, Err, IfOk}
use Rattle.ipc_model.specs.declared.value.Value.{Value}
use Rattle.ipc_column.specs.Views.{part_columns}
use Rattle.ipc_column.proofs.Cells.{row_cell}
use Rattle.ipc_column.proofs.lending.Slots.{row_values, slot_value}
use Rattle.ipc_column.proofs.owned_rows.read_value.Goals as goal

pub read_slot-requires : goal.read_slot-requires
read_slot-requires c =
    slot_value c.args.body.now c.args.parts.now c.args.at (c.args.at + 1) c.args.at c.args.i c.index-parts-i.result c.requires.inside
    c.index-parts-i.is (omega arith) (omega arith)
    (row_values (part_columns c.args.body.now c.args.parts.now) c.args.rows c.args.at c.requires.row c.requires.holds)

pub returns : goal.returns
returns c =
    if_ok c.read_slot.result c.read_slot.ensures (λ value is.
    row_cell c.args.body.now c.args.parts.now c.args.at c.args.i c.index-parts-i.result c.requires.inside c.index-parts-i.is
    ∙ ap (λ (v : Value). Some v) (sym is))
  where
    if_ok : {T E : Type 0} {P Q : T → Type 0} (r : Result T E) → IfOk r P → ((x : T) → P x → Q x) → IfOk r Q
    if_ok (Ok x) h f = f x h
    if_ok (Err e) h f = tt
