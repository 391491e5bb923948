use Rattle.std.proofs.Common.{◌∙◌, ap, List, Result, Ok, Err, IfOk}
use Rattle.std.specs.Prelude.{slice_get}
use Rattle.ipc_model.specs.declared.value.Value.{Value}
use Rattle.ipc_column.specs.Contents.{Contents}
use Rattle.ipc_column.specs.Views.{part_columns}
use Rattle.ipc_column.proofs.Cells.{row_in, row_is}
use Rattle.ipc_column.proofs.batch.Batch.read_cell.Goals as goal

pub read_value-requires-clause-row : goal.read_value-requires-clause-row
read_value-requires-clause-row c =
    rw c.as_ref-shared.ensures
    (row_in (part_columns c.self.inside.shared.value.body.value.items c.self.inside.shared.value.parts.items)
    c.self.inside.shared.value.count
    c.args.row _ (ap (λ (v : Contents). v.rows) c.self.view_is) c.requires.row)

pub returns : goal.returns
returns c =
    if_ok c.read_value.result
    (rw (c.as_slice-body.ensures.value, c.deref.ensures, c.deref-2.ensures.value, c.as_ref-shared.ensures) at c.read_value.ensures)
    (λ value is.
    ap (λ (x : List Value). slice_get x c.args.column)
    (row_is (part_columns c.self.inside.shared.value.body.value.items c.self.inside.shared.value.parts.items)
    c.self.inside.shared.value.count
    c.args.row _ (ap (λ (v : Contents). v.rows) c.self.view_is) c.requires.row) ∙ is)
  where
    if_ok : {T E : Type 0} {P Q : T → Type 0} (r : Result T E) → IfOk r P → ((x : T) → P x → Q x) → IfOk r Q
    if_ok (Ok x) h f = f x h
    if_ok (Err e) h f = tt
