use Rattle.std.proofs.Common.{◌∙◌, ap, List}
use Rattle.std.specs.Prelude.{slice_get}
use Rattle.ipc_model.specs.declared.value.Value.{Value}
use Rattle.ipc_column.specs.Contents.{Contents}
use Rattle.ipc_column.specs.Views.{part_columns}
use Rattle.ipc_column.proofs.Cells.{row_in, row_is}
use Rattle.ipc_column.proofs.batch.Batch.cell.Goals as goal

pub cell_in-requires-clause-row : goal.cell_in-requires-clause-row
cell_in-requires-clause-row c =
    rw c.as_ref-shared.ensures
    (row_in (part_columns c.self.inside.shared.value.body.value.items c.self.inside.shared.value.parts.items)
    c.self.inside.shared.value.count
    c.args.row _ (ap (λ (v : Contents). v.rows) c.self.view_is) c.requires.row)

pub returns : goal.returns
returns c =
    ap (λ (x : List Value). slice_get x c.args.column)
    (row_is (part_columns c.self.inside.shared.value.body.value.items c.self.inside.shared.value.parts.items)
    c.self.inside.shared.value.count
    c.args.row _ (ap (λ (v : Contents). v.rows) c.self.view_is) c.requires.row)
    ∙ (rw (c.as_slice.ensures.value, c.deref.ensures, c.deref-2.ensures.value, c.as_ref-shared.ensures) at c.cell_in.ensures)
