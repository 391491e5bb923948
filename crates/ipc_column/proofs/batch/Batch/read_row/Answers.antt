use Rattle.std.proofs.Common.{◌∙◌, sym, ap}
use Rattle.ipc_column.specs.Contents.{Contents}
use Rattle.ipc_column.specs.Views.{part_columns}
use Rattle.ipc_column.proofs.Cells.{row_in, row_is}
use Rattle.ipc_column.proofs.batch.Batch.read_row.Goals as goal

pub read_row-requires-clause-row : goal.read_row-requires-clause-row
read_row-requires-clause-row c =
    rw c.as_ref-shared.ensures
    (row_in (part_columns c.self.inside.shared.value.body.value.items c.self.inside.shared.value.parts.items)
    c.self.inside.shared.value.count
    c.args.row _ (ap (λ (v : Contents). v.rows) c.self.view_is) c.requires)

pub returns-clause-values : goal.returns-clause-values
returns-clause-values c =
    (rw (c.as_slice.ensures.value, c.deref.ensures, c.deref-2.ensures.value, c.as_ref-shared.ensures) at c.in_ok-read_row.ensures)
    ∙ sym (row_is (part_columns c.self.inside.shared.value.body.value.items c.self.inside.shared.value.parts.items)
    c.self.inside.shared.value.count
    c.args.row _ (ap (λ (v : Contents). v.rows) c.self.view_is) c.requires)
