use Rattle.std.proofs.Common.{◌∙◌, sym, ap, length}
use Rattle.ipc_column.specs.Contents.{Contents}
use Rattle.ipc_column.specs.declared.batch.Shared.{Shared}
use Rattle.ipc_column.specs.Views.{part_columns}
use Rattle.ipc_column.proofs.Cells.{rows_length}
use Rattle.ipc_column.proofs.batch.Batch.rows.Goals as goal

pub returns : goal.returns
returns c =
    ap (λ (s : Shared). s.count) c.deref.ensures
    ∙ sym (rows_length (part_columns c.self.inside.shared.value.body.value.items c.self.inside.shared.value.parts.items)
    c.self.inside.shared.value.count) ∙ ap (λ (v : Contents). length v.rows) c.self.view_is
