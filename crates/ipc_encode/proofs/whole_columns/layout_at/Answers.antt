use Rattle.std.proofs.Common.{◌∙◌, sym, ap}
use Rattle.ipc_model.specs.declared.layout.Layout.{Layout}
use Rattle.ipc_column.specs.Shapes.{Shape}
use Rattle.ipc_encode.proofs.SegmentColumns.{field_parts}
use Rattle.ipc_encode.proofs.whole_columns.layout_at.Goals as goal

pub returns : goal.returns
returns c = c.layout_of.ensures ∙ sym (ap (λ (s : Layout × Shape). s.0) (field_parts c.args.field.now))
