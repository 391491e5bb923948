use Rattle.std.proofs.Common.{◌≡◌, ◌∙◌, sym, ap, [], ◌∷◌}
use Rattle.ipc_model.specs.declared.layout.Layout.{Layout}
use Rattle.ipc_model.specs.declared.schema.Field.{out-Field, fold_out-Field}
use Rattle.ipc_model.specs.declared.schema.Field.{Field}
use Rattle.ipc_model.specs.Layouts.{layout}
use Rattle.ipc_column.specs.Shapes.{Shape, bare, field, child_shape, field_layout, shape_step}
use Rattle.ipc_encode.proofs.column_sizes.ColumnSizes.new.Goals as goal

-- the shape of a column without children
alone : (f : Field) (l : Layout) → child_shape f ≡ bare → l ≡ layout (out-Field f).kind (out-Field f).dictionary
    → field (field_layout f) (child_shape f) bare ≡ field l bare bare
alone f l none is =
    let laid : field_layout f ≡ l = ap (λ (s : Layout × Shape). s.0) (fold_out-Field (Layout × Shape) shape_step f) ∙ sym is in
    ap (λ (k : Layout). field k (child_shape f) bare) laid ∙ ap (λ (s : Shape). field l s bare) none

pub returns-clause-counts : goal.returns-clause-counts
returns-clause-counts c = c.within_body.ensures.counts (c.args.field.now ∷ []) []
    (alone c.args.field.now c.layout_of.result c.requires c.layout_of.ensures) (c.none.ensures c.args.limits.now c.layout_of.result)

pub returns-clause-refused : goal.returns-clause-refused
returns-clause-refused c = c.within_body.ensures.refused (c.args.field.now ∷ []) []
    (alone c.args.field.now c.layout_of.result c.requires c.layout_of.ensures) (c.none.ensures c.args.limits.now c.layout_of.result)
