use Rattle.std.proofs.Common.{◌∙◌, ap, sym, w64}
use Rattle.std.proofs.lemmas.Int.{to_z-of_z}
use Rattle.ipc_dict_read.specs.ValuesColumns.{columns_for}
use Rattle.ipc_stream_read.proofs.Dictionaries.{few_columns}
use Rattle.job_explain.proofs.explained.values_column.Goals as goal

pub returns-clause-few : goal.returns-clause-few
returns-clause-few c =
    rw c.as_slice.ensures
    (few_columns c.args.scope.now.limits c.args.scope.now.schema.fields c.args.id c.in_ok-fields_of.field-0.now c.args.scope.now.few_fields
    (ap (λ ds. columns_for ds c.args.id) (sym c.args.scope.now.columns)
    ∙ (ap (columns_for c.args.scope.now.dictionaries.columns) (sym (to_z-of_z w64 c.args.id c.ranges.id)) ∙ sym c.in_ok-fields_of.ensures)))
