use Rattle.std.proofs.Common.{◌≡◌, ◌++◌, drop}
use Rattle.ipc_dict_read.specs.ValuesColumns.{dictionary_columns}
use Rattle.ipc_dict_read.proofs.values_columns.+collect_columns.Given as goal

abbrev pub invariant-collect_columns-loop-field : goal.invariant-collect_columns-loop-field
invariant-collect_columns-loop-field l =
    l.columns_by_id.items ++ dictionary_columns (drop l.field-index l.fields) ≡ l.initial.columns_by_id.items ++ dictionary_columns l.fields
