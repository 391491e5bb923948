use Rattle.std.proofs.Common.{◌≡◌, drop}
use Rattle.ipc_dict_read.specs.ValuesColumns.{columns_for}
use Rattle.ipc_dict_read.proofs.dictionaries.columns_at.Given as goal

abbrev pub invariant-loop-entry : goal.invariant-loop-entry
invariant-loop-entry l = columns_for (drop l.entry-index l.columns) l.id ≡ columns_for l.columns l.id
