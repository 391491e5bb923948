use Rattle.ipc_dict_read.proofs.ValuesColumns as law
use Rattle.ipc_dict_read.proofs.values_columns.one_column.Goals as goal

pub returns : goal.returns
returns c = law.one_column
