use Rattle.ipc_column.proofs.Laws.{one_list}
use Rattle.ipc_column.proofs.batch.one_list_of_rows.Goals as goal

pub returns : goal.returns
returns c = one_list
