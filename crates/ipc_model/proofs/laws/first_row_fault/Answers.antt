use Rattle.ipc_model.proofs.FirstRowFaults.{first_both}
use Rattle.ipc_model.proofs.laws.first_row_fault.Goals as goal

pub returns : goal.returns
returns c fields row fault = first_both fields row fault
