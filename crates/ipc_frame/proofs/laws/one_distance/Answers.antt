use Rattle.ipc_frame.proofs.Undecided.{pending_one}
use Rattle.ipc_frame.proofs.laws.one_distance.Goals as goal

pub returns : goal.returns
returns c limits z j k p q = pending_one z j k p q
