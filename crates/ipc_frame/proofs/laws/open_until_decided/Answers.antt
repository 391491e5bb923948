use Rattle.ipc_frame.proofs.Undecided.{pending_frame, pending_refused}
use Rattle.ipc_frame.proofs.laws.open_until_decided.Goals as goal

pub returns : goal.returns
returns c limits z k p = record {
  no_frame = λ frame is. pending_frame z frame k p is;
  not_refused = λ fault r. pending_refused z k fault p r;
}
