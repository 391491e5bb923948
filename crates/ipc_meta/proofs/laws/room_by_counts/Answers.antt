use Rattle.ipc_meta.proofs.written.WrittenOrder.{batch_needs}
use Rattle.ipc_meta.proofs.laws.room_by_counts.Goals as goal

pub returns : goal.returns
returns c = λ head pairs m. batch_needs head pairs m
