use Rattle.ipc_stream_read.proofs.Wider.{denotes_wider}
use Rattle.ipc_stream_read.proofs.laws.wider.Goals as goal

pub returns : goal.returns
returns c = denotes_wider
