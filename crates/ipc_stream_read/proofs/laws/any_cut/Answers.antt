use Rattle.ipc_stream_read.proofs.Verdicts.{cut_any}
use Rattle.ipc_stream_read.proofs.laws.any_cut.Goals as goal

pub returns : goal.returns
returns c = cut_any
