use Rattle.ipc_stream_read.proofs.Verdicts.{verdict_one}
use Rattle.ipc_stream_read.proofs.laws.one_verdict.Goals as goal

pub returns : goal.returns
returns c = verdict_one
