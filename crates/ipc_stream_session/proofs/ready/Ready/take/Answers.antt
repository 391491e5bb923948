use Rattle.std.proofs.Common.{rules}
use Rattle.ipc_stream_session.proofs.Moved.{moved}
use Rattle.ipc_stream_session.proofs.ready.Ready.take.Goals as goal

pub returns : goal.returns
returns c = search (rules, moved)
