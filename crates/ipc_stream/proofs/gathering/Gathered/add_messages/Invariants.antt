use Rattle.std.proofs.Common.{◌≡◌, ◌++◌, take}
use Rattle.ipc_stream.specs.Messages.{all_bytes, gathered_bytes}
use Rattle.ipc_stream.proofs.gathering.Gathered.add_messages.Given as goal

abbrev pub invariant-loop-message : goal.invariant-loop-message
invariant-loop-message l = gathered_bytes l.self ≡ gathered_bytes l.fn.self ++ all_bytes (take l.message-index l.messages)
