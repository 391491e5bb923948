use Rattle.std.proofs.Common.{◌-◌, length}
use Rattle.ipc_device.proofs.SentBytes.{SentSome}
use Rattle.ipc_device.proofs.send.send_all.Given as goal

abbrev pub invariant-loop-sent : goal.invariant-loop-sent
invariant-loop-sent g l = SentSome (g.W.Sink.written l.fn.sink) (g.W.Sink.written l.sink) (g.W.Sink.failures l.fn.sink)
    (g.W.Sink.failures l.sink) l.bytes l.sent

abbrev pub decreases-loop-sent : goal.decreases-loop-sent
decreases-loop-sent g l = length l.bytes - l.sent
