-- A failed try appends nothing.
use Rattle.std.specs.Io.KnownBytes.{Keeps}
use Rattle.ipc_device.proofs.retry.RetryWrite.flush.Given as goal

abbrev pub invariant-loop : goal.invariant-loop
invariant-loop g l = Keeps (g.T.Write.contents l.initial.self.inner) (g.T.Write.contents l.self.inner)
