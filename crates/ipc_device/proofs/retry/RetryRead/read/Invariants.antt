-- A failed try consumes nothing, and the buffer keeps its length.
use Rattle.std.proofs.Common.{◌≡◌, length}
use Rattle.std.specs.Io.KnownBytes.{Keeps}
use Rattle.ipc_device.proofs.retry.RetryRead.read.Given as goal

abbrev pub invariant-loop : goal.invariant-loop
invariant-loop g l = (length l.into ≡ length l.initial.into) ×
    Keeps (g.T.Read.remaining l.initial.self.inner) (g.T.Read.remaining l.self.inner)
