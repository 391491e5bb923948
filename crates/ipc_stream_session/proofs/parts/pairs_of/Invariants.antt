use Rattle.std.proofs.Common.{◌≡◌, ◌*◌, take}
use Rattle.ipc_stream.specs.Canonical.{flat}
use Rattle.ipc_stream_session.proofs.parts.pairs_of.Given as goal

abbrev pub invariant-loop-at : goal.invariant-loop-at
invariant-loop-at l = flat l.pairs.items ≡ take (2 * l.at) l.numbers
