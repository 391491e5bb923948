use Rattle.std.proofs.Common.{◌≡◌, drop}
use Rattle.ipc_dict.specs.Planning.{last_sent}
use Rattle.ipc_dict.proofs.kept.Kept.last_sent.Given as goal

abbrev pub invariant-loop-entry : goal.invariant-loop-entry
invariant-loop-entry l = last_sent (drop l.entry-index l.self) l.id ≡ last_sent l.self l.id
