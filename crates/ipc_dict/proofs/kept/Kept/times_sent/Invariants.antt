use Rattle.std.proofs.Common.{◌≡◌, drop}
use Rattle.ipc_dict.specs.Planning.{times_sent_for}
use Rattle.ipc_dict.proofs.kept.Kept.times_sent.Given as goal

abbrev pub invariant-loop-entry : goal.invariant-loop-entry
invariant-loop-entry l = times_sent_for (drop l.entry-index l.self) l.id ≡ times_sent_for l.self l.id
