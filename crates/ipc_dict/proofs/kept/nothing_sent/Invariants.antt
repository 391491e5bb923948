use Rattle.std.proofs.Common.{◌≡◌, take}
use Rattle.ipc_dict.specs.SchemaIds.{tally_ids, nothing_sent}
use Rattle.ipc_dict.proofs.kept.nothing_sent.Given as goal

abbrev pub invariant-loop-entry : goal.invariant-loop-entry
invariant-loop-entry l = l.kept.items ≡ nothing_sent (tally_ids (take l.entry-index l.entries))
