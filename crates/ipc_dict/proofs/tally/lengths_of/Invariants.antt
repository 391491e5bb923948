use Rattle.std.proofs.Common.{◌≡◌, take}
use Rattle.ipc_dict.specs.Noting.{tally_lengths}
use Rattle.ipc_dict.proofs.tally.lengths_of.Given as goal

abbrev pub invariant-loop-entry : goal.invariant-loop-entry
invariant-loop-entry l = l.lengths.items ≡ tally_lengths (take l.entry-index l.entries)
