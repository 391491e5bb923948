use Rattle.std.proofs.Common.{◌≡◌, take}
use Rattle.ipc_dict.specs.Noting.{tally_lengths}
use Rattle.ipc_dict.proofs.tally.mark.Given as goal

abbrev pub invariant-loop-i : goal.invariant-loop-i
invariant-loop-i l = take l.i l.marks ≡ tally_lengths (take l.i l.entries)
