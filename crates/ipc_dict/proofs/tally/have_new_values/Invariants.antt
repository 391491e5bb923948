use Rattle.std.proofs.Common.{◌≡◌, take}
use Rattle.ipc_dict.specs.Noting.{tally_lengths}
use Rattle.ipc_dict.proofs.tally.have_new_values.Given as goal

abbrev pub invariant-loop-i : goal.invariant-loop-i
invariant-loop-i l = tally_lengths (take l.i l.entries) ≡ take l.i l.marks
