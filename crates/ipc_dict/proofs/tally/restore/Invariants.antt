use Rattle.std.proofs.Common.{◌≡◌, ◌++◌, take, drop}
use Rattle.ipc_dict.specs.Noting.{truncated_tally}
use Rattle.ipc_dict.proofs.tally.restore.Given as goal

abbrev pub invariant-loop-i : goal.invariant-loop-i
invariant-loop-i l = take l.i l.entries ++ truncated_tally (drop l.i l.marks) (drop l.i l.entries)
    ≡ truncated_tally l.marks l.initial.entries
