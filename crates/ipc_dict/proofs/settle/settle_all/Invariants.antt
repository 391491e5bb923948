use Rattle.std.proofs.Common.{take}
use Rattle.ipc_dict.specs.Planning.{AllSettled}
use Rattle.ipc_dict.proofs.settle.settle_all.Given as goal

abbrev pub invariant-loop-i : goal.invariant-loop-i
invariant-loop-i l = AllSettled (take l.i l.kept) (take l.i l.entries) l.numbers.items
