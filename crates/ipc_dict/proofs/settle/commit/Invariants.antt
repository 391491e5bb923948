use Rattle.std.proofs.Common.{◌≡◌, ◌++◌, take, drop}
use Rattle.ipc_dict.specs.Planning.{after_all}
use Rattle.ipc_dict.proofs.settle.commit.Given as goal

abbrev pub invariant-loop-i : goal.invariant-loop-i
invariant-loop-i l =
    take l.i l.kept ++ after_all (drop l.i l.kept) (drop l.i l.entries) (drop l.i l.numbers)
    ≡ after_all l.initial.kept l.initial.entries l.numbers
