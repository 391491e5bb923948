use Rattle.std.proofs.Common.{◌≡◌, ◌++◌, drop}
use Rattle.ipc_dict.specs.Planning.{sends_of}
use Rattle.ipc_dict.proofs.settle.sends_of.Given as goal

abbrev pub invariant-loop-i : goal.invariant-loop-i
invariant-loop-i l =
    l.sends.items ++ sends_of (drop l.i l.entries) (drop l.i l.numbers) ≡ sends_of l.entries l.numbers
