use Rattle.std.proofs.Common.{take}
use Rattle.ipc_dict.specs.Planning.{AreFirstIndices}
use Rattle.ipc_dict.proofs.settle.numbers_in.Given as goal

abbrev pub invariant-loop-value : goal.invariant-loop-value
invariant-loop-value l = AreFirstIndices l.distinct (take l.value-index l.values) l.to.items
