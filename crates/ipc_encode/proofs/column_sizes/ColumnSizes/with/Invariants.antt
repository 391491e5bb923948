use Rattle.std.proofs.Common.{◌++◌, List, take}
use Rattle.ipc_model.specs.declared.value.Value.{Value}
use Rattle.ipc_encode.specs.Built.{AreCountsOf}
use Rattle.ipc_encode.proofs.column_sizes.ColumnSizes.with.Given as goal

abbrev pub invariant-loop-value : goal.invariant-loop-value
invariant-loop-value l = (before : List Value) → AreCountsOf l.limits l.self.layout before l.self.counts
    → AreCountsOf l.limits l.self.layout (before ++ take l.value-index l.values) l.counts
