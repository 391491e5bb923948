use Rattle.std.proofs.Common.{List, take}
use Rattle.ipc_model.specs.declared.schema.Field.{Field}
use Rattle.ipc_dict.specs.EntryColumns.{AllCounted}
use Rattle.ipc_dict.specs.Noting.{truncated_tally}
use Rattle.ipc_dict.proofs.columns.count_next.Given as goal

abbrev pub invariant-loop-i : goal.invariant-loop-i
invariant-loop-i l = (fields : List Field) → AllCounted l.limits fields (truncated_tally l.marks l.entries) l.before
    → AllCounted l.limits fields (take l.i l.entries) (take l.i l.next)
