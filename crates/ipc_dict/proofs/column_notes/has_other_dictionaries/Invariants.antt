use Rattle.std.proofs.Common.{ℕ, ◌<◌, get_or}
use Rattle.ipc_model.specs.declared.schema.Field.{Field}
use Rattle.ipc_model.specs.declared.value.Value.{Value}
use Rattle.ipc_dict.specs.ColumnNotes.{AreOthers}
use Rattle.ipc_dict.specs.Pairs.{pairs}
use Rattle.ipc_dict.proofs.column_notes.has_other_dictionaries.Given as goal

-- the field is apart from the first others
abbrev pub invariant-loop-other : goal.invariant-loop-other
invariant-loop-other l = (k : ℕ) → k < l.other-index → (g : Field) (v w : Value)
    → AreOthers (pairs l.field v) (pairs (get_or l.others k g) w)
