use Rattle.std.proofs.Common.{◌≡◌, ℕ, ◌+◌, ◌<◌, drop, Some}
use Rattle.std.specs.Prelude.{slice_get}
use Rattle.ipc_model.specs.declared.schema.Field.{Field}
use Rattle.ipc_dict.specs.ColumnNotes.{HasOtherDictionaries}
use Rattle.ipc_dict.proofs.column_notes.have_distinct_dictionaries.Given as goal

-- each of the first fields is apart from all behind it
abbrev pub invariant-loop-i : goal.invariant-loop-i
invariant-loop-i l = (k : ℕ) → k < l.i → (f : Field) → slice_get l.fields k ≡ Some f → HasOtherDictionaries f (drop (k + 1) l.fields)
