use Rattle.std.proofs.Common.{◌≡◌, ◌<◌, ◌++◌, ℕ, take, get_or}
use Rattle.ipc_model.specs.declared.value.Value.TheVariants.{Null}
use Rattle.ipc_column.specs.Nested.{slot_values}
use Rattle.ipc_column.specs.Values.{is_valid}
use Rattle.ipc_encode.specs.Cells.{is_set, slots}
use Rattle.ipc_encode.specs.EntryNumbers.{HasNumbers}
use Rattle.ipc_encode.specs.Numbers.{known_indices, new_indices, numbers_of}
use Rattle.ipc_encode.specs.Pieces.{Number, Valid}
use Rattle.ipc_encode.proofs.indexed_columns.push_slot_numbers.Given as goal

-- the numbers of the first slots, whose nulls the bitmap marks
abbrev pub invariant-loop-slot : goal.invariant-loop-slot
invariant-loop-slot g l = record {
  noted : HasNumbers (new_indices (g.N.Renumber.number l.numbers) (known_indices (g.I.IndexOf.index l.indices)) l.id)
      l.view.column.dictionary l.table.items;
  marked : (i : ℕ) → i < l.slot → is_set Valid (get_or (slot_values l.view) i Null) ≡ is_valid l.view.column.validity i;
  pushed : l.values.items ≡ l.fn.values.items ++ slots (Number l.bits) (take l.slot (numbers_of (new_indices
      (g.N.Renumber.number l.numbers) (known_indices (g.I.IndexOf.index l.indices)) l.id) (slot_values l.view)));
}
