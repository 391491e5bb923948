use Rattle.std.proofs.Common.{◌≡◌, drop}
use Rattle.ipc_column.specs.Nested.{slot_values}
use Rattle.ipc_dict.specs.ColumnNotes.{AreNoted}
use Rattle.ipc_dict.specs.Noting.{note_all, AllFit, AllGrow}
use Rattle.ipc_dict.specs.Pairs.{pairs, items_pairs}
use Rattle.ipc_dict.proofs.column_notes.note_column.Given as goal

-- what is left are the values of the slots behind
abbrev pub invariant-loop-slot : goal.invariant-loop-slot
invariant-loop-slot l = record {
  noted : note_all l.entries (items_pairs (pairs l.field) (drop l.slot (slot_values l.slots)))
      ≡ note_all l.initial.entries (items_pairs (pairs l.field) (slot_values l.slots));
  kept : AreNoted l.entries l.field l.slots.column.dictionary l.noted.items;
  fits : AllFit l.initial.entries → AllFit l.entries;
  grows : AllGrow l.initial.entries l.entries;
}
