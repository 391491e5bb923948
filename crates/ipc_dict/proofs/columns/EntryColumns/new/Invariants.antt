use Rattle.std.proofs.Common.{◌≡◌, length, take}
use Rattle.ipc_dict.specs.EntryColumns.{AllCounted}
use Rattle.ipc_dict.proofs.columns.EntryColumns.new.Given as goal

abbrev pub invariant-loop-entry : goal.invariant-loop-entry
invariant-loop-entry l = record {
  counted : AllCounted l.limits l.schema.fields (take l.entry-index l.entries) l.sizes.items;
  room : length l.next.items ≡ length l.sizes.items;
}
