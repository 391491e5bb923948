use Rattle.std.proofs.Common.{◌≡◌, ℕ, ◌<◌, get_or, false, int_eq}
use Rattle.ipc_dict.specs.declared.entry.TallyEntry.{TallyEntry}
use Rattle.ipc_dict.proofs.schema_ids.find_entry.Given as goal

abbrev pub invariant-loop-i : goal.invariant-loop-i
invariant-loop-i l = (k : ℕ) (e : TallyEntry) → k < l.i → int_eq (get_or l.entries k e).id l.dictionary.id ≡ false
