use Rattle.std.proofs.Common.{◌≡◌, ℕ, ◌<◌, get_or, false, int_eq}
use Rattle.ipc_dict.specs.declared.entry.TallyEntry.{TallyEntry}
use Rattle.ipc_dict.proofs.entry.find.Given as goal

abbrev pub invariant-loop-i : goal.invariant-loop-i
invariant-loop-i l = (k : ℕ) (d : TallyEntry) → k < l.i → int_eq (get_or l.entries k d).id l.id ≡ false
