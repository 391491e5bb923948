use Rattle.std.proofs.Common.{◌≡◌, map, drop}
use Rattle.ipc_dict.specs.Noting.{note_all, AllFit, AllGrow}
use Rattle.ipc_dict.specs.Pairs.{pairs, items_pairs, each_pairs}
use Rattle.ipc_dict.proofs.walk.+note.Given as goal

abbrev pub invariant-note_each-loop-number : goal.invariant-note_each-loop-number
invariant-note_each-loop-number l =
    record {
      noted : note_all l.entries (each_pairs (map pairs (drop l.number l.fields)) (drop l.number l.values))
          ≡ note_all l.initial.entries (each_pairs (map pairs l.fields) l.values);
      fits : AllFit l.initial.entries → AllFit l.entries;
      grows : AllGrow l.initial.entries l.entries;
    }

abbrev pub invariant-note_items-loop-value : goal.invariant-note_items-loop-value
invariant-note_items-loop-value l =
    record {
      noted : note_all l.entries (items_pairs (pairs l.child) (drop l.value-index l.values))
          ≡ note_all l.initial.entries (items_pairs (pairs l.child) l.values);
      fits : AllFit l.initial.entries → AllFit l.entries;
      grows : AllGrow l.initial.entries l.entries;
    }
