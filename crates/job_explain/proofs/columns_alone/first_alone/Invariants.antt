use Rattle.std.proofs.Common.{◌≡◌, ◌<◌, ℕ, IfSome}
use Rattle.ipc_column.specs.DictionaryBatches.{dictionaries_in}
use Rattle.job_explain.specs.ColumnsAlone.{PassesAlone, buffers_before, column, column_head, nodes_before}
use Rattle.job_explain.proofs.columns_alone.first_alone.Given as goal

abbrev pub invariant-loop-number : goal.invariant-loop-number
invariant-loop-number l = record {
  node : l.place.node ≡ nodes_before l.fields l.number;
  buffer : l.place.buffer ≡ buffers_before l.fields l.number;
  spare : IfSome l.spare (λ copy. copy.items ≡ l.body);
  passed : (j : ℕ) → j < l.number → PassesAlone l.limits l.fault (dictionaries_in l.dictionaries) (column l.fields j)
      (column_head l.fields l.head j) l.body;
}
