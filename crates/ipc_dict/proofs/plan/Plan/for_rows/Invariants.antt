use Rattle.std.proofs.Common.{◌≡◌, false, drop}
use Rattle.ipc_dict.specs.Noting.{note_all, AllFit}
use Rattle.ipc_dict.specs.Pairs.{rows_pairs}
use Rattle.ipc_dict.specs.SchemaIds.{tally_ids, ids_of, empty_entries}
use Rattle.ipc_dict.proofs.plan.Plan.for_rows.Given as goal

abbrev pub invariant-loop-row : goal.invariant-loop-row
invariant-loop-row l = record {
  limits : l.tally.limits ≡ l.limits;
  failed : l.tally.failed ≡ false;
  fields : l.tally.fields ≡ l.schema.fields;
  noted : note_all l.tally.entries (rows_pairs l.schema.fields (drop l.row-index l.rows))
      ≡ note_all (empty_entries l.schema.fields) (rows_pairs l.schema.fields l.rows);
  fits : AllFit l.tally.entries;
  ids : tally_ids l.tally.entries ≡ ids_of l.schema.fields;
}
