-- How the parts of a tally belong together.
use Rattle.std.specs.Prelude.{◌≡◌, ℕ, List, length, ◌⊎◌}
use Rattle.ipc_model.specs.declared.schema.Field.{Field}
use Rattle.ipc_dict.specs.declared.columns.EntryColumns.{EntryColumns}
use Rattle.ipc_dict.specs.declared.entry.TallyEntry.{TallyEntry}
use Rattle.ipc_dict.specs.EntryColumns.{AllCounted, AreEntriesCounted}
use Rattle.ipc_dict.specs.Noting.{AllFit, tally_lengths, truncated_tally}
use Rattle.ipc_dict.specs.SchemaIds.{tally_bounds, empty_entries}

-- no value came since the marks, or `next` has the counts of the dictionaries up to the marks
abbrev pub CanBeCut : List Field → List TallyEntry → List ℕ → EntryColumns → Type 0
CanBeCut fields entries marks columns = (tally_lengths entries ≡ marks)
    ⊎ AllCounted columns.limits fields (truncated_tally marks entries) columns.next.items

-- the entries are those of the fields' dictionaries, their columns are counted, and the marks are
-- how many values each had before the last that came
pub record AreOneTally (fields : List Field) (entries : List TallyEntry) (marks : List ℕ)
    (columns : EntryColumns) : Type 0 where
  pub bounds : tally_bounds entries ≡ tally_bounds (empty_entries fields)
  pub fits : AllFit entries
  pub counted : AreEntriesCounted fields entries columns
  pub parallel : length marks ≡ length entries
  pub marked : tally_lengths (truncated_tally marks entries) ≡ marks
  pub can_be_cut : CanBeCut fields entries marks columns
