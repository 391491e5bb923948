-- The values that a writer has sent of each dictionary after a batch is sent
-- (Arrow Columnar Format, "Dictionary Messages").
use Rattle.std.specs.Prelude.{◌≤◌, ℕ, ℤ, List, [], ◌∷◌, ◌++◌, length, map, Option, Some, None}
use Rattle.std.specs.Prelude.{Contains, if◌then◌else◌}
use Rattle.std.specs.List.{list_all}
use Rattle.std.specs.Option.{IfSome}
use Rattle.ipc_model.specs.declared.schema.Dictionary.{Dictionary}
use Rattle.ipc_model.specs.declared.schema.Field.{Field}
use Rattle.ipc_model.specs.declared.value.Value.{Value}
use Rattle.ipc_dict.specs.declared.entry.TallyEntry.{TallyEntry}
use Rattle.ipc_dict.specs.declared.kept.KeptEntry.{KeptEntry}
use Rattle.ipc_dict.specs.Distinct.{is_among, distinct}
use Rattle.ipc_dict.specs.Noting.{of_id, note_all, values_noted_for}
use Rattle.ipc_dict.specs.Pairs.{rows_pairs}
use Rattle.ipc_dict.specs.Planning.{sent_for, times_sent}
use Rattle.ipc_dict.specs.SchemaIds.{of_fields, index_capacity, empty_entries}

-- the distinct values other than null that rows have for the dictionary with the id, in order of
-- first appearance
abbrev pub batch_values : List Field → List (List Value) → ℤ → List Value
batch_values fields rows id = distinct (of_id id (rows_pairs fields rows))

-- the distinct values of each dictionary, with its id: the tally of the rows
abbrev pub tally_of_rows : List Field → List (List Value) → List TallyEntry
tally_of_rows fields rows = note_all (empty_entries fields) (rows_pairs fields rows)

-- a dictionary's values after a batch with these was sent: these, if none were sent before or one
-- of these is not among them; otherwise those sent before
abbrev pub sent_next : Option (List Value) → List Value → Option (List Value)
sent_next None values = Some values
sent_next (Some known) values =
    if list_all (is_among known) values then Some known else Some values

-- how often a dictionary was sent after a batch with these values was sent
abbrev pub times_sent_next : Option (List Value) → List Value → ℕ → ℕ
times_sent_next None values n = times_sent n None
times_sent_next (Some known) values n =
    if list_all (is_among known) values then n else times_sent n None

-- the values sent of one dictionary after a batch of these rows
abbrev pub sent_entry : List Field → List (List Value) → KeptEntry → KeptEntry
sent_entry fields rows e = record e {
  values = sent_next e.values (batch_values fields rows e.id);
  sent = times_sent_next e.values (batch_values fields rows e.id) e.sent;
}

-- the values sent of each dictionary after a batch of these rows
abbrev pub sent_after : List Field → List (List Value) → List KeptEntry → List KeptEntry
sent_after fields rows kept = map (sent_entry fields rows) kept

-- what is sent of a dictionary before a batch with these values: its id, and each value as a row of
-- one column. Nothing, if values were sent before and all of these are among them
abbrev pub needed_of : Option (List Value) → ℤ → List Value → List (ℤ × List (List Value))
needed_of None id values = (id, map (λ v. v ∷ []) values) ∷ []
needed_of (Some known) id values =
    if list_all (is_among known) values then [] else (id, map (λ v. v ∷ []) values) ∷ []

-- the dictionaries that are sent before a batch of these rows, in the order in which their ids
-- first occur in the schema. Each has exactly the distinct values other than null that the batch
-- has for the id, in order of first appearance
abbrev pub dictionaries_to_send : List Field → List (List Value) → List KeptEntry
    → List (ℤ × List (List Value))
dictionaries_to_send fields rows [] = []
dictionaries_to_send fields rows (e ∷ kept) =
    needed_of e.values e.id (batch_values fields rows e.id) ++ dictionaries_to_send fields rows kept

-- each index type of the fields can address the values that a tally or a plan has of its dictionary
abbrev pub AreAddressed : List Field → List TallyEntry → Type 0
AreAddressed fields entries = (d : Dictionary) → Contains (of_fields fields) d
    → IfSome (values_noted_for entries d.id) (λ values. length values ≤ index_capacity d)

-- the number of values sent of a dictionary is within what each index type of its fields can
-- address
abbrev pub AreCounted : List Field → List KeptEntry → Type 0
AreCounted fields kept = (d : Dictionary) → Contains (of_fields fields) d
    → IfSome (sent_for kept d.id) (λ known. length known ≤ index_capacity d)
