-- The dictionaries of a stream that is written (Arrow Columnar Format, "Dictionary Messages").
use Rattle.std.specs.Prelude.{◌≡◌, ℕ, zero, suc, ℤ, List, [], ◌∷◌, ◌++◌, map, take, Some, None}
use Rattle.ipc_model.specs.declared.limits.Limits.{Limits}
use Rattle.ipc_model.specs.declared.schema.Field.{Field}
use Rattle.ipc_model.specs.declared.schema.Schema.{Schema}
use Rattle.ipc_model.specs.declared.table.BatchRows.{BatchRows}
use Rattle.ipc_model.specs.declared.table.Table.{Table}
use Rattle.ipc_model.specs.declared.value.Value.{Value}
use Rattle.ipc_dict_read.specs.InForce.{at}
use Rattle.ipc_dict.specs.declared.kept.KeptEntry.{KeptEntry}
use Rattle.ipc_dict.specs.Noting.{AllFit}
use Rattle.ipc_dict.specs.Planning.{sent_for}
use Rattle.ipc_dict.specs.SchemaIds.{ids_of, nothing_sent}
use Rattle.ipc_dict.specs.Sending.{dictionaries_to_send, tally_of_rows, sent_after}
use Rattle.ipc_dict.specs.Within.{AllWithin, HaveShortMessages}
use Rattle.ipc_frame.specs.Frames.{end_of_stream}
use Rattle.ipc_stream_read.specs.Stream.{InForce, State, Run, IsMessage, OpensStream, batch}
use Rattle.ipc_stream_read.specs.Stream.{events_of}
use Rattle.ipc_stream_read.specs.Stream.{values_in_force, set_dictionary}

-- no dictionary of the schema was sent
abbrev pub kept_at_start : Schema → List KeptEntry
kept_at_start s = nothing_sent (ids_of s.fields)

-- the values sent of each dictionary after these batches, one after another
abbrev pub kept_after : List Field → List KeptEntry → List BatchRows → List KeptEntry
kept_after fields kept [] = kept
kept_after fields kept (b ∷ more) = kept_after fields (sent_after fields b.rows kept) more

-- for a reader, this schema is in force, and the values that were sent last of each dictionary,
-- whatever bytes set them
pub record IsInForce (s : Schema) (kept : List KeptEntry) (o : InForce) : Type 0 where
  pub schema_is : o.schema ≡ s
  pub values_are : (id : ℤ) → at (values_in_force o.dictionaries) id ≡ sent_for kept id

-- x is messages that report exactly these batches: from each state in which the values sent are in
-- force, to one in which they are with those of the batches
abbrev pub DenotesBatches : Limits → Schema → List KeptEntry → List BatchRows → List ℕ → Type 0
DenotesBatches limits s kept batches x = (o : InForce) → IsInForce s kept o
    → (τ : InForce) × (IsInForce s (kept_after s.fields kept batches) τ
    × Run limits (Some o) x (map batch batches) (Some τ))

-- x is messages that report a table and lead to a state in which the values that its batches sent
-- are in force
abbrev pub DenotesTable : Limits → Table → List ℕ → Type 0
DenotesTable limits t x = (τ : InForce)
    × (IsInForce t.schema (kept_after t.schema.fields (kept_at_start t.schema) t.batches) τ
    × Run limits None x (events_of t) (Some τ))

-- x is one message, which sets the dictionary with this id to the values of these rows, whatever
-- was in force before
abbrev pub IsDictionaryMessage : Limits → Schema → ℤ × List (List Value) → List ℕ → Type 0
IsDictionaryMessage limits s send x = (bytes : ℕ) × ((o : InForce) → o.schema ≡ s
    → IsMessage limits (Some o) x [] (Some (set_dictionary o send.0 send.1 bytes)))

-- x is such messages (`IsDictionaryMessage`), one for each of these dictionaries, in their order
pub data DictionaryMessages (limits : Limits) (s : Schema) : List (ℤ × List (List Value)) → List ℕ
    → Type 0 where
  sets_none : DictionaryMessages limits s [] []
  sets_more : {send : ℤ × List (List Value)} {sends : List (ℤ × List (List Value))} {x y : List ℕ}
      → IsDictionaryMessage limits s send x → DictionaryMessages limits s sends y
      → DictionaryMessages limits s (send ∷ sends) (x ++ y)

-- x is the messages of a batch with these pairs and rows, given the values already sent of each
-- dictionary: one for each dictionary that is sent before it, then its own. Read in turn, they
-- report exactly this batch
pub record SendsBatch (limits : Limits) (s : Schema) (kept : List KeptEntry) (b : BatchRows)
    (x : List ℕ) : Type 0 where
  pub dictionaries : List ℕ
  pub own : List ℕ
  pub bytes : x ≡ dictionaries ++ own
  pub set : DictionaryMessages limits s (dictionaries_to_send s.fields b.rows kept) dictionaries
  pub report : (o : InForce) → IsInForce s (sent_after s.fields b.rows kept) o
      → IsMessage limits (Some o) own (batch b ∷ []) (Some o)
  pub in_turn : DenotesBatches limits s kept (b ∷ []) x

-- x is the messages of several batches (`SendsBatch`), one after another
pub data SendsBatches (limits : Limits) (s : Schema) : List KeptEntry → List BatchRows → List ℕ
    → Type 0 where
  sends_none : {kept : List KeptEntry} → SendsBatches limits s kept [] []
  sends_more : {kept : List KeptEntry} {b : BatchRows} {batches : List BatchRows} {x y : List ℕ}
      → SendsBatch limits s kept b x
      → SendsBatches limits s (sent_after s.fields b.rows kept) batches y
      → SendsBatches limits s kept (b ∷ batches) (x ++ y)

-- x is the messages of a table: its schema's, and those of its batches in order
pub record SendsTable (limits : Limits) (t : Table) (x : List ℕ) : Type 0 where
  pub front : List ℕ
  pub rest : List ℕ
  pub bytes : x ≡ front ++ rest
  pub opens : OpensStream limits t.schema front
  pub sends : SendsBatches limits t.schema (kept_at_start t.schema) t.batches rest

-- x is the messages of a table (`SendsTable`) and the end mark
abbrev pub SendsStream : Limits → Table → List ℕ → Type 0
SendsStream limits t x = (y : List ℕ) × (x ≡ y ++ end_of_stream) × SendsTable limits t y

-- the state after the messages of the first `count` events of a table: nothing, or the schema with
-- the values that the batches sent of each dictionary
abbrev pub IsStateOf : Table → ℕ → State → Type 0
IsStateOf t zero σ = σ ≡ None
IsStateOf t (suc count) None = ⊥
IsStateOf t (suc count) (Some o) = IsInForce t.schema
    (kept_after t.schema.fields (kept_at_start t.schema) (take count t.batches)) o

-- the distinct values that rows have of each dictionary: each index type of its fields can address
-- them, and as the column of one message they are within the limits. So is the metadata of that
-- message
pub record AreDictionariesWithin (limits : Limits) (fields : List Field)
    (rows : List (List Value)) : Type 0 where
  pub counted : AllFit (tally_of_rows fields rows)
  pub lengths : AllWithin limits fields (tally_of_rows fields rows)
  pub short_messages : HaveShortMessages limits fields
