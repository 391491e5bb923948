-- What a stream of messages denotes (Arrow Columnar Format, "IPC Streaming Format" and "Dictionary
-- Messages").
use Rattle.std.specs.Prelude.{◌≡◌, ℕ, ℤ, List, [], ◌∷◌, ◌++◌, length, map, Option, Some, None}
use Rattle.ipc_model.specs.declared.schema.Field.{Field}
use Rattle.ipc_model.specs.declared.schema.Schema.{Schema}
use Rattle.ipc_model.specs.declared.value.Value.{Value}
use Rattle.ipc_model.specs.declared.table.BatchRows.{BatchRows}
use Rattle.ipc_model.specs.declared.table.Table.{Table}
use Rattle.ipc_meta.specs.declared.head.Head.{Head}
use Rattle.ipc_meta.specs.declared.head.Head.TheVariants as head
use Rattle.ipc_meta.specs.declared.head.BatchHead.{BatchHead}
use Rattle.ipc_frame.specs.Frames.{end_of_stream, Encapsulates}
use Rattle.ipc_column.specs.Dictionaries.{Dictionaries}
use Rattle.ipc_column.specs.Rows.{Rows}
use Rattle.ipc_column.specs.Values.{first_of}
use Rattle.ipc_dict_read.specs.InForce.{put}
use Rattle.ipc_dict_read.specs.ValuesColumns.{dictionary_columns, columns_for}
use Rattle.ipc_stream_read.specs.declared.end.End.{End}
use Rattle.ipc_stream_read.specs.declared.end.End.TheVariants.{Mark, Closed}
use Rattle.ipc_model.specs.declared.limits.Limits.{Limits}

-- a dictionary that was set: its values, and the number of bytes of the body that set them
pub record DictionaryInForce : Type 0 where
  pub values : List Value
  pub bytes : ℕ

-- what is in force after the schema came: the schema, and each dictionary that was set, with its
-- id, in the order of the ids
pub record InForce : Type 0 where
  pub schema : Schema
  pub dictionaries : List (ℤ × DictionaryInForce)

-- the values of each dictionary in force, to which the indices of a batch refer
abbrev pub values_in_force : List (ℤ × DictionaryInForce) → Dictionaries
values_in_force dictionaries = map (λ e. (e.0, e.1.values)) dictionaries

-- what is in force; nothing before the schema
abbrev pub State : Type 0
State = Option InForce

-- what is in force after the schema's message: no dictionary yet
abbrev pub initial_state : Schema → InForce
initial_state s = record { schema = s; dictionaries = [] }

-- what is in force after the dictionary with the id is set to the values of these rows, from a body
-- of this many bytes; its earlier values are no longer in force
abbrev pub set_dictionary : InForce → ℤ → List (List Value) → ℕ → InForce
set_dictionary o id rows bytes = record o {
  dictionaries = put o.dictionaries id (record { values = map first_of rows; bytes = bytes });
}

-- the event that a message reports to a reader
pub data MessageEvent : Type 0 where
  schema : Schema → MessageEvent
  batch : BatchRows → MessageEvent

-- a message with this head and body changes the state and reports these events. The first is the
-- schema's; its body is not read. A record batch reports its pairs, and its rows under the
-- dictionaries in force. A dictionary batch of an id that a field names reports none: the rows of
-- its one column are set for the id
pub data Step (limits : Limits) : State → Head → List ℕ → List MessageEvent → State → Type 0 where
  schema_message : {s : Schema} {body : List ℕ}
      → Step limits None (head.Schema s) body (schema s ∷ []) (Some (initial_state s))
  record_batch : {o : InForce} {b : BatchHead} {pairs : List (List ℕ × List ℕ)} {body : List ℕ}
      {rows : List (List Value)}
      → Rows limits (values_in_force o.dictionaries) o.schema.fields b body rows
      → Step limits (Some o) (head.Batch b pairs) body
      (batch (record { pairs = pairs; rows = rows }) ∷ []) (Some o)
  dictionary_batch : {o : InForce} {id : ℤ} {b : BatchHead} {body : List ℕ} {columns : List Field}
      {rows : List (List Value)}
      → columns_for (dictionary_columns o.schema.fields) id ≡ Some columns
      → Rows limits [] columns b body rows
      → Step limits (Some o) (head.Dictionary id b) body []
      (Some (set_dictionary o id rows (length body)))

-- a list of messages, each of them a step, with their events in order
pub data Run (limits : Limits) : State → List ℕ → List MessageEvent → State → Type 0 where
  done : {σ : State} → Run limits σ [] [] σ
  more : {σ τ υ : State} {x metadata body y : List ℕ} {h : Head} {es fs : List MessageEvent}
      → Encapsulates limits x metadata h body → Step limits σ h body es τ → Run limits τ y fs υ
      → Run limits σ (x ++ y) (es ++ fs) υ

-- the events of a table: the schema, and then the batches in order
abbrev pub events_of : Table → List MessageEvent
events_of t = schema t.schema ∷ map batch t.batches

-- the bytes are a table's messages, without an end mark
abbrev pub DenotesClosed : Limits → List ℕ → Table → Type 0
DenotesClosed limits x t = (σ : State) × Run limits None x (events_of t) σ

-- the bytes are this table, with or without the end mark
abbrev pub Denotes : Limits → List ℕ → Table → End → Type 0
Denotes limits x t Closed = DenotesClosed limits x t
Denotes limits x t Mark = (y : List ℕ) × (x ≡ y ++ end_of_stream) × DenotesClosed limits y t

-- x is the message of the schema, with which a stream begins
abbrev pub OpensStream : Limits → Schema → List ℕ → Type 0
OpensStream limits s x = Run limits None x (schema s ∷ []) (Some (initial_state s))

-- x is messages that report this batch, whatever dictionaries they set
abbrev pub DenotesOneBatch : Limits → InForce → BatchRows → List ℕ → Type 0
DenotesOneBatch limits o b x = (τ : State) × Run limits (Some o) x (batch b ∷ []) τ

-- x is messages that report no event and change what is in force: they set dictionaries
abbrev pub SetsOnly : Limits → InForce → List ℕ → InForce → Type 0
SetsOnly limits o x p = Run limits (Some o) x [] (Some p)

-- x is one message, which changes the state and reports these events
pub record IsMessage (limits : Limits) (σ : State) (x : List ℕ) (events : List MessageEvent)
    (τ : State) : Type 0 where
  pub metadata : List ℕ
  pub head : Head
  pub body : List ℕ
  pub frame : Encapsulates limits x metadata head body
  pub step : Step limits σ head body events τ

-- x is the end mark
abbrev pub EndsStream : List ℕ → Type 0
EndsStream x = x ≡ end_of_stream

-- x is the stream of a table, with its end mark
abbrev pub IsTableOf : Limits → Table → List ℕ → Type 0
IsTableOf limits t x = Denotes limits x t Mark
