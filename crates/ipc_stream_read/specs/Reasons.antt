-- How reading a stream ends, and why it breaks off (Arrow Columnar Format, "IPC Streaming Format").
use Rattle.std.specs.Prelude.{◌≢◌, ◌⊎◌, [], ◌≡◌, ℤ, ℕ, ◌≤◌, List, ◌++◌, length, Option, Some, None}
use Rattle.std.specs.Prelude.{Result, Ok, Err, ⊤}
use Rattle.std.specs.Io.KnownBytes.{IsAtEnd}
use Rattle.ipc_model.specs.declared.fault.Fault.{Fault}
use Rattle.ipc_model.specs.declared.fault.Fault.TheVariants.{OutOfMemory, Truncated}
use Rattle.ipc_model.specs.declared.fault.Fault.TheVariants.{MissingSchema, SecondSchema}
use Rattle.ipc_model.specs.declared.fault.Fault.TheVariants.{UnknownDictionary}
use Rattle.ipc_model.specs.WellFormed.{IsAmong}
use Rattle.ipc_model.specs.Entries.{Entry, entries}
use Rattle.ipc_model.specs.declared.schema.Dictionary.{Dictionary}
use Rattle.ipc_model.specs.declared.schema.Field.{Field}
use Rattle.ipc_model.specs.declared.schema.Schema.{Schema}
use Rattle.ipc_meta.specs.declared.head.BatchHead.{BatchHead}
use Rattle.ipc_meta.specs.declared.head.Head.TheVariants as h
use Rattle.ipc_frame.specs.declared.frame.Frame.{Frame}
use Rattle.ipc_frame.specs.declared.frame.Frame.TheVariants as f
use Rattle.ipc_frame.specs.Frames.{end_of_stream, Encapsulates, IsSized, Pending}
use Rattle.ipc_frame.specs.Sees.{IsFrame}
use Rattle.ipc_frame.specs.Decisions.{RefusesNow}
use Rattle.ipc_column.specs.Rows.{RefusesParts}
use Rattle.ipc_dict_read.specs.ValuesColumns.{dictionary_columns, columns_for}
use Rattle.ipc_stream_read.specs.declared.end.End.{End}
use Rattle.ipc_stream_read.specs.declared.end.End.TheVariants.{Mark, Closed}
use Rattle.ipc_stream_read.specs.Stream.{InForce, State, MessageEvent, Run, values_in_force}
use Rattle.ipc_model.specs.declared.limits.Limits.{Limits}
pub use Rattle.ipc_frame.specs.Failures.{IsOutside}

-- the frame is the end mark, or a message that is not a schema's
abbrev pub IsNoSchema : Frame → Type 0
IsNoSchema f.End = ⊤
IsNoSchema (f.Message meta (h.Schema s) body) = ⊥
IsNoSchema (f.Message meta head body) = ⊤

-- no field of the schema, at any level, has this dictionary (Schema.fbs, table DictionaryEncoding,
-- id)
pub record IsUnknownDictionary (id : ℤ) (s : Schema) : Type 0 where
  pub none : (e : Entry) → IsAmong e (entries s.fields) → (d : Dictionary) → e.dictionary ≡ Some d
      → d.id ≢ id

-- in this state the message z is refused for this fault, exactly at its last byte: at its start or
-- its metadata, or as a whole. Causes for the whole are a missing or a second schema, a dictionary
-- that no field names, or a body without values or rows
pub data Refuses (limits : Limits) (σ : State) (z : List ℕ) (fault : Fault) : Type 0 where
  early : RefusesNow limits z fault → Refuses limits σ z fault
  no_schema : (frame : Frame) → fault ≡ MissingSchema → σ ≡ None → IsFrame limits z frame
      → IsNoSchema frame → Refuses limits σ z fault
  second_schema : (o : InForce) (s : Schema) (metadata body : List ℕ) → fault ≡ SecondSchema
      → σ ≡ Some o → Encapsulates limits z metadata (h.Schema s) body
      → Refuses limits σ z fault
  dictionary : (o : InForce) (id : ℤ) (b : BatchHead) (metadata body : List ℕ)
      → fault ≡ UnknownDictionary → σ ≡ Some o → IsUnknownDictionary id o.schema
      → Encapsulates limits z metadata (h.Dictionary id b) body → Refuses limits σ z fault
  no_values : (o : InForce) (id : ℤ) (b : BatchHead) (columns : List Field) (metadata body : List ℕ)
      → σ ≡ Some o → columns_for (dictionary_columns o.schema.fields) id ≡ Some columns
      → Encapsulates limits z metadata (h.Dictionary id b) body
      → RefusesParts limits fault [] columns b body
      → Refuses limits σ z fault
  no_rows : (o : InForce) (b : BatchHead) (pairs : List (List ℕ × List ℕ)) (metadata body : List ℕ)
      → σ ≡ Some o → Encapsulates limits z metadata (h.Batch b pairs) body
      → RefusesParts limits fault (values_in_force o.dictionaries) o.schema.fields b body
      → Refuses limits σ z fault

-- z is an undecided beginning of a message, followed by at most the bytes up to the next decision
pub record IsUndecidedPrefix (limits : Limits) (z : List ℕ) : Type 0 where
  pub front : List ℕ
  pub behind : List ℕ
  pub wants : ℕ
  pub joined : z ≡ front ++ behind
  pub undecided : Pending limits front wants
  pub few : length behind ≤ wants

-- why reading breaks off in this state: z was taken after the last message that was read, and
-- `left` is still in the source
pub data EndsReading (limits : Limits) (σ : State) (z : List ℕ) (left : Option (List ℕ))
    (fault : Fault) : Type 0 where
  refused : Refuses limits σ z fault → EndsReading limits σ z left fault
  truncated : (k : ℕ) → fault ≡ Truncated → Pending limits z k → (σ ≡ None) ⊎ (z ≢ [])
      → IsAtEnd left
      → EndsReading limits σ z left fault
  aside : IsOutside fault → IsUndecidedPrefix limits z → EndsReading limits σ z left fault

-- how reading ends in this state: at the end mark, at the source's end, or with a fault
abbrev pub Ends : Limits → State → List ℕ → Option (List ℕ) → Result End Fault → Type 0
Ends limits σ z left (Ok Mark) = (z ≡ end_of_stream) × (σ ≢ None)
Ends limits σ z left (Ok Closed) = (z ≡ []) × (σ ≢ None) × IsAtEnd left
Ends limits σ z left (Err fault) = EndsReading limits σ z left fault

-- memory runs out only after the first eight bytes of a message, and not at the end mark
abbrev pub NeedsMemory : Limits → List ℕ → Result End Fault → Type 0
NeedsMemory limits z (Ok end) = ⊤
NeedsMemory limits z (Err fault) = fault ≡ OutOfMemory → IsSized limits z

-- the bytes x are messages that report these events, and then reading ends with this result; `left`
-- is still in the source
pub record Reads (limits : Limits) (σ : State) (x : List ℕ) (left : Option (List ℕ))
    (events : List MessageEvent) (answer : Result End Fault) : Type 0 where
  pub state : State
  pub whole : List ℕ
  pub rest : List ℕ
  pub joined : x ≡ whole ++ rest
  pub run : Run limits σ whole events state
  pub ends : Ends limits state rest left answer

-- the bytes x are messages that report these events, and then reading breaks off for this fault; if
-- memory runs out, it does so after the first eight bytes of a message
abbrev pub Breaks : Limits → State → List ℕ → Option (List ℕ) → List MessageEvent → Fault → Type 0
Breaks limits σ x left events fault =
    (r : Reads limits σ x left events (Err fault)) × NeedsMemory limits r.rest (Err fault)
