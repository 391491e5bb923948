-- The effect of the frames of a stream, one after another (Arrow Columnar Format, "IPC Streaming
-- Format").
use Rattle.std.specs.Prelude.{◌≡◌, ◌≢◌, ◌⊎◌, ℕ, ℤ, List, [], ◌∷◌, Option, Some, None, Result, Ok}
use Rattle.std.specs.Prelude.{Err, ⊤, length}
use Rattle.ipc_model.specs.Answers.{UnlessOutOfMemory}
use Rattle.ipc_model.specs.WellFormed.{WellFormed}
use Rattle.ipc_model.specs.declared.schema.Field.{Field}
use Rattle.ipc_model.specs.declared.fault.Fault.{Fault}
use Rattle.ipc_model.specs.declared.fault.Fault.TheVariants.{MissingSchema, SecondSchema}
use Rattle.ipc_model.specs.declared.fault.Fault.TheVariants.{UnknownDictionary}
use Rattle.ipc_model.specs.declared.limits.Limits.{Limits}
use Rattle.ipc_model.specs.declared.schema.Schema.{Schema}
use Rattle.ipc_meta.specs.declared.head.BatchHead.{BatchHead}
use Rattle.ipc_meta.specs.declared.head.Head.TheVariants as h
use Rattle.ipc_frame.specs.Pieces.{Framing, Progress}
use Rattle.ipc_frame.specs.Parts.{no_capacity}
use Rattle.ipc_frame.specs.Pieces as frames
use Rattle.ipc_frame.specs.declared.frame.Frame.{Frame}
use Rattle.ipc_frame.specs.declared.frame.Frame.TheVariants as f
use Rattle.ipc_column.specs.Contents.{Contents}
use Rattle.ipc_column.specs.Rows.{Rows, RefusesParts}
use Rattle.ipc_dict_read.specs.ValuesColumns.{dictionary_columns, columns_for}
use Rattle.ipc_stream_read.specs.declared.stream_state.StreamState.{StreamState}
use Rattle.ipc_stream_read.specs.declared.end.End.{End}
use Rattle.ipc_stream_read.specs.declared.end.End.TheVariants.{Closed, Mark}
use Rattle.ipc_stream_read.specs.declared.event.Event.{Event}
use Rattle.ipc_stream_read.specs.declared.event.Event.TheVariants as event
use Rattle.ipc_stream_read.specs.declared.scope.Scope.{Scope}
use Rattle.ipc_stream_read.specs.Counts.{count_up}
use Rattle.ipc_stream_read.specs.Decoding.{Decoding, Stage, taking, over, refused}
use Rattle.ipc_stream_read.specs.Found.{batch_rows}
use Rattle.ipc_stream_read.specs.ReadBatches.{IsCheckedIn}
use Rattle.ipc_stream_read.specs.Reader.{end_of, phase_of}
use Rattle.ipc_stream_read.specs.Reasons.{IsNoSchema, IsUnknownDictionary}
use Rattle.ipc_stream_read.specs.Scopes.{IsUnder, in_scope, state_of}
use Rattle.ipc_stream_read.specs.Stream.{InForce, State, Step, initial_state, values_in_force}
use Rattle.ipc_stream_read.specs.Stream.{schema, batch}

-- the schema in the frame, if it has one, is well formed
abbrev pub IsWellFormedFrame : Limits → Frame → Type 0
IsWellFormedFrame limits (f.Message meta (h.Schema s) body) = WellFormed limits s
IsWellFormedFrame limits frame = ⊤

-- the frame is a message, and not the end mark
abbrev pub IsMessageFrame : Frame → Type 0
IsMessageFrame (f.Message meta head body) = ⊤
IsMessageFrame f.End = ⊥

-- the frame is a message with this schema, or it is not a schema's and the fault is MissingSchema
abbrev pub BringsSchema : Frame → Result Schema Fault → Type 0
BringsSchema (f.Message meta head body) (Ok s) = head ≡ h.Schema s
BringsSchema f.End (Ok s) = ⊥
BringsSchema frame (Err fault) = (fault ≡ MissingSchema) × IsNoSchema frame

-- the frame is a message with the schema that is put in force, without dictionaries; or it is not a
-- schema's and the fault is MissingSchema; or memory ran out
abbrev pub BringsScope : Frame → Result Scope Fault → Type 0
BringsScope (f.Message meta head body) (Ok scope) =
    (head ≡ h.Schema scope.schema) × (in_scope scope ≡ initial_state scope.schema)
BringsScope f.End (Ok scope) = ⊥
BringsScope frame (Err fault) =
    UnlessOutOfMemory fault ((fault ≡ MissingSchema) × IsNoSchema frame)

-- why a dictionary's message is refused
abbrev pub RefusesValues : Limits → InForce → ℤ → BatchHead → List ℕ → Fault → Type 0
RefusesValues limits o id b body fault = ((fault ≡ UnknownDictionary)
    × IsUnknownDictionary id o.schema)
    ⊎ ((columns : List Field) × (columns_for (dictionary_columns o.schema.fields) id ≡ Some columns)
    × RefusesParts limits fault [] columns b body)

-- a batch of the rows that this head and body state for the dictionary with the id
abbrev pub GivesValues : Limits → InForce → ℤ → BatchHead → List ℕ → Contents → Type 0
GivesValues limits o id b body values = (columns : List Field)
    × (columns_for (dictionary_columns o.schema.fields) id ≡ Some columns)
    × Rows limits [] columns b body values.rows × (values.body_len ≡ length body)

-- a dictionary's message with this head and body changes what is in force, or is refused and leaves
-- it
abbrev pub SetsValues : Limits → InForce → InForce → ℤ → BatchHead → List ℕ → Result Unit Fault
    → Type 0
SetsValues limits old new id b body (Ok x) =
    Step limits (Some old) (h.Dictionary id b) body [] (Some new)
SetsValues limits old new id b body (Err fault) =
    (new ≡ old) × UnlessOutOfMemory fault (RefusesValues limits old id b body fault)

-- why a frame is refused after the schema
abbrev pub RefusesLater : Limits → InForce → Frame → Fault → Type 0
RefusesLater limits o f.End fault = ⊥
RefusesLater limits o (f.Message meta (h.Schema t) body) fault = fault ≡ SecondSchema
RefusesLater limits o (f.Message meta (h.Dictionary id b) body) fault =
    RefusesValues limits o id b body.items fault
RefusesLater limits o (f.Message meta (h.Batch b pairs) body) fault =
    RefusesParts limits fault (values_in_force o.dictionaries) o.schema.fields b body.items

-- why a frame is refused in this state
abbrev pub RefusesFrame : Limits → State → Frame → Fault → Type 0
RefusesFrame limits None frame fault = (fault ≡ MissingSchema) × IsNoSchema frame
RefusesFrame limits (Some o) frame fault = RefusesLater limits o frame fault

-- the effect of a frame in a state. A message reports an event, or none if it sets a dictionary;
-- the end mark is accepted only after a schema. A refusal leaves the state as it was
abbrev pub Brings : Limits → State → Frame → State → Result (Option Event) Fault → Type 0
Brings limits σ (f.Message meta head body) τ (Ok None) = Step limits σ head body.items [] τ
Brings limits σ (f.Message meta head body) τ (Ok (Some event.Schema)) =
    (s : Schema) × Step limits σ head body.items (schema s ∷ []) τ
Brings limits σ (f.Message meta head body) τ (Ok (Some (event.Batch found pairs))) =
    Step limits σ head body.items (batch (batch_rows (found, pairs)) ∷ []) τ
    × IsCheckedIn σ head body.items found
Brings limits σ f.End τ (Ok (Some event.End)) = (τ ≡ σ) × (σ ≢ None)
Brings limits σ frame τ (Err fault) =
    (τ ≡ σ) × UnlessOutOfMemory fault (RefusesFrame limits σ frame fault)
Brings limits σ frame τ found = ⊥

-- how an event changes how the stream ended and the number of messages
abbrev pub Moved : StreamState → StreamState → Option Event → Type 0
Moved old new (Some event.End) = (new.end ≡ Some Mark) × (new.messages ≡ old.messages)
Moved old new found = (new.end ≡ old.end) × (new.messages ≡ count_up old.messages 1)

-- how a result changes the frames and the stream: after a refusal the frames take no more
abbrev pub Moves : Framing → Framing → StreamState → StreamState → Result (Option Event) Fault
    → Type 0
Moves before after old new (Ok found) = (after ≡ before) × Moved old new found
Moves before after old new (Err fault) = (after.progress ≡ frames.refused)
    × (after.room ≡ no_capacity) × (new.end ≡ old.end) × (new.messages ≡ old.messages)

-- the stage of a stream, by the progress of its frames and how it ended
abbrev pub stage_of : Progress → Option End → Stage
stage_of (frames.taking z) end = taking z
stage_of frames.ended (Some end) = over end
stage_of frames.ended None = over Closed
stage_of frames.refused end = refused

-- the value of a decoder
abbrev pub decoding_of : Framing → StreamState → Decoding
decoding_of framing stream = record {
  limits = framing.limits;
  state = state_of stream.scope;
  stage = stage_of framing.progress stream.end;
  messages = stream.messages;
  room = framing.room;
}

-- what is in force has the limits of the frames; it is known how the stream ended exactly if it
-- did; the frames keep no buffer after the end and after a refusal
pub record IsSound (framing : Framing) (stream : StreamState) : Type 0 where
  pub under : IsUnder framing.limits stream.scope
  pub ends : stream.end ≡ end_of (phase_of (stage_of framing.progress stream.end))
  pub let_go : frames.DropsBuffers framing.progress framing.room
