-- A stream whose bytes come in pieces, call by call (Arrow Columnar Format, "IPC Streaming
-- Format").
use Rattle.std.specs.Prelude.{◌≡◌, ◌≢◌, ◌⊎◌, ℕ, suc, ◌≤◌, List, [], ◌∷◌, ◌++◌, length, take}
use Rattle.std.specs.Prelude.{Option, Some, None, Result, Ok, Err, ⊤}
use Rattle.std.specs.Io.KnownBytes.{Consumes}
use Rattle.std.specs.List.{sum_by}
use Rattle.std.specs.Map.{values_of}
use Rattle.ipc_model.specs.Answers.{UnlessOutOfMemory}
use Rattle.ipc_model.specs.declared.fault.Fault.{Fault}
use Rattle.ipc_model.specs.declared.fault.Fault.TheVariants.{Failed, OutOfMemory, Truncated}
use Rattle.ipc_model.specs.declared.limits.Limits.{Limits}
use Rattle.ipc_model.specs.declared.schema.Schema.{Schema}
use Rattle.ipc_frame.specs.Failures.{UnlessOutside}
use Rattle.ipc_frame.specs.Frames.{end_of_stream, IsSized, Pending}
use Rattle.ipc_frame.specs.Parts.{Capacity, no_capacity}
use Rattle.ipc_frame.specs.Pieces.{Progress, held_of}
use Rattle.ipc_frame.specs.Pieces as frames
pub use Rattle.ipc_frame.specs.Pieces.{DropsBuffers, Wants}
use Rattle.ipc_frame.specs.Pulled.{IsFew, EndsAt}
use Rattle.ipc_stream_read.specs.declared.end.End.{End}
use Rattle.ipc_stream_read.specs.declared.end.End.TheVariants.{Mark, Closed}
use Rattle.ipc_stream_read.specs.declared.event.Event.{Event}
use Rattle.ipc_stream_read.specs.declared.event.Event.TheVariants as report
use Rattle.ipc_stream_read.specs.Counts.{count_up, messages_in}
use Rattle.ipc_stream_read.specs.Found.{batch_rows}
use Rattle.ipc_stream_read.specs.ReadBatches.{IsReadFrom}
use Rattle.ipc_stream_read.specs.Stream.{State, MessageEvent, schema, batch, Run, IsMessage}
use Rattle.ipc_stream_read.specs.Verdicts.{DecisionPoint, Reached, Reason}

-- the stage of a stream: these bytes of an unfinished message have come, or the stream ended with
-- this `End`, or it was refused
pub data Stage : Type 0 where
  taking : List ℕ → Stage
  over : End → Stage
  refused : Stage

-- the progress of the messages at this stage, however the stream ended
abbrev pub progress_at : Stage → Progress
progress_at (taking z) = frames.taking z
progress_at (over end) = frames.ended
progress_at refused = frames.refused

-- the value of a decoder: its limits, what is in force, the stage of the stream, how many messages
-- have come, and the room of the buffers that it keeps for the current message
pub record Decoding : Type 0 where
  pub limits : Limits
  pub state : State
  pub stage : Stage
  pub messages : ℕ
  pub room : Capacity

-- the bytes x are whole messages and then `rest`. The messages report these events, and change a
-- decoder's state and number of messages from the old to the new
pub record Reaches (old new : Decoding) (x : List ℕ) (events : List MessageEvent)
    (rest : List ℕ) : Type 0 where
  pub reached : Reached old.limits old.state x events new.state rest
  pub counted : new.messages ≡ count_up old.messages (messages_in reached.run)

-- the bytes x are whole messages without an event, followed by one message with this event
pub record ReportsLastEvent (limits : Limits) (σ : State) (x : List ℕ) (event : MessageEvent)
    (τ : State) : Type 0 where
  pub silent : List ℕ
  pub message : List ℕ
  pub joined : x ≡ silent ++ message
  pub between : State
  pub run : Run limits σ silent [] between
  pub report : IsMessage limits between message (event ∷ []) τ

-- the bytes x are such messages (`ReportsLastEvent`), and change a decoder from the old value to
--   the new
pub record ReportsOneEvent (old new : Decoding) (x : List ℕ) (event : MessageEvent) : Type 0 where
  pub last : ReportsLastEvent old.limits old.state x event new.state
  pub counted : new.messages ≡ count_up old.messages (suc (messages_in last.run))
  pub stage : new.stage ≡ taking []

-- the bytes x report no event; those after their whole messages are stored, undecided
abbrev pub Waits : Decoding → Decoding → List ℕ → Type 0
Waits old new x = (rest : List ℕ) × Reaches old new x [] rest × (new.stage ≡ taking rest)
    × ((k : ℕ) × Pending old.limits rest k)

-- the last message of the bytes x, or the end mark, reports this event, and those before it none;
-- a batch has the buffers and the body of that message
abbrev pub ReportsEvent : Decoding → Decoding → List ℕ → Event → Type 0
ReportsEvent old new x report.Schema = (s : Schema) × ReportsOneEvent old new x (schema s)
ReportsEvent old new x (report.Batch found pairs) = ReportsOneEvent old new x
    (batch (batch_rows (found, pairs))) × IsReadFrom old.limits old.state x found
ReportsEvent old new x report.End =
    Reaches old new x [] end_of_stream × (new.state ≢ None) × (new.stage ≡ over Mark)

-- the whole messages of the bytes x report no event; what follows them is refused for this fault,
-- exactly at its last byte. Memory runs out only after the first eight bytes of a message
abbrev pub RefusesAt : Decoding → Decoding → List ℕ → Fault → Type 0
RefusesAt old new x fault = (rest : List ℕ) × Reaches old new x [] rest
    × UnlessOutOfMemory fault ((d : DecisionPoint) × Reason old.limits fault d new.state rest)
    × (fault ≡ OutOfMemory → IsSized old.limits rest)

-- the stored bytes z with a beginning of the piece end with an event, or are refused at their last
-- byte; or the whole piece is taken
abbrev pub FeedsOn : Decoding → List ℕ → List ℕ → Decoding → Result (ℕ × Option Event) Fault
    → Type 0
FeedsOn old z piece new (Ok (n, None)) = (n ≡ length piece) × Waits old new (z ++ piece)
FeedsOn old z piece new (Ok (n, Some event)) =
    (n ≤ length piece) × ReportsEvent old new (z ++ take n piece) event
FeedsOn old z piece new (Err fault) = (new.stage ≡ refused)
    × ((n : ℕ) × (n ≤ length piece) × RefusesAt old new (z ++ take n piece) fault)

-- how a piece is taken at this stage: after the end no bytes are taken, and after a refusal the
-- result is F35
abbrev pub FeedsAt : Decoding → Stage → List ℕ → Decoding → Result (ℕ × Option Event) Fault
    → Type 0
FeedsAt old (taking z) piece new r = FeedsOn old z piece new r
FeedsAt old (over end) piece new r = (new ≡ old) × (r ≡ Ok (0, None))
FeedsAt old refused piece new r = (new ≡ old) × (r ≡ Err Failed)

-- how a call takes a piece
abbrev pub Feeds : Decoding → List ℕ → Decoding → Result (ℕ × Option Event) Fault → Type 0
Feeds old piece new r = FeedsAt old old.stage piece new r

-- the result is what `feed` returns for the bytes that came from a source. A refusal comes at the
-- last of them and leaves what is in force; no whole message came before it. Memory runs out only
-- after the first eight bytes of a message
abbrev pub Gives : Decoding → Stage → List ℕ → Decoding → Result (Option Event) Fault
    → Type 0
Gives old stage came new (Ok found) = FeedsAt old stage came new (Ok (length came, found))
Gives old (taking z) came new (Err fault) = (new.stage ≡ refused) × (new.state ≡ old.state)
    × (new.messages ≡ old.messages)
    × UnlessOutside fault ((d : DecisionPoint) × Reason old.limits fault d old.state (z ++ came))
    × (fault ≡ OutOfMemory → IsSized old.limits (z ++ came))
Gives old stage came new (Err fault) = FeedsAt old stage came new (Err fault)

-- `count` bytes were taken from a source, at most the number up to the next decision, and the
-- result is theirs
pub record Draws (old new : Option (List ℕ)) (before after : Decoding) (count : ℕ)
    (r : Result (Option Event) Fault) : Type 0 where
  pub came : List ℕ
  pub counted : length came ≡ count
  pub bytes : Consumes old new came
  pub few : IsFew before.limits (progress_at before.stage) came
  pub at_end : EndsAt (progress_at before.stage) came new r
  pub gives : Gives before before.stage came after r

-- how many bytes the bodies have together that set the dictionaries in force
abbrev pub dictionary_bytes : State → ℕ
dictionary_bytes None = 0
dictionary_bytes (Some o) = sum_by (λ d. d.bytes) (values_of o.dictionaries)

-- how many bytes a decoder stores: those of the current message, and the bodies of the dictionaries
abbrev pub stored_bytes : Decoding → ℕ
stored_bytes d = count_up (dictionary_bytes d.state) (held_of (progress_at d.stage))

-- the decoder with its stage replaced, of which no buffer is kept
abbrev pub at_stage : Decoding → Stage → Decoding
at_stage d stage = record {
  limits = d.limits;
  state = d.state;
  stage = stage;
  messages = d.messages;
  room = no_capacity;
}

-- no more bytes come. After a schema, and if no byte of an unfinished message has come, the stream
-- has ended; otherwise it is cut off, which is F4. An end stays as it was; after a refusal the
-- result is F35
abbrev pub ClosesAt : Decoding → Stage → Decoding → Result End Fault → Type 0
ClosesAt old (taking z) new (Ok end) = (z ≡ []) × (old.state ≢ None) × (end ≡ Closed)
    × (new ≡ at_stage old (over Closed))
ClosesAt old (taking z) new (Err fault) = ((z ≢ []) ⊎ (old.state ≡ None)) × (fault ≡ Truncated)
    × (new ≡ at_stage old refused)
ClosesAt old (over end) new r = (new ≡ old) × (r ≡ Ok end)
ClosesAt old refused new r = (new ≡ old) × (r ≡ Err Failed)

-- a batch has a column for each field of the schema in force
abbrev pub HasColumns : State → Event → Type 0
HasColumns (Some o) (report.Batch found pairs) = found.columns ≡ length o.schema.fields
HasColumns state event = ⊤

-- the schema in force, if one came
abbrev pub schema_of : State → Option Schema
schema_of None = None
schema_of (Some o) = Some o.schema
