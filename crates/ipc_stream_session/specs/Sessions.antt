-- What the calls of a session do to its decoder, and what the session keeps.
use Rattle.std.specs.Prelude.{◌≡◌, ◌≢◌, ℕ, List, [], Option, Some, None, Result, Ok, Err}
use Rattle.std.specs.Prelude.{IfOk, IfSome, MatchResult, string_bytes}
use Rattle.std.specs.declared.alloc.Global.{Global}
use Rattle.std.specs.declared.string.String.{String}
use Rattle.ipc_model.specs.declared.fault.Fault.{Fault}
use Rattle.ipc_model.specs.declared.fault.Fault.TheVariants.{OutOfMemory}
use Rattle.ipc_model.specs.declared.fault.FaultAt.{FaultAt}
use Rattle.ipc_model.specs.declared.limits.Limits.{Limits}
use Rattle.ipc_model.specs.declared.schema.Schema.{Schema}
use Rattle.ipc_model.specs.Texts.{fault_line}
use Rattle.ipc_text_json.specs.SchemaJson.{schema_text}
use Rattle.ipc_stream_read.specs.declared.end.End.{End}
use Rattle.ipc_stream_read.specs.declared.event.Event.{Event}
use Rattle.ipc_stream_read.specs.declared.event.Event.TheVariants as report
use Rattle.ipc_stream_read.specs.Decoding as d
use Rattle.ipc_stream_read.specs.Decoding.{DropsBuffers, progress_at}
use Rattle.ipc_stream_read.specs.Stream.{State}
use Rattle.ipc_stream_session.specs.declared.arrival.Arrival.{Arrival}
use Rattle.ipc_stream_session.specs.declared.arrival.Arrival.TheVariants as arrival
use Rattle.ipc_stream_session.specs.declared.batch.ReadBatch.{ReadBatch}
use Rattle.ipc_stream_session.specs.declared.session.ReadSession.{ReadSession}

-- a session at the beginning of a stream, within these limits
pub record IsNew (limits : Limits) (s : ReadSession) : Type 0 where
  pub within : s.decoder.limits ≡ limits
  pub state : s.decoder.state ≡ None
  pub stage : s.decoder.stage ≡ d.taking []
  pub messages : s.decoder.messages ≡ 0
  pub batch : s.batch ≡ None
  pub refusal : s.refusal ≡ None

-- the arrival that names an event of the decoder, or none
abbrev pub arrival_of : Option Event → Arrival
arrival_of None = arrival.Nothing
arrival_of (Some report.Schema) = arrival.Schema
arrival_of (Some (report.Batch batch pairs)) = arrival.Batch
arrival_of (Some report.End) = arrival.End

-- the session has the batch of an event with its message's pairs, or none
abbrev pub batch_in : Option Event → Option ReadBatch → Type 0
batch_in (Some (report.Batch batch pairs)) (Some found) =
    (found.batch ≡ batch) × (found.pairs ≡ pairs)
batch_in (Some (report.Batch batch pairs)) None = ⊥
batch_in event found = found ≡ None

-- the first refusal is kept, with the number of its message
abbrev pub with_refusal : Option FaultAt → Fault → ℕ → Option FaultAt
with_refusal None fault message = Some (record { fault = fault; message = message })
with_refusal (Some first) fault message = Some first

-- no buffer is kept, as after a refusal
abbrev pub KeepsNoBuffer : d.Decoding → Type 0
KeepsNoBuffer decoder = DropsBuffers (progress_at d.refused) decoder.room

-- all that `Decoder::feed` promises: how the piece is taken, that the limits stay, that a batch has
-- a column for each field of the schema, and that no buffer is kept with an event or a refusal
pub record FeedsDecoder (old : d.Decoding) (piece : List ℕ) (new : d.Decoding)
    (r : Result (ℕ × Option Event) Fault) : Type 0 where
  pub fed : d.Feeds old piece new r
  pub limits : new.limits ≡ old.limits
  pub columns : IfOk r (λ found. IfSome found.1 (d.HasColumns new.state))
  pub moved : MatchResult r (λ found. IfSome found.1 (λ _. KeepsNoBuffer new))
      (λ _. KeepsNoBuffer new)

-- the decoder takes the piece as `Decoder::feed` does. The session has the batch of the event, and
-- the first refusal
abbrev pub Feeds : ReadSession → List ℕ → ReadSession → Result (ℕ × Arrival) Fault → Type 0
Feeds old piece new (Ok r) = (event : Option Event)
    × FeedsDecoder old.decoder piece new.decoder (Ok (r.0, event)) × (r.1 ≡ arrival_of event)
    × batch_in event new.batch × (new.refusal ≡ old.refusal)
Feeds old piece new (Err fault) = FeedsDecoder old.decoder piece new.decoder (Err fault)
    × (new.batch ≡ None) × (new.refusal ≡ with_refusal old.refusal fault new.decoder.messages)

-- the refusal that is kept after a call with this result
abbrev pub refusal_after : ReadSession → ReadSession → Result End Fault → Option FaultAt
refusal_after old new (Ok end) = old.refusal
refusal_after old new (Err fault) = with_refusal old.refusal fault new.decoder.messages

-- the decoder ends the input as `Decoder::close` does, and keeps no buffer. The session has the
-- first refusal
abbrev pub Closes : ReadSession → ReadSession → Result End Fault → Type 0
Closes old new r = d.ClosesAt old.decoder old.decoder.stage new.decoder r
    × KeepsNoBuffer new.decoder × (new.batch ≡ old.batch)
    × (new.refusal ≡ refusal_after old new r)

-- only the buffer for the next body may change, and there is none after the end or a refusal
pub record TakesBack (old new : ReadSession) : Type 0 where
  pub same : new ≡ record old { decoder = record old.decoder { room = new.decoder.room } }
  pub metadata : new.decoder.room.metadata ≡ old.decoder.room.metadata
  pub let_go : DropsBuffers (progress_at new.decoder.stage) new.decoder.room

-- the text of the schema in force, if one came
abbrev pub GivesSchemaText : State → Result (Option (String Global)) Fault → Type 0
GivesSchemaText state (Ok None) = d.schema_of state ≡ None
GivesSchemaText state (Ok (Some text)) = (schema : Schema) × (d.schema_of state ≡ Some schema)
    × (string_bytes text ≡ schema_text schema)
GivesSchemaText state (Err fault) = (d.schema_of state ≢ None) × (fault ≡ OutOfMemory)

-- the line of the refusal that is kept, if there is one
abbrev pub GivesLine : Option FaultAt → Result (Option (String Global)) Fault → Type 0
GivesLine refusal (Ok None) = refusal ≡ None
GivesLine refusal (Ok (Some text)) = (at : FaultAt) × (refusal ≡ Some at)
    × (string_bytes text ≡ fault_line at)
GivesLine refusal (Err fault) = (refusal ≢ None) × (fault ≡ OutOfMemory)
