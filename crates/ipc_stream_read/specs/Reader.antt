-- A reader of a stream, call by call (Arrow Columnar Format, "IPC Streaming Format").
use Rattle.std.specs.Prelude.{◌≡◌, ℕ, suc, ℤ, List, [], ◌∷◌, ◌++◌, length, Option, Some, None}
use Rattle.std.specs.Prelude.{Result, Ok, Err}
use Rattle.std.specs.Io.KnownBytes.{Consumes}
use Rattle.ipc_model.specs.declared.fault.Fault.{Fault}
use Rattle.ipc_model.specs.declared.fault.Fault.TheVariants.{Failed}
use Rattle.ipc_model.specs.declared.schema.Schema.{Schema}
use Rattle.ipc_model.specs.declared.table.BatchRows.{BatchRows}
use Rattle.ipc_frame.specs.Frames.{end_of_stream}
use Rattle.ipc_stream_read.specs.declared.end.End.{End}
use Rattle.ipc_stream_read.specs.declared.end.End.TheVariants.{Mark, Closed}
use Rattle.ipc_stream_read.specs.Decoding.{Stage, taking, over, refused, ReportsLastEvent}
use Rattle.ipc_stream_read.specs.Stream.{DictionaryInForce, InForce, State, MessageEvent, schema}
use Rattle.ipc_stream_read.specs.Stream.{batch, Run}
use Rattle.ipc_stream_read.specs.Found.{ReadRows, batch_rows}
use Rattle.ipc_stream_read.specs.ReadBatches.{IsReadFrom}
use Rattle.ipc_stream_read.specs.Reasons.{Ends, NeedsMemory, Reads}
use Rattle.ipc_stream_read.specs.Counts.{count_up, messages_in}
use Rattle.ipc_model.specs.declared.limits.Limits.{Limits}

-- whether messages still come to a reader: the stream is being read, it ended in this way, or it
-- was refused
pub data StreamPhase : Type 0 where
  Reading : StreamPhase
  Ended : End → StreamPhase
  Refused : StreamPhase

-- the value of a reader: the bytes left in its source, the count of the source's failures, and the
-- most bytes that the source can still give. Its limits, the schema and the dictionaries in force,
-- its phase, and how many messages and bytes it has taken
pub record Reader : Type 0 where
  pub remaining : Option (List ℕ)
  pub failures : ℕ
  pub bound : ℕ
  pub limits : Limits
  pub schema : Schema
  pub dictionaries : List (ℤ × DictionaryInForce)
  pub phase : StreamPhase
  pub messages : ℕ
  pub taken : ℕ

-- what is in force for a reader
abbrev pub in_force_of : Reader → InForce
in_force_of r = record { schema = r.schema; dictionaries = r.dictionaries }

-- the phase of a reader, by the stage of its decoder
abbrev pub phase_of : Stage → StreamPhase
phase_of (taking z) = Reading
phase_of (over end) = Ended end
phase_of refused = Refused

-- the schema in force; without one, a schema without fields
abbrev pub schema_in : State → Schema
schema_in None = record { fields = []; metadata = [] }
schema_in (Some o) = o.schema

-- the dictionaries in force; there are none before a schema
abbrev pub dictionaries_in_force : State → List (ℤ × DictionaryInForce)
dictionaries_in_force None = []
dictionaries_in_force (Some o) = o.dictionaries

-- between two calls no bytes are stored
abbrev pub KeepsNone : Stage → Type 0
KeepsNone stage = (z : List ℕ) → stage ≡ taking z → z ≡ []

-- while a stream is being read, its source has not failed
abbrev pub WorksWhile : Stage → ℕ → Type 0
WorksWhile stage failures = (z : List ℕ) → stage ≡ taking z → failures ≡ 0

-- a new reader has taken only the first message, which is its schema's; no dictionary is in force
pub record Opens (limits : Limits) (old : Option (List ℕ)) (new : Reader) : Type 0 where
  pub x : List ℕ
  pub bytes : Consumes old new.remaining x
  pub run : Run limits None x (schema new.schema ∷ []) (Some (in_force_of new))
  pub no_dictionary : new.dictionaries ≡ []
  pub same_limits : new.limits ≡ limits
  pub fresh : new.phase ≡ Reading
  pub one_message : new.messages ≡ 1
  pub counted : new.taken ≡ count_up 0 (length x)

-- opening fails: some bytes were taken from the source, and reading them ended with this fault
-- before a schema
pub record OpenFails (limits : Limits) (old new : Option (List ℕ)) (fault : Fault) : Type 0 where
  pub x : List ℕ
  pub bytes : Consumes old new x
  pub reads : Reads limits None x new [] (Err fault)
  pub memory : NeedsMemory limits reads.rest (Err fault)

-- the bytes x are whole messages without an event, then one with this event; they change what is in
-- force for a reader from the old value to the new
pub record LeadsTo (old new : Reader) (x : List ℕ) (event : MessageEvent) : Type 0 where
  pub last : ReportsLastEvent old.limits (Some (in_force_of old)) x event (Some (in_force_of new))
  pub messages : new.messages ≡ count_up old.messages (suc (messages_in last.run))

-- the bytes x begin with whole messages without an event; these change what is in force for a
-- reader from the old value to the new. At the bytes after them, reading ends with this result
pub record EndsAfter (old new : Reader) (x : List ℕ) (answer : Result End Fault) : Type 0 where
  pub whole : List ℕ
  pub rest : List ℕ
  pub joined : x ≡ whole ++ rest
  pub run : Run old.limits (Some (in_force_of old)) whole [] (Some (in_force_of new))
  pub ends : Ends old.limits (Some (in_force_of new)) rest new.remaining answer
  pub memory : NeedsMemory old.limits rest answer
  pub messages : new.messages ≡ count_up old.messages (messages_in run)

-- no byte was taken, and what is in force stays
pub record ChangesNothing (old new : Reader) (x : List ℕ) : Type 0 where
  pub none : x ≡ []
  pub in_force : in_force_of new ≡ in_force_of old
  pub messages : new.messages ≡ old.messages

-- the result of a call of `next` that took these bytes, by the phase before and after it: a batch,
-- which has the buffers and the body of its message, the end, or a fault
abbrev pub NextAnswer : Reader → Reader → StreamPhase → List ℕ → Result (Option ReadRows) Fault
    → StreamPhase
    → Type 0
NextAnswer old new Reading x (Ok (Some found)) Reading =
    LeadsTo old new x (batch (batch_rows found))
    × IsReadFrom old.limits (Some (in_force_of old)) x found.0
NextAnswer old new Reading x (Ok None) (Ended end) = EndsAfter old new x (Ok end)
NextAnswer old new Reading x (Err fault) Refused = EndsAfter old new x (Err fault)
NextAnswer old new (Ended end) x (Ok None) (Ended same) = (same ≡ end) × ChangesNothing old new x
NextAnswer old new Refused x (Err Failed) Refused = ChangesNothing old new x
NextAnswer old new _ x r _ = ⊥

-- the bytes that a call of `next` took, and its result
pub record NextCall (old new : Reader) (r : Result (Option ReadRows) Fault) : Type 0 where
  pub x : List ℕ
  pub bytes : Consumes old.remaining new.remaining x
  pub gives : NextAnswer old new old.phase x r new.phase
  pub same_schema : new.schema ≡ old.schema
  pub same_limits : new.limits ≡ old.limits
  pub counted : new.taken ≡ count_up old.taken (length x)

-- the result is a batch with these pairs and rows
abbrev pub GivesBatch : Option ReadRows → BatchRows → Type 0
GivesBatch None b = ⊥
GivesBatch (Some found) b = batch_rows found ≡ b

-- the bytes begin with the end mark, or there are none
abbrev pub BeginsEnd : End → List ℕ → Type 0
BeginsEnd Mark z = (rest : List ℕ) × (z ≡ end_of_stream ++ rest)
BeginsEnd Closed z = z ≡ []

-- the end with which reading stopped, if it did
abbrev pub end_of : StreamPhase → Option End
end_of (Ended end) = Some end
end_of _ = None
