-- The bytes that a reader takes from its source, and its results (Arrow Columnar Format, "IPC
-- Streaming Format").
use Rattle.std.specs.Prelude.{◌≡◌, ℕ, List, [], ◌∷◌, length, map, Option, Some, None}
use Rattle.std.specs.Prelude.{Result, Ok, Err}
use Rattle.std.specs.Io.KnownBytes.{Consumes}
use Rattle.ipc_model.specs.declared.fault.Fault.{Fault}
use Rattle.ipc_model.specs.declared.fault.Fault.TheVariants.{OutOfMemory}
use Rattle.ipc_model.specs.declared.limits.Limits.{Limits}
use Rattle.ipc_model.specs.declared.schema.Schema.{Schema}
use Rattle.ipc_model.specs.declared.table.BatchRows.{BatchRows}
use Rattle.ipc_model.specs.declared.table.Table.{Table}
use Rattle.ipc_stream_read.specs.declared.end.End.{End}
use Rattle.ipc_stream_read.specs.declared.end.End.TheVariants.{Closed}
use Rattle.ipc_stream_read.specs.declared.event.Event.{Event}
use Rattle.ipc_stream_read.specs.Counts.{count_up}
use Rattle.ipc_stream_read.specs.Decoding.{Decoding, Stage, taking, over, refused, Reaches}
use Rattle.ipc_stream_read.specs.Decoding.{ReportsEvent}
use Rattle.ipc_stream_read.specs.Reasons.{Breaks, Ends, NeedsMemory, Reads}
use Rattle.ipc_stream_read.specs.Stream.{State, MessageEvent, schema, batch, Run, initial_state}
use Rattle.ipc_stream_read.specs.Stream.{events_of}

-- a call took these bytes and counted them
pub record Takes (old new : Option (List ℕ)) (count_old count_new : ℕ) (x : List ℕ) : Type 0 where
  pub bytes : Consumes old new x
  pub counted : count_new ≡ count_up count_old (length x)

-- the bytes x are whole messages without an event, and then reading ends with this result, at this
-- stage
pub record StopsAt (old new : Decoding) (x : List ℕ) (left : Option (List ℕ)) (stage : Stage)
    (answer : Result End Fault) : Type 0 where
  pub rest : List ℕ
  pub reaches : Reaches old new x [] rest
  pub ends : Ends old.limits new.state rest left answer
  pub memory : NeedsMemory old.limits rest answer
  pub at : new.stage ≡ stage

-- the bytes x report this event, or the source is at its end after whole messages, or reading
-- breaks off
abbrev pub PullAnswer : Decoding → Decoding → List ℕ → Option (List ℕ)
    → Result (Option Event) Fault → Type 0
PullAnswer old new x left (Ok (Some event)) = ReportsEvent old new x event
PullAnswer old new x left (Ok None) = StopsAt old new x left (over Closed) (Ok Closed)
PullAnswer old new x left (Err fault) = StopsAt old new x left refused (Err fault)

-- the bytes that were taken from the source for the next event, and the result
pub record Pulls (old new : Option (List ℕ)) (count_old count_new : ℕ) (before after : Decoding)
    (r : Result (Option Event) Fault) : Type 0 where
  pub x : List ℕ
  pub takes : Takes old new count_old count_new x
  pub gives : PullAnswer before after x new r

-- the first message is a schema's, which is now in force; or reading breaks off
abbrev pub GivesSchema : Decoding → Decoding → List ℕ → Option (List ℕ) → Result Unit Fault → Type 0
GivesSchema old new x left (Ok done) = (s : Schema)
    × Run old.limits None x (schema s ∷ []) (Some (initial_state s))
    × (new ≡ record {
      limits = old.limits;
      state = Some (initial_state s);
      stage = taking [];
      messages = 1;
      room = new.room;
    })
GivesSchema old new x left (Err fault) = Breaks old.limits None x left [] fault

-- the bytes that were taken from the source for the schema, and the result
pub record TakesSchema (old new : Option (List ℕ)) (count_old count_new : ℕ)
    (before after : Decoding) (r : Result Unit Fault) : Type 0 where
  pub x : List ℕ
  pub takes : Takes old new count_old count_new x
  pub gives : GivesSchema before after x new r

-- the bytes are these batches and the end, or some messages, after which reading broke off
abbrev pub GivesBatches : Limits → State → List ℕ → Option (List ℕ)
    → Result (List BatchRows × End) Fault → Type 0
GivesBatches limits σ x left (Ok b) = Reads limits σ x left (map batch b.0) (Ok b.1)
GivesBatches limits σ x left (Err fault) = (events : List MessageEvent)
    × Breaks limits σ x left events fault

-- the bytes that were taken from a source after the schema, and the result
pub record TakesBatches (old new : Option (List ℕ)) (before : Decoding)
    (r : Result (List BatchRows × End) Fault) : Type 0 where
  pub x : List ℕ
  pub bytes : Consumes old new x
  pub gives : GivesBatches before.limits before.state x new r

-- the bytes are this table and its end, or some messages, after which reading broke off
abbrev pub GivesTable : Limits → List ℕ → Option (List ℕ) → Result (Table × End) Fault → Type 0
GivesTable limits x left (Ok t) = Reads limits None x left (events_of t.0) (Ok t.1)
GivesTable limits x left (Err fault) = (events : List MessageEvent)
    × Reads limits None x left events (Err fault)

-- the bytes that were taken from a source for a table, and the result
pub record TakesTable (limits : Limits) (old new : Option (List ℕ)) (r : Result
    (Table × End) Fault) : Type 0 where
  pub x : List ℕ
  pub bytes : Consumes old new x
  pub gives : GivesTable limits x new r

-- reading a table breaks off for want of memory, after the first eight bytes of a message
pub record RunsOut (limits : Limits) (old new : Option (List ℕ)) : Type 0 where
  pub x : List ℕ
  pub bytes : Consumes old new x
  pub events : List MessageEvent
  pub breaks : Breaks limits None x new events OutOfMemory
