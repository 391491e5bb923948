-- How many bytes a reader holds: those that came of the current message, and the bodies of the
-- dictionaries in force.
use Rattle.std.specs.Prelude.{◌≡◌, ◌≢◌, ℕ, ◌+◌, ◌≤◌, List, [], ◌++◌, length, Option, Some, None}
use Rattle.std.specs.Prelude.{Result, Ok, Err, ⊤}
use Rattle.std.specs.Io.KnownBytes.{Consumes}
use Rattle.ipc_model.specs.declared.fault.Fault.{Fault}
use Rattle.ipc_model.specs.declared.fault.Fault.TheVariants.{Read}
use Rattle.ipc_model.specs.declared.limits.Limits.{Limits}
use Rattle.ipc_frame.specs.Failures.{CountsFault}
use Rattle.ipc_frame.specs.Frames.{Pending}
use Rattle.ipc_stream_read.specs.declared.read_stop.ReadStop.{ReadStop}
use Rattle.ipc_stream_read.specs.declared.read_stop.ReadStop.TheVariants as stop
use Rattle.ipc_stream_read.specs.Decoding.{dictionary_bytes}
use Rattle.ipc_stream_read.specs.Found.{ReadRows}
use Rattle.ipc_stream_read.specs.Reader.{Reader, in_force_of}
use Rattle.ipc_stream_read.specs.Stream.{State, MessageEvent, Run}
use Rattle.ipc_stream_read.specs.Verdicts.{Reached}

-- the number is at most the maximum, if there is one
abbrev pub IsWithin : Option ℕ → ℕ → Type 0
IsWithin None count = ⊤
IsWithin (Some most) count = count ≤ most

-- after each of the bytes x, at most this number of bytes is held. A beginning of x is whole
-- messages and then an undecided beginning `rest` of one: `rest` is held, and the bodies of the
-- dictionaries that are in force after these messages
abbrev pub HoldsWithin : Limits → Option ℕ → State → List ℕ → Type 0
HoldsWithin limits most σ x = (y z rest : List ℕ) (events : List MessageEvent) (τ : State) (k : ℕ)
    → x ≡ y ++ z → y ≢ [] → Reached limits σ y events τ rest → Pending limits rest k
    → IsWithin most (dictionary_bytes τ + length rest)

-- after the bytes x, with the bytes up to the next decision on the current message, more than this
-- number of bytes would be held
pub record WouldHold (limits : Limits) (most : Option ℕ) (σ : State) (x : List ℕ) : Type 0 where
  pub events : List MessageEvent
  pub state : State
  pub rest : List ℕ
  pub reached : Reached limits σ x events state rest
  pub wants : ℕ
  pub undecided : Pending limits rest wants
  pub above : IsWithin most (dictionary_bytes state + length rest + wants) → ⊥

-- the bytes x were taken, and never more than this number of bytes was held; where that stopped the
-- reader, more would be held with the next bytes
pub record KeepsWithin (limits : Limits) (most : Option ℕ) (σ : State) (x : List ℕ)
    (stopped : Type 0) : Type 0 where
  pub within : HoldsWithin limits most σ x
  pub above : stopped → WouldHold limits most σ x

-- the fault that a stop is like: at the maximum no more bytes come, as from a source that failed
abbrev pub fault_of : ReadStop → Fault
fault_of (stop.Refused fault) = fault
fault_of stop.Held = Read

-- the result with the fault that a stop is like
abbrev pub as_fault : {T : Type 0} → Result T ReadStop → Result T Fault
as_fault (Ok found) = Ok found
as_fault (Err why) = Err (fault_of why)

-- how a stop changes the count of failures of a source: at the maximum it stays
abbrev pub CountsStop : ℕ → ℕ → ReadStop → Type 0
CountsStop old new (stop.Refused fault) = CountsFault old new fault
CountsStop old new stop.Held = new ≡ old

-- the bytes that were taken from a source are the messages up to what is in force for this reader,
-- and never more than this number of bytes was held
pub record HeldSoFar (limits : Limits) (most : Option ℕ) (start : Option (List ℕ))
    (now : Reader) : Type 0 where
  pub x : List ℕ
  pub bytes : Consumes start now.remaining x
  pub events : List MessageEvent
  pub run : Run limits None x events (Some (in_force_of now))
  pub within : HoldsWithin limits most None x
  pub same_limits : now.limits ≡ limits

-- of all bytes that were taken from a source, never more than this number was held; where that
-- stopped the reader, more would be held with the next bytes
pub record HeldInAll (limits : Limits) (most : Option ℕ) (old new : Option (List ℕ))
    (stopped : Type 0) : Type 0 where
  pub x : List ℕ
  pub bytes : Consumes old new x
  pub keeps : KeepsWithin limits most None x stopped

-- what a result of `next_within` states of all bytes that were taken since the source was new
abbrev pub HeldAfter : Limits → Option ℕ → Option (List ℕ) → Reader
    → Result (Option ReadRows) ReadStop → Type 0
HeldAfter limits most start new (Ok (Some found)) = HeldSoFar limits most start new
HeldAfter limits most start new r =
    HeldInAll limits most start new.remaining (r ≡ Err stop.Held)
