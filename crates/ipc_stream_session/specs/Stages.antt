-- The state of a stream that is written, and how it changes when a batch is sent.
use Rattle.std.specs.Prelude.{◌≡◌, ⊤, ℕ, false, List, [], Some, Result, Ok, Err}
use Rattle.ipc_model.specs.declared.fault.WriteFault.{WriteFault}
use Rattle.ipc_model.specs.declared.fault.WriteFault.TheVariants as w
use Rattle.ipc_model.specs.declared.table.BatchRows.{BatchRows}
use Rattle.ipc_stream.specs.Writer.{Writer, LeavesBatch}
use Rattle.ipc_stream.specs.Writing.{AcceptsBatch, RefusesBatch}
use Rattle.ipc_stream_session.specs.declared.stage.Stage.{Stage}
use Rattle.ipc_stream_session.specs.declared.stage.Stage.TheVariants as stage
use Rattle.ipc_stream_session.specs.declared.write_error.WriteError.{WriteError}
use Rattle.ipc_stream_session.specs.declared.write_error.WriteError.TheVariants as error
use Rattle.ipc_stream_session.specs.Tables.{TableState, emptied}

-- the error of a call that needs an open table, in another state
abbrev pub IsNotOpen : Stage → WriteError → Type 0
IsNotOpen stage.New e = e ≡ error.Misuse
IsNotOpen (stage.Open table) e = ⊥
IsNotOpen (stage.Ended ready) e = e ≡ error.Refused w.Failed

-- the error of a call that needs a stream without a schema, in another state
abbrev pub IsNotNew : Stage → WriteError → Type 0
IsNotNew stage.New e = ⊥
IsNotNew (stage.Open table) e = e ≡ error.Misuse
IsNotNew (stage.Ended ready) e = e ≡ error.Refused w.Failed

-- the bytes that were written and not taken
abbrev pub HasWritten : Stage → List ℕ → Type 0
HasWritten stage.New bytes = bytes ≡ []
HasWritten (stage.Open table) bytes = table.stream.written ≡ Some bytes
HasWritten (stage.Ended ready) bytes = bytes ≡ ready

-- the state when all of these bytes are taken
abbrev pub emptied_stage : Stage → Stage
emptied_stage stage.New = stage.New
emptied_stage (stage.Open table) = stage.Open (emptied table)
emptied_stage (stage.Ended ready) = stage.Ended []

-- nothing more is written, and all bytes of the stream wait
abbrev pub IsOver : Writer → Stage → Type 0
IsOver stream new = (ready : List ℕ) × (stream.written ≡ Some ready) × (new ≡ stage.Ended ready)

-- the state of a stream after a call that sent a batch: W9 and W11 end it
abbrev pub IsAfter : TableState → Writer → Result ⊤ WriteFault → Stage → Type 0
IsAfter t stream (Err w.Write) new = IsOver stream new
IsAfter t stream (Err w.OutOfMemory) new = IsOver stream new
IsAfter t stream sent new = new ≡ stage.Open (record t { stream = stream })

-- a stream that goes on after a call has not failed
abbrev pub WorksIfOpen : Writer → Result ⊤ WriteFault → Type 0
WorksIfOpen stream (Err w.Write) = ⊤
WorksIfOpen stream (Err w.OutOfMemory) = ⊤
WorksIfOpen stream sent = stream.failed ≡ false

-- why a batch was not sent
abbrev pub IsAccepted : TableState → BatchRows → Result ⊤ WriteFault → Type 0
IsAccepted t b (Ok x) = AcceptsBatch t.stream.limits t.stream.schema b
IsAccepted t b (Err fault) = RefusesBatch t.stream.limits t.stream.schema b fault

-- a batch was sent by the writer of the table, or refused for its cause
pub record SendsBatch (t : TableState) (b : BatchRows) (new : Stage)
    (sent : Result ⊤ WriteFault) : Type 0 where
  pub after : Writer
  pub leaves : LeavesBatch t.stream b after sent
  pub accepted : IsAccepted t b sent
  pub stage_is : IsAfter t after sent new
