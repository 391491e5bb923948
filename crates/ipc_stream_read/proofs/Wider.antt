-- What denotes a table under some limits denotes it under all that cover them.
use Rattle.std.proofs.Common.{ℕ, List, []}
use Rattle.ipc_model.specs.Limits.{Covers}
use Rattle.ipc_model.specs.declared.limits.Limits.{Limits}
use Rattle.ipc_model.specs.declared.table.Table.{Table}
use Rattle.ipc_meta.specs.declared.head.Head.{Head}
use Rattle.ipc_frame.proofs.Wider.{frame_wider}
use Rattle.ipc_column.proofs.Wider.{rows_wider}
use Rattle.ipc_stream_read.specs.declared.end.End.{End}
use Rattle.ipc_stream_read.specs.declared.end.End.TheVariants.{Mark, Closed}
use Rattle.ipc_stream_read.specs.Stream.{State, MessageEvent, Step, schema_message, record_batch, dictionary_batch, Run, done, more}
use Rattle.ipc_stream_read.specs.Stream.{Denotes, values_in_force}

-- a step under some limits is one under all that cover them
step_wider : {limits others : Limits} {σ τ : State} {h : Head} {body : List ℕ} {es : List MessageEvent} → Covers others limits
    → Step limits σ h body es τ → Step others σ h body es τ
step_wider c schema_message = schema_message
step_wider {limits} {others} c (record_batch {o = o} {b = b} {body = body} {rows = rows} r) =
    record_batch (rows_wider limits others (values_in_force o.dictionaries) o.schema.fields b body rows c r)
step_wider {limits} {others} c (dictionary_batch {b = b} {body = body} {columns = columns} {rows = rows} found r) =
    dictionary_batch found (rows_wider limits others [] columns b body rows c r)

-- so is a list of messages
pub run_wider : {limits others : Limits} {σ τ : State} {x : List ℕ} {es : List MessageEvent} → Covers others limits → Run limits σ x es τ
    → Run others σ x es τ
run_wider c done = done
run_wider {limits} {others} c (more {x = x} {metadata = metadata} {body = body} {h = h} frame step rest) =
    more (frame_wider limits others x metadata body h c frame) (step_wider c step) (run_wider c rest)

-- so are the bytes of a table
pub denotes_wider : (limits others : Limits) (x : List ℕ) (t : Table) (e : End) → Covers others limits → Denotes limits x t e
    → Denotes others x t e
denotes_wider limits others x t Closed c d = (d.0, run_wider c d.1)
denotes_wider limits others x t Mark c d = (d.0, d.1, (d.2.0, run_wider c d.2.1))
