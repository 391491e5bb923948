-- A batch whose rows are pushed one by one (Message.fbs, RecordBatch).
use Rattle.std.specs.Prelude.{◌≡◌, ℕ, Bool, true, false, List, [], ◌∷◌, ◌++◌, Result, Ok, Err}
use Rattle.std.specs.Coded.{Coded, coded_list}
use Rattle.ipc_model.specs.contracts.schema.Field as field
use Rattle.ipc_model.specs.Fits.{RowFits}
use Rattle.ipc_model.specs.declared.fault.WriteFault.{WriteFault}
use Rattle.ipc_model.specs.declared.fault.WriteFault.TheVariants as w
use Rattle.ipc_model.specs.declared.limits.Limits.{Limits}
use Rattle.ipc_model.specs.declared.schema.Field.{Field}
use Rattle.ipc_model.specs.declared.schema.Schema.{Schema}
use Rattle.ipc_model.specs.declared.table.BatchRows.{BatchRows}
use Rattle.ipc_model.specs.declared.value.Value.{Value}
use Rattle.ipc_encode.specs.Built.{StoresRows}
use Rattle.ipc_encode.specs.Numbers.{known_indices}
use Rattle.ipc_dict.specs.Noting.{place_of_value}
use Rattle.ipc_dict.specs.Sending.{tally_of_rows}
use Rattle.ipc_dict.specs.TallyState.{TallyState}
use Rattle.ipc_stream.specs.declared.pending_batch.PendingBatch.{PendingBatch}
use Rattle.ipc_stream.specs.Writing.{AcceptsBatch, RefusesBatch}
use Rattle.ipc_stream.specs.Writer.{Writer}

-- a batch with these pairs and no rows
abbrev pub no_rows : List (List ℕ × List ℕ) → BatchRows
no_rows pairs = record { pairs = pairs; rows = [] }

-- the batch with one row appended
abbrev pub with_row : BatchRows → List Value → BatchRows
with_row b row = record { pairs = b.pairs; rows = b.rows ++ row ∷ [] }

-- a batch with these pairs and rows
abbrev pub with_rows : List (List ℕ × List ℕ) → List (List Value) → BatchRows
with_rows pairs rows = record { pairs = pairs; rows = rows }

-- a tally with these limits and fields works, and has counted exactly these rows; the values from
-- before the last of them do not matter
pub record HasCounted (limits : Limits) (fields : List Field) (rows : List (List Value))
    (tally : TallyState) : Type 0 where
  pub works : tally.failed ≡ false
  pub same_limits : tally.limits ≡ limits
  pub same_fields : tally.fields ≡ fields
  pub counted : tally.entries ≡ tally_of_rows fields rows

-- the stored rows and pairs are exactly this batch, its distinct values are counted, and no
-- argument is a cause for refusing it
pub record HoldsBatch (limits : Limits) (s : Schema) (b : BatchRows)
    (held : PendingBatch) : Type 0 where
  pub tally : HasCounted limits s.fields b.rows held.tally
  pub rows : StoresRows (known_indices (place_of_value (tally_of_rows s.fields b.rows))) limits
      s.fields b.rows
      held.builder
  pub pairs : held.pairs ≡ b.pairs
  pub accepted : AcceptsBatch limits s b

-- the batch was held, and this row was stored after its rows; if it fits the schema, the batch with
-- the row is held. The tally can be cut back
pub record HasTaken (limits : Limits) (s : Schema) (b : BatchRows) (row : List Value)
    (held : PendingBatch) : Type 0 where
  pub fits : RowFits s.fields row → HoldsBatch limits s (with_row b row) held
  pub before : HasCounted limits s.fields b.rows
      (record held.tally { entries = held.tally.before })
  pub rows : StoresRows
      (known_indices (place_of_value (tally_of_rows s.fields (b.rows ++ row ∷ [])))) limits s.fields
      (b.rows ++ row ∷ [])
      held.builder
  pub pairs : held.pairs ≡ b.pairs
  pub accepted : AcceptsBatch limits s b

-- how the fields of a schema are compared: two equations between them are one
abbrev pub coded_fields : Coded (List Field)
coded_fields = coded_list field.the_row.coded

-- the rows that are held belong to a stream with these limits and this schema, whatever they are
abbrev pub BelongsTo : Limits → Schema → PendingBatch → Type 0
BelongsTo limits s held = (held.tally.limits ≡ limits) × (held.tally.fields ≡ s.fields)

-- the rows that are held belong to the stream to which they belonged before a call
abbrev pub StaysInStream : PendingBatch → PendingBatch → Type 0
StaysInStream old new =
    (new.tally.limits ≡ old.tally.limits) × (new.tally.fields ≡ old.tally.fields)

-- a call leaves the limits and the schema of a writer as they were
abbrev pub KeepsStream : Writer → Writer → Type 0
KeepsStream old new = (new.limits ≡ old.limits) × (new.schema ≡ old.schema)

-- why a batch is not begun, or a row not taken into it: the batch would be refused. W9 does not
-- occur, since the sink is not called; a writer that has failed returns W10
abbrev pub RefusesPending : Limits → Schema → BatchRows → Bool → WriteFault → Type 0
RefusesPending limits s b failed w.Write = ⊥
RefusesPending limits s b failed w.Failed = failed ≡ true
RefusesPending limits s b failed fault = RefusesBatch limits s b fault

-- the state of a writer after a refusal, if nothing was to be sent: W11 makes it fail; after any
-- other fault it is as it was
abbrev pub StaysAt : Writer → Writer → WriteFault → Type 0
StaysAt old new w.OutOfMemory = (old.failed ≡ false) × (new ≡ record old { failed = true })
StaysAt old new fault = new ≡ old

-- the state of a writer after a call that sends nothing
abbrev pub Stays : {T : Type 0} → Writer → Writer → Result T WriteFault → Type 0
Stays old new (Ok x) = (old.failed ≡ false) × (new ≡ old)
Stays old new (Err fault) = StaysAt old new fault
