-- A batch that was read, with the pairs of its message (Message.fbs, table RecordBatch, and table
-- Message, custom_metadata).
use Rattle.std.specs.Prelude.{ℕ, List}
use Rattle.ipc_column.specs.Contents.{Contents}
use Rattle.ipc_model.specs.declared.table.BatchRows.{BatchRows}

-- a batch, and its message's pairs of key and value
abbrev pub ReadRows : Type 0
ReadRows = Contents × List (List ℕ × List ℕ)

-- these pairs, and the batch's rows
abbrev pub batch_rows : ReadRows → BatchRows
batch_rows found = record { pairs = found.1; rows = found.0.rows }
