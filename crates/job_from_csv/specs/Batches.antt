-- Rows divided into batches.
use Rattle.std.specs.Prelude.{◌≡◌, ℕ, ◌<◌, List, [], ◌∷◌, ◌++◌, length, flat_map, ⊤}
use Rattle.std.specs.Prelude.{None, IsSome, min, unwrap_or}
use Rattle.ipc_model.specs.Limits.{HaveLimitValues, IsStandard}
use Rattle.ipc_model.specs.declared.fault.WriteFault.TheVariants as write
use Rattle.ipc_model.specs.declared.limits.Limits.{Limits}
use Rattle.ipc_model.specs.declared.schema.Schema.{Schema}
use Rattle.ipc_model.specs.declared.table.BatchRows.{BatchRows}
use Rattle.ipc_model.specs.declared.value.Value.{Value}
use Rattle.ipc_stream.specs.Writing.{RefusesBatch}
use Rattle.ipc_text_csv.specs.RowCsv.{flat_fault}
use Rattle.ipc_text_csv.specs.Records.{EachRecordReadsAs}
use Rattle.ipc_text_csv.specs.declared.dialect.Dialect.{Dialect}
use Rattle.job_from_csv.specs.declared.batch_size.BatchSize.{BatchSize}

-- the limits of a stream with batches of this size: the standard ones, but if the size has bytes, a
-- message's body has no more of them
pub record AreLimitsFor (size : BatchSize) (limits : Limits) : Type 0 where
  pub usual : Limits
  pub standard : IsStandard usual
  pub values : HaveLimitValues limits usual.metadata
      (min (unwrap_or size.bytes usual.body) usual.body)
      usual.slots usual.fields usual.depth usual.text usual.pairs

-- the batch of these rows, without pairs
abbrev pub batch_of : List (List Value) → BatchRows
batch_of rows = record { pairs = []; rows = rows }

-- why a batch with these rows ends before the rows that come next: it has exactly the rows of the
-- size. Or the size has bytes, and the batch has at least one row and fewer than the size's; with
-- the next row the writer would refuse it as too long (W6)
pub data IsFull (limits : Limits) (s : Schema) (size : BatchSize)
    (rows next : List (List Value)) : Type 0 where
  in_rows : length rows ≡ size.rows → IsFull limits s size rows next
  in_bytes : IsSome size.bytes → 0 < length rows → length rows < size.rows
      → (row : List Value) (rest : List (List Value)) → next ≡ row ∷ rest
      → RefusesBatch limits s (batch_of (rows ++ row ∷ [])) write.TooLong
      → IsFull limits s size rows next

-- each of these batches has no pairs and is full; after the last one come these rows
abbrev pub AreFull : Limits → Schema → BatchSize → List BatchRows → List (List Value) → Type 0
AreFull limits s size [] left = ⊤
AreFull limits s size (b ∷ batches) left = (b.pairs ≡ [])
    × IsFull limits s size b.rows (flat_map (λ c. c.rows) batches ++ left)
    × AreFull limits s size batches left

-- the rows fill these batches in order; these rows remain, fewer than those of the size
pub record Fill (limits : Limits) (s : Schema) (size : BatchSize) (rows : List (List Value))
    (batches : List BatchRows) (left : List (List Value)) : Type 0 where
  pub full : AreFull limits s size batches left
  pub few : length left < size.rows
  pub joined : flat_map (λ b. b.rows) batches ++ left ≡ rows

-- the columns can be written as CSV, and each of these records reads as a row; the rows fill these
-- batches, and these rows remain
pub record AreBatched (d : Dialect) (limits : Limits) (s : Schema) (size : BatchSize)
    (records : List (List (List ℕ))) (batches : List BatchRows)
    (left : List (List Value)) : Type 0 where
  pub flat : flat_fault s.fields ≡ None
  pub rows : List (List Value)
  pub read : EachRecordReadsAs d s.fields records rows
  pub fill : Fill limits s size rows batches left

-- the last batch, of the remaining rows, if there are any
abbrev pub last_batch : List (List Value) → List BatchRows
last_batch [] = []
last_batch (row ∷ rows) = batch_of (row ∷ rows) ∷ []
