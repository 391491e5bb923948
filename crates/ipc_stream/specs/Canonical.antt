-- The body of a batch in memory of the caller, as it is sent (Arrow Columnar Format, "RecordBatch
-- message").
use Rattle.std.specs.Prelude.{◌≡◌, ◌<◌, ◌≤◌, ◌⊎◌, ◌+◌, ◌*◌, ◌++◌, ◌∷◌, ℕ, ℤ, List, []}
use Rattle.std.specs.Prelude.{drop, false, length, pos, take, true, Err, Ok, Result}
use Rattle.std.specs.Prelude.{Option, Some, None}
use Rattle.std.specs.List.{AllByRecursion}
use Rattle.ipc_model.specs.Fits.{RowFits}
use Rattle.ipc_model.specs.declared.fault.WriteFault.{WriteFault}
use Rattle.ipc_model.specs.declared.fault.WriteFault.TheVariants as w
use Rattle.ipc_model.specs.declared.limits.Limits.{Limits}
use Rattle.ipc_model.specs.declared.schema.Field.{Field}
use Rattle.ipc_model.specs.declared.schema.Schema.{Schema}
use Rattle.ipc_model.specs.declared.value.Value.{Value}
use Rattle.ipc_column.specs.Dictionaries.{Dictionaries}
use Rattle.ipc_column.specs.Rows.{Rows}
use Rattle.ipc_dict.specs.declared.kept.KeptEntry.{KeptEntry}
use Rattle.ipc_dict.specs.Planning.{last_sent, sent_for}
use Rattle.ipc_dict.specs.Sending.{sent_after}
use Rattle.ipc_dict_read.specs.InForce.{at}
use Rattle.ipc_dict_read.specs.ValuesColumns.{columns_for, dictionary_columns}
use Rattle.ipc_encode.specs.Limits.{AreRowsRefused, IsWithin}
use Rattle.ipc_encode.specs.Numbers.{Numbering}
use Rattle.ipc_encode.specs.Segments.{AreSegmented, bytes_of_segments}
use Rattle.ipc_encode.specs.declared.segments.SegmentedParts.{SegmentedParts}
use Rattle.ipc_stream.specs.declared.canonical.CanonicalSize.{CanonicalSize}
use Rattle.ipc_stream.specs.Dictionaries.{AreDictionariesWithin}
use Rattle.ipc_stream.specs.PendingBatches.{with_rows}
use Rattle.ipc_stream.specs.Writer.{Writer}
use Rattle.ipc_stream.specs.Writing.{RefusesBatch}

-- the part is in the target from `at` on, and what is around it is as it was
abbrev pub Replaces : {T : Type 0} → ℕ → List T → List T → List T → Type 0
Replaces at part old new = new ≡ take at old ++ (part ++ drop (at + length part) old)

-- the numbers of pairs
abbrev pub flat : List (ℤ × ℤ) → List ℤ
flat [] = []
flat (pair ∷ more) = pair.0 ∷ pair.1 ∷ flat more

-- the body of a batch is at the beginning of the bytes, and its nodes and then the ranges of its
-- buffers at the beginning of the numbers; or there is no room for one of them, and nothing is
-- copied
pub record CopiesParts (parts : SegmentedParts) (bytes_old bytes_new : List ℕ)
    (numbers_old numbers_new : List ℤ) (size : CanonicalSize) : Type 0 where
  pub bytes_are : size.bytes ≡ length (bytes_of_segments parts.segments.items)
  pub nodes_are : size.nodes ≡ length parts.nodes
  pub buffers_are : size.buffers ≡ length parts.buffers
  pub copied : size.bytes ≤ length bytes_old
      → (2 * (size.nodes + size.buffers)) ≤ length numbers_old
      → Replaces 0 (bytes_of_segments parts.segments.items) bytes_old bytes_new
      × Replaces 0 (flat parts.nodes ++ flat parts.buffers) numbers_old numbers_new
  pub no_room : (length bytes_old < size.bytes)
      ⊎ (length numbers_old < 2 * (size.nodes + size.buffers))
      → (bytes_new ≡ bytes_old) × (numbers_new ≡ numbers_old)

-- the parts give these rows back once the dictionaries that they need are sent
abbrev pub GiveRows : Limits → Schema → List KeptEntry → List (List Value) → SegmentedParts → Type 0
GiveRows limits s kept rows parts = (m : Dictionaries)
    → ((id : ℤ) → at m id ≡ sent_for (sent_after s.fields rows kept) id)
    → Rows limits m s.fields (record {
      length = pos (length rows);
      nodes = parts.nodes;
      buffers = parts.buffers;
    }) (bytes_of_segments parts.segments.items) rows

-- a batch with these rows is accepted and copied as it is sent: these are its nodes, its buffers
-- and its bytes under some indices (`AreSegmented`), and they give the rows back
pub record CopiesCanonical (limits : Limits) (s : Schema) (kept : List KeptEntry)
    (rows : List (List Value)) (bytes_old bytes_new : List ℕ) (numbers_old numbers_new : List ℤ)
    (size : CanonicalSize) : Type 0 where
  pub fit : AllByRecursion (RowFits s.fields) rows
  pub lengths : IsWithin limits s.fields rows
  pub dictionaries : AreDictionariesWithin limits s.fields rows
  pub parts : SegmentedParts
  pub indices : Numbering
  pub segmented : AreSegmented indices s.fields rows parts
  pub give_rows : GiveRows limits s kept rows parts
  pub copies : CopiesParts parts bytes_old bytes_new numbers_old numbers_new size

-- no dictionary with the id was sent: no field names it, or none was needed yet
abbrev pub IsUnsent : Schema → List KeptEntry → ℤ → Type 0
IsUnsent s kept id =
    (columns_for (dictionary_columns s.fields) id ≡ None) ⊎ (last_sent kept id ≡ None)

-- the columns and the rows of the last dictionary with the id that was sent
pub record IsLastSent (s : Schema) (kept : List KeptEntry) (id : ℤ) : Type 0 where
  pub columns : List Field
  pub named : columns_for (dictionary_columns s.fields) id ≡ Some columns
  pub rows : List (List Value)
  pub sent : last_sent kept id ≡ Some rows

-- the values of the last dictionary with the id are copied as they are sent, in rows of one column
pub record CopiesDictionary (s : Schema) (kept : List KeptEntry) (id : ℤ)
    (bytes_old bytes_new : List ℕ) (numbers_old numbers_new : List ℤ)
    (size : CanonicalSize) : Type 0 where
  pub last : IsLastSent s kept id
  pub parts : SegmentedParts
  pub indices : Numbering
  pub segmented : AreSegmented indices last.columns last.rows parts
  pub copies : CopiesParts parts bytes_old bytes_new numbers_old numbers_new size

-- why the values of the last dictionary with the id are not copied: W6, W8, or out of memory
abbrev pub RefusesDictionary : Limits → Schema → List KeptEntry → ℤ → WriteFault → Type 0
RefusesDictionary limits s kept id fault = (fault ≡ w.OutOfMemory)
    ⊎ ((last : IsLastSent s kept id) × AreRowsRefused limits last.columns last.rows fault)

-- why these rows are refused, whatever the pairs of their batch: W2 to W8, or out of memory
abbrev pub RefusesRows : Limits → Schema → List (List Value) → WriteFault → Type 0
RefusesRows limits s rows w.Write = ⊥
RefusesRows limits s rows w.Failed = ⊥
RefusesRows limits s rows fault =
    (pairs : List (List ℕ × List ℕ)) → RefusesBatch limits s (with_rows pairs rows) fault

-- why a batch with these rows is not copied: the writer had failed, or the rows are refused
abbrev pub RefusesCopy : Writer → List (List Value) → WriteFault → Type 0
RefusesCopy writer rows fault = ((fault ≡ w.Failed) × (writer.failed ≡ true))
    ⊎ ((writer.failed ≡ false) × RefusesRows writer.limits writer.schema rows fault)

-- the call of a writer that copies a batch with these rows: after a refusal nothing is copied
abbrev pub CopiesBatch : Writer → List (List Value) → List ℕ → List ℕ → List ℤ → List ℤ
    → Result CanonicalSize WriteFault → Type 0
CopiesBatch writer rows bytes_old bytes_new numbers_old numbers_new (Ok size) =
    (writer.failed ≡ false) × CopiesCanonical writer.limits writer.schema writer.kept rows bytes_old
    bytes_new numbers_old numbers_new size
CopiesBatch writer rows bytes_old bytes_new numbers_old numbers_new (Err fault) =
    RefusesCopy writer rows fault × (bytes_new ≡ bytes_old) × (numbers_new ≡ numbers_old)

-- the call of a writer that copies the values of the last dictionary with the id; if none was sent,
-- or at an error, nothing is copied
abbrev pub CopiesSent : Writer → ℤ → List ℕ → List ℕ → List ℤ → List ℤ
    → Result (Option CanonicalSize) WriteFault → Type 0
CopiesSent writer id bytes_old bytes_new numbers_old numbers_new (Ok (Some size)) =
    (writer.failed ≡ false) × CopiesDictionary writer.schema writer.kept id bytes_old bytes_new
    numbers_old numbers_new size
CopiesSent writer id bytes_old bytes_new numbers_old numbers_new (Ok None) =
    (writer.failed ≡ false) × IsUnsent writer.schema writer.kept id × (bytes_new ≡ bytes_old)
    × (numbers_new ≡ numbers_old)
CopiesSent writer id bytes_old bytes_new numbers_old numbers_new (Err fault) =
    (((fault ≡ w.Failed) × (writer.failed ≡ true)) ⊎ ((writer.failed ≡ false)
    × RefusesDictionary writer.limits writer.schema writer.kept id fault))
    × (bytes_new ≡ bytes_old) × (numbers_new ≡ numbers_old)
