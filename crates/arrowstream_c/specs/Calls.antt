-- What each export answers, and which state it leaves.
use Rattle.std.specs.Prelude.{◌≡◌, ◌≤◌, ⊤, ℕ, List, length, Option, Some, None, Result, Ok, Err}
use Rattle.std.specs.Prelude.{string_bytes}
use Rattle.std.specs.declared.alloc.Global.{Global}
use Rattle.std.specs.declared.string.String.{String}
use Rattle.ipc_model.specs.declared.fault.Fault.{Fault}
use Rattle.ipc_model.specs.declared.fault.Fault.TheVariants.{OutOfMemory}
use Rattle.ipc_model.specs.Numbering.{fault_number}
use Rattle.ipc_text_json.specs.SchemaJson.{pairs_text}
use Rattle.ipc_stream_read.specs.Decoding.{Wants, progress_at, schema_of}
use Rattle.ipc_stream_read.specs.declared.end.End.{End}
use Rattle.ipc_stream_session.specs.declared.arrival.Arrival.{Arrival}
use Rattle.ipc_stream_session.specs.declared.batch.ReadBatch.{ReadBatch}
use Rattle.ipc_stream_session.specs.declared.buffer.BufferKind.{BufferKind}
use Rattle.ipc_stream_session.specs.declared.column.ColumnFacts.{ColumnFacts}
use Rattle.ipc_stream_session.specs.declared.field.FieldFacts.{FieldFacts}
use Rattle.ipc_stream_session.specs.declared.field.FieldText.{FieldText}
use Rattle.ipc_stream_session.specs.declared.session.ReadSession.{ReadSession}
use Rattle.ipc_stream_session.specs.Copies.{Copies}
use Rattle.ipc_stream_session.specs.Fields.{FindsFieldIn, FindsTextIn}
use Rattle.ipc_stream_session.specs.Paths.{FindsBuffer, FindsColumn}
use Rattle.ipc_stream_session.specs.Sessions as s
use Rattle.arrowstream_c.specs.Handles.{RefusesMisuse}
use Rattle.arrowstream_c.specs.declared.answers.Column.{Column}
use Rattle.arrowstream_c.specs.declared.answers.FieldNumbers.{FieldNumbers}
use Rattle.arrowstream_c.specs.declared.answers.Progress.{Progress}
use Rattle.arrowstream_c.specs.declared.answers.ReadLimits.{ReadLimits}
use Rattle.arrowstream_c.specs.Numbers.{absent, AreCapped, BySize, Shows}
use Rattle.arrowstream_c.specs.Numbers.{ShowsField, arrival_number, end_number, IsBuffer}
use Rattle.arrowstream_c.specs.Numbers.{IsFieldText, limits_size, progress_size, column_size}
use Rattle.arrowstream_c.specs.Numbers.{field_size}

-- a new reader within the limits that were asked for, or none: memory ran out, or the limits are in
-- a struct that is too small
abbrev pub OpensReader : ReadLimits → Option ReadSession → Type 0
OpensReader asked None = ⊤
OpensReader asked (Some made) = (limits_size ≤ asked.size)
    × AreCapped asked made.decoder.limits × s.IsNew made.decoder.limits made

-- the progress of a reader that took this number of bytes, with the number of what came, in a
-- struct of this size
pub record IsAt (reader : ReadSession) (taken event size : ℕ) (out : Progress) : Type 0 where
  pub size_is : out.size ≡ size
  pub taken_is : out.taken ≡ taken
  pub wanted : Wants reader.decoder.limits (progress_at reader.decoder.stage) out.wanted
  pub messages : out.messages ≡ reader.decoder.messages
  pub event_is : out.event ≡ event

-- the status is 0 with what came, or the number of the refusal
abbrev pub IsFed : Result (ℕ × Arrival) Fault → ReadSession → ℕ → Progress → ℕ → Type 0
IsFed (Ok r) is size out status = (status ≡ 0) × IsAt is r.0 (arrival_number r.1) size out
IsFed (Err fault) is size out status = (status ≡ fault_number fault) × IsAt is 0 0 size out

-- the session takes the piece, and status and progress are those of its answer
abbrev pub TakesPiece : ReadSession → List ℕ → ReadSession → ℕ → Progress → ℕ → Type 0
TakesPiece was piece is size out status = (answer : Result (ℕ × Arrival) Fault)
    × s.Feeds was piece is answer × IsFed answer is size out status

-- the session takes the piece if the struct has room for the progress
abbrev pub Feeds : ReadSession → List ℕ → ReadSession → Progress → Progress → ℕ → Type 0
Feeds was piece is old new status = BySize old.size progress_size
    (TakesPiece was piece is old.size new status) ((is ≡ was) × RefusesMisuse old new status)

-- the status is 0 with the end, or the number of the refusal
abbrev pub IsClosed : Result End Fault → ReadSession → ℕ → Progress → ℕ → Type 0
IsClosed (Ok end) is size out status = (status ≡ 0) × IsAt is 0 (end_number end) size out
IsClosed (Err fault) is size out status = (status ≡ fault_number fault) × IsAt is 0 0 size out

-- the session ends the input, and status and progress are those of its answer
abbrev pub EndsInput : ReadSession → ReadSession → ℕ → Progress → ℕ → Type 0
EndsInput was is size out status = (answer : Result End Fault)
    × s.Closes was is answer × IsClosed answer is size out status

-- the session ends the input if the struct has room for the progress
abbrev pub Closes : ReadSession → ReadSession → Progress → Progress → ℕ → Type 0
Closes was is old new status = BySize old.size progress_size
    (EndsInput was is old.size new status) ((is ≡ was) × RefusesMisuse old new status)

-- a text is copied; without a text nothing is copied
abbrev pub GivesText : Result (Option (String Global)) Fault → List ℕ → List ℕ → ℕ → ℕ → Type 0
GivesText (Ok (Some text)) old new wanted status =
    (status ≡ 0) × Copies (string_bytes text) old new wanted
GivesText (Ok None) old new wanted status = (status ≡ absent) × (new ≡ old) × (wanted ≡ 0)
GivesText (Err fault) old new wanted status =
    (status ≡ fault_number fault) × (new ≡ old) × (wanted ≡ 0)

-- the schema's text is copied; the reader stays
abbrev pub CopiesSchema : ReadSession → ReadSession → List ℕ → List ℕ → ℕ → ℕ → Type 0
CopiesSchema was is old new wanted status = (is ≡ was)
    × ((answer : Result (Option (String Global)) Fault)
    × s.GivesSchemaText was.decoder.state answer × GivesText answer old new wanted status)

-- the line of the first refusal is copied; the reader stays
abbrev pub CopiesLine : ReadSession → ReadSession → List ℕ → List ℕ → ℕ → ℕ → Type 0
CopiesLine was is old new wanted status = (is ≡ was)
    × ((answer : Result (Option (String Global)) Fault)
    × s.GivesLine was.refusal answer × GivesText answer old new wanted status)

-- the numbers of the field that was found, if there is one
abbrev pub IsFieldAnswer : Option FieldFacts → FieldNumbers → FieldNumbers → ℕ → Type 0
IsFieldAnswer None old new status = (status ≡ absent) × (new ≡ old)
IsFieldAnswer (Some facts) old new status = (status ≡ 0) × ShowsField facts old.size new

-- the field to which the path leads is described, if it leads to one
abbrev pub FillsField : ReadSession → List ℕ → FieldNumbers → FieldNumbers → ℕ → Type 0
FillsField s path old new status = (answer : Option FieldFacts)
    × FindsFieldIn (schema_of s.decoder.state) path answer × IsFieldAnswer answer old new status

-- a field is described if the struct has room for it; the reader stays
abbrev pub DescribesField : ReadSession → List ℕ → ReadSession → FieldNumbers → FieldNumbers → ℕ
    → Type 0
DescribesField was path is old new status = (is ≡ was)
    × BySize old.size field_size (FillsField was path old new status) (RefusesMisuse old new status)

-- a text of the field to which the path leads is copied, if there is such a text
abbrev pub GivesFieldText : ReadSession → List ℕ → Option FieldText → List ℕ → List ℕ → ℕ → ℕ
    → Type 0
GivesFieldText s path None old new wanted status = (status ≡ absent) × (new ≡ old) × (wanted ≡ 0)
GivesFieldText s path (Some text) old new wanted status =
    (answer : Result (Option (String Global)) Fault)
    × FindsTextIn (schema_of s.decoder.state) path text answer
    × GivesText answer old new wanted status

-- the text of this number is copied; the reader stays
abbrev pub CopiesFieldText : ReadSession → List ℕ → ℕ → ℕ → ReadSession → List ℕ → List ℕ → ℕ → ℕ
    → Type 0
CopiesFieldText was path number pair is old new wanted status = (is ≡ was)
    × ((text : Option FieldText) × IsFieldText number pair text
    × GivesFieldText was path text old new wanted status)

-- the batch is held and the status is 0, or memory ran out
abbrev pub MayHold : ReadBatch → Option ReadBatch → ℕ → Type 0
MayHold batch None status = status ≡ fault_number OutOfMemory
MayHold batch (Some held) status = (status ≡ 0) × (held ≡ batch)

-- the batch that came last is held, unless memory ran out; without one there is none to hold
abbrev pub IsTaken : Option ReadBatch → Option ReadBatch → ℕ → Type 0
IsTaken None None status = status ≡ absent
IsTaken None (Some found) status = ⊥
IsTaken (Some last) found status = MayHold last found status

-- the batch that came last leaves the reader, for C
abbrev pub TakesBatch : ReadSession → ReadSession → Option ReadBatch → ℕ → Type 0
TakesBatch was is found status = (is ≡ record was { batch = None }) × IsTaken was.batch found status

-- the reader takes a batch back as `ReadSession::reuse` does; null changes nothing
abbrev pub TakesBack : Option ReadBatch → ReadSession → ReadSession → Type 0
TakesBack None was is = is ≡ was
TakesBack (Some batch) was is = s.TakesBack was is

-- another handle of the batch is made, unless memory ran out; the batch stays
abbrev pub ClonesBatch : ReadBatch → ReadBatch → Option ReadBatch → ℕ → Type 0
ClonesBatch was is made status = (is ≡ was) × MayHold was made status

-- the number of rows; the batch stays
abbrev pub AreRows : ReadBatch → ReadBatch → ℕ → Type 0
AreRows was is rows = (is ≡ was) × (rows ≡ length was.batch.rows)

-- the number of columns; the batch stays
abbrev pub AreColumns : ReadBatch → ReadBatch → ℕ → Type 0
AreColumns was is columns = (is ≡ was) × (columns ≡ was.batch.columns)

-- the text of a batch's pairs, or memory ran out
abbrev pub GivesPairs : ReadBatch → Result (Option (String Global)) Fault → Type 0
GivesPairs b (Ok (Some text)) = string_bytes text ≡ pairs_text b.pairs
GivesPairs b (Ok None) = ⊥
GivesPairs b (Err fault) = fault ≡ OutOfMemory

-- the text of the pairs is copied; the batch stays
abbrev pub CopiesPairs : ReadBatch → ReadBatch → List ℕ → List ℕ → ℕ → ℕ → Type 0
CopiesPairs was is old new wanted status = (is ≡ was)
    × ((answer : Result (Option (String Global)) Fault)
    × GivesPairs was answer × GivesText answer old new wanted status)

-- the numbers of the column that was found, if there is one
abbrev pub IsColumnAnswer : Option ColumnFacts → Column → Column → ℕ → Type 0
IsColumnAnswer None old new status = (status ≡ absent) × (new ≡ old)
IsColumnAnswer (Some facts) old new status = (status ≡ 0) × Shows facts old.size new

-- the column to which the path leads is described, if it leads to one
abbrev pub FillsColumn : ReadBatch → List ℕ → Column → Column → ℕ → Type 0
FillsColumn b path old new status = (answer : Option ColumnFacts)
    × FindsColumn b.batch path answer × IsColumnAnswer answer old new status

-- a column is described if the struct has room for it; the batch stays
abbrev pub DescribesColumn : ReadBatch → List ℕ → ReadBatch → Column → Column → ℕ → Type 0
DescribesColumn was path is old new status = (is ≡ was)
    × BySize old.size column_size (FillsColumn was path old new status)
    (RefusesMisuse old new status)

-- the number of bytes of the buffer that was found, if there is one
abbrev pub IsBufferLength : Option ℕ → ℕ → ℕ → Type 0
IsBufferLength None wanted status = (status ≡ absent) × (wanted ≡ 0)
IsBufferLength (Some count) wanted status = (status ≡ 0) × (wanted ≡ count)

-- a buffer of the column to which the path leads is copied, if there is such a buffer
abbrev pub GivesBuffer : ReadBatch → List ℕ → Option BufferKind → List ℕ → List ℕ → ℕ → ℕ → Type 0
GivesBuffer b path None old new wanted status =
    (status ≡ absent) × (new ≡ old) × (wanted ≡ 0)
GivesBuffer b path (Some kind) old new wanted status = (answer : Option ℕ)
    × FindsBuffer b.batch path kind old new answer × IsBufferLength answer wanted status

-- the buffer of this number is copied; the batch stays
abbrev pub CopiesBuffer : ReadBatch → List ℕ → ℕ → ReadBatch → List ℕ → List ℕ → ℕ → ℕ → Type 0
CopiesBuffer was path number is old new wanted status = (is ≡ was)
    × ((kind : Option BufferKind) × IsBuffer number kind
    × GivesBuffer was path kind old new wanted status)
