-- What each export of a writer answers, and which state it leaves.
use Rattle.std.specs.Prelude.{◌≡◌, ◌≤◌, ⊤, ℕ, ℤ, not, ◌==◌, List, Option, Some, None, Result}
use Rattle.std.specs.Prelude.{Err, Ok}
use Rattle.std.specs.declared.alloc.Global.{Global}
use Rattle.std.specs.declared.string.String.{String}
use Rattle.ipc_model.specs.declared.fault.Fault.{Fault}
use Rattle.ipc_model.specs.declared.value.Value.TheVariants as value
use Rattle.ipc_stream.specs.declared.canonical.CanonicalSize.{CanonicalSize}
use Rattle.ipc_stream_session.specs.declared.batch.ReadBatch.{ReadBatch}
use Rattle.ipc_stream_session.specs.declared.cells.Nesting.TheVariants as nesting
use Rattle.ipc_stream_session.specs.declared.write_session.WriteSession.{WriteSession}
use Rattle.ipc_stream_session.specs.Writes as s
use Rattle.arrowstream_c.specs.Calls.{GivesText}
use Rattle.arrowstream_c.specs.AtNull.{CopiesNothing}
use Rattle.arrowstream_c.specs.Numbers.{AreCapped, BySize, ShowsRoom, ShowsSent, canonical_size}
use Rattle.arrowstream_c.specs.Numbers.{limits_size}
use Rattle.arrowstream_c.specs.declared.answers.Canonical.{Canonical}
use Rattle.arrowstream_c.specs.declared.answers.ReadLimits.{ReadLimits}

-- a new writer within the limits that were asked for, or none: memory ran out, or the limits are in
-- a struct that is too small
abbrev pub OpensWriter : ReadLimits → Option WriteSession → Type 0
OpensWriter asked None = ⊤
OpensWriter asked (Some made) =
    (limits_size ≤ asked.size) × AreCapped asked made.limits × s.IsNew made.limits made

-- the status is that of the session's call
abbrev pub BeginsStream : WriteSession → List ℕ → WriteSession → ℕ → Type 0
BeginsStream was text is status = s.ReportsStatus (s.BeginsSession text) was is status

-- a null cell is added
abbrev pub AddsNull : WriteSession → WriteSession → ℕ → Type 0
AddsNull was is status = s.ReportsStatus (s.Adds value.Null) was is status

-- 0 is false, and each other number is true
abbrev pub AddsBool : WriteSession → ℕ → WriteSession → ℕ → Type 0
AddsBool was number is status =
    s.ReportsStatus (s.Adds (value.Bool (not (number == 0)))) was is status

-- a signed integer is added
abbrev pub AddsInt : WriteSession → ℤ → WriteSession → ℕ → Type 0
AddsInt was number is status = s.ReportsStatus (s.Adds (value.Int number)) was is status

-- an unsigned integer is added
abbrev pub AddsUInt : WriteSession → ℕ → WriteSession → ℕ → Type 0
AddsUInt was number is status = s.ReportsStatus (s.Adds (value.UInt number)) was is status

-- bytes are added as a cell
abbrev pub AddsBytes : WriteSession → List ℕ → WriteSession → ℕ → Type 0
AddsBytes was bytes is status = s.ReportsStatus (s.Adds (value.Bytes bytes)) was is status

-- a text is added as a cell
abbrev pub AddsText : WriteSession → List ℕ → WriteSession → ℕ → Type 0
AddsText was text is status = s.ReportsStatus (s.AddsText text) was is status

-- a list is begun
abbrev pub BeginsList : WriteSession → WriteSession → ℕ → Type 0
BeginsList was is status = s.ReportsStatus (s.BeginsCell nesting.List) was is status

-- a struct is begun
abbrev pub BeginsStruct : WriteSession → WriteSession → ℕ → Type 0
BeginsStruct was is status = s.ReportsStatus (s.BeginsCell nesting.Struct) was is status

-- the list or struct that was begun last is ended
abbrev pub EndsCell : WriteSession → WriteSession → ℕ → Type 0
EndsCell was is status = s.ReportsStatus s.EndsCell was is status

-- the row is ended
abbrev pub EndsRow : WriteSession → WriteSession → ℕ → Type 0
EndsRow was is status = s.ReportsStatus s.EndsRow was is status

-- the row that has not ended is dropped
abbrev pub DropsRow : WriteSession → WriteSession → ℕ → Type 0
DropsRow was is status = s.ReportsStatus s.DropsRow was is status

-- a pair is added to those that are sent with the pending rows
abbrev pub AddsPair : WriteSession → List ℕ → List ℕ → WriteSession → ℕ → Type 0
AddsPair was key value is status = s.ReportsStatus (s.AddsPair key value) was is status

-- the pending rows and pairs are dropped, with the row that has not ended
abbrev pub DropsBatch : WriteSession → WriteSession → ℕ → Type 0
DropsBatch was is status = s.ReportsStatus s.DropsBatch was is status

-- the pending rows are sent
abbrev pub SendsRows : WriteSession → WriteSession → ℕ → Type 0
SendsRows was is status = s.ReportsStatus s.SendsRows was is status

-- the batch stays
abbrev pub SendsColumns : WriteSession → ReadBatch → WriteSession → ReadBatch → ℕ → Type 0
SendsColumns was batch is left status =
    (left ≡ batch) × s.ReportsStatus (s.SendsColumns batch) was is status

-- the values of a dictionary are given
abbrev pub GivesDictionary : WriteSession → ℤ → ℤ → List ℤ → List ℤ → List ℕ → WriteSession → ℕ
    → Type 0
GivesDictionary was id rows nodes buffers body is status =
    s.ReportsStatus (s.GivesDictionary id rows nodes buffers body) was is status

-- buffers are sent as a batch
abbrev pub SendsBuffers : WriteSession → ℤ → List ℤ → List ℤ → List ℕ → WriteSession → ℕ → Type 0
SendsBuffers was rows nodes buffers body is status =
    s.ReportsStatus (s.SendsBuffers rows nodes buffers body) was is status

-- the room that a batch takes, or the number of an error
abbrev pub IsRoomAnswer : Result CanonicalSize ℕ → Canonical → Canonical → ℕ → Type 0
IsRoomAnswer (Ok room) old new status = (status ≡ 0) × ShowsRoom room old.size new
IsRoomAnswer (Err number) old new status = (status ≡ number) × (new ≡ old)

-- the session copies the batch, and status and room are those of its answer
abbrev pub CopiesBatch : WriteSession → ReadBatch → WriteSession → List ℕ → List ℕ → List ℤ
    → List ℤ → Canonical → Canonical → ℕ → Type 0
CopiesBatch was batch is bytes_old bytes_new numbers_old numbers_new old new status =
    (answer : Result CanonicalSize ℕ)
    × s.ReportsCopy batch bytes_old bytes_new numbers_old numbers_new was is answer
    × IsRoomAnswer answer old new status

-- the room that a dictionary takes, or the number of an error
abbrev pub IsSentAnswer : Result (Option CanonicalSize) ℕ → Canonical → Canonical → ℕ → Type 0
IsSentAnswer (Ok room) old new status = (status ≡ 0) × ShowsSent room old.size new
IsSentAnswer (Err number) old new status = (status ≡ number) × (new ≡ old)

-- the session copies the dictionary with the id, and status and numbers are those of its answer
abbrev pub CopiesLast : WriteSession → ℤ → WriteSession → List ℕ → List ℕ → List ℤ → List ℤ
    → Canonical → Canonical → ℕ → Type 0
CopiesLast was id is bytes_old bytes_new numbers_old numbers_new old new status =
    (answer : Result (Option CanonicalSize) ℕ)
    × s.ReportsDictionary id bytes_old bytes_new numbers_old numbers_new was is answer
    × IsSentAnswer answer old new status

-- the dictionary with the id is copied if the struct has room for the answer
abbrev pub CopiesDictionary : WriteSession → ℤ → WriteSession → List ℕ → List ℕ → List ℤ → List ℤ
    → Canonical → Canonical → ℕ → Type 0
CopiesDictionary was id is bytes_old bytes_new numbers_old numbers_new old new status =
    BySize old.size canonical_size
    (CopiesLast was id is bytes_old bytes_new numbers_old numbers_new old new status)
    ((is ≡ was) × CopiesNothing bytes_old bytes_new numbers_old numbers_new old new status)

-- how often a dictionary with the id was sent; the writer stays
abbrev pub CountsSent : WriteSession → ℤ → WriteSession → ℕ → Type 0
CountsSent was id is count = (is ≡ was) × (count ≡ s.times_sent_by was.stage id)

-- the batch is copied if the struct has room for the answer; the batch stays
abbrev pub CopiesCanonical : WriteSession → ReadBatch → WriteSession → ReadBatch → List ℕ → List ℕ
    → List ℤ → List ℤ → Canonical → Canonical → ℕ → Type 0
CopiesCanonical was batch is left bytes_old bytes_new numbers_old numbers_new old new status =
    (left ≡ batch) × BySize old.size canonical_size
    (CopiesBatch was batch is bytes_old bytes_new numbers_old numbers_new old new status)
    ((is ≡ was) × CopiesNothing bytes_old bytes_new numbers_old numbers_new old new status)

-- the stream is ended
abbrev pub Finishes : WriteSession → WriteSession → ℕ → Type 0
Finishes was is status = s.ReportsStatus s.Finishes was is status

-- the number of bytes that one call can take
abbrev pub AreReady : WriteSession → WriteSession → ℕ → Type 0
AreReady was is count = s.CountsReady was is count

-- the first bytes that wait are moved
abbrev pub TakesBytes : WriteSession → WriteSession → List ℕ → List ℕ → ℕ → Type 0
TakesBytes was is old new count = s.TakesBytes was is old new count

-- the line of the last error is copied; the writer stays
abbrev pub CopiesLine : WriteSession → WriteSession → List ℕ → List ℕ → ℕ → ℕ → Type 0
CopiesLine was is old new wanted status = (is ≡ was)
    × ((answer : Result (Option (String Global)) Fault)
    × s.GivesErrorLine was.error answer × GivesText answer old new wanted status)
