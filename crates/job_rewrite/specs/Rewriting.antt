-- What is taken from a source and sent to a sink when a stream is rewritten.
use Rattle.std.specs.Prelude.{◌≡◌, ◌≢◌, ◌+◌, ℕ, List, [], ◌∷◌, ◌++◌, map, Option, Some, length}
use Rattle.std.specs.Prelude.{None, Result, Ok, Err, IsTrue, ⊤, ◌⊎◌}
use Rattle.std.specs.Io.KnownBytes.{Consumes, IsAtEnd}
use Rattle.std.specs.List.{AllByRecursion}
use Rattle.ipc_model.specs.declared.fault.Fault.{Fault}
use Rattle.ipc_model.specs.declared.fault.Fault.TheVariants.{OutOfMemory, Read}
use Rattle.ipc_model.specs.declared.fault.WriteFault.{WriteFault}
use Rattle.ipc_model.specs.declared.fault.WriteFault.TheVariants as w
use Rattle.ipc_model.specs.declared.limits.Limits.{Limits}
use Rattle.ipc_model.specs.declared.schema.Schema.{Schema}
use Rattle.ipc_model.specs.declared.table.BatchRows.{BatchRows}
use Rattle.ipc_model.specs.declared.table.Table.{Table}
use Rattle.ipc_stream_read.specs.declared.end.End.{End}
use Rattle.ipc_stream_read.specs.declared.end.End.TheVariants.{Closed, Mark}
use Rattle.ipc_frame.specs.Failures.{CountsFault, CountsSinkFault}
use Rattle.ipc_stream_read.specs.Ends.{as_required}
use Rattle.ipc_stream_read.specs.Reader.{Reader, in_force_of}
use Rattle.ipc_stream_read.specs.Reasons.{IsOutside, Reads}
use Rattle.ipc_stream_read.specs.declared.read_stop.ReadStop.{ReadStop}
use Rattle.ipc_stream_read.specs.declared.read_stop.ReadStop.TheVariants as read_stop
use Rattle.ipc_stream_read.specs.Stream.{batch, initial_state, Run, Denotes, DenotesClosed}
use Rattle.ipc_stream_read.specs.Counts.{count_up, messages_in}
use Rattle.ipc_stream.specs.Dictionaries.{SendsBatch, SendsBatches, SendsTable, kept_after}
use Rattle.ipc_stream.specs.Dictionaries.{kept_at_start}
use Rattle.ipc_stream.specs.Writer.{Writer}
use Rattle.ipc_stream.specs.Writing.{AcceptsBatch, AcceptsSchema, AcceptsTable, BreaksOff, CutShort}
use Rattle.ipc_stream_read.specs.Stream.{EndsStream, IsTableOf, OpensStream}
use Rattle.ipc_stream.specs.Writing.{NotSentWhole}
use Rattle.ipc_stream.specs.Writing.{RefusesBatch, RefusesSchema, Sent}
use Rattle.job_expect.specs.Differences.{IsExpected, IsOther}
use Rattle.job_rewrite.specs.declared.options.RewriteOptions.{RewriteOptions}
use Rattle.job_rewrite.specs.declared.options.Total.{Total}
use Rattle.job_rewrite.specs.declared.options.Total.TheVariants.{Bytes}
use Rattle.job_rewrite.specs.declared.stop.RewriteStop.{RewriteStop}
use Rattle.job_rewrite.specs.declared.stop.RewriteStop.TheVariants as stop
use Rattle.job_rewrite.specs.RewriteLimits.{sent_limits}
use Rattle.job_rewrite.specs.Totals.{AreAbove, AreWithin, IsWithin}

-- a table with one more batch
abbrev pub with_batch : Table → BatchRows → Table
with_batch t last = record { schema = t.schema; batches = t.batches ++ last ∷ [] }

-- the bytes that were taken denote a table and its end, which is the end mark if that is required,
-- and this table was sent with the end mark. It is within the totals
pub record CopiesTable (options : RewriteOptions) (limits : Limits)
    (old new written_old written_new : Option (List ℕ))
    (failures_old failures_new : ℕ) : Type 0 where
  pub x : List ℕ
  pub table : Table
  pub end : End
  pub bytes : Consumes old new x
  pub denotes : Denotes limits x table end
  pub closed : end ≡ Closed → IsAtEnd new
  pub marked : IsTrue options.require_mark → end ≡ Mark
  pub within : AreWithin options table.batches
  pub accepts : AcceptsTable (sent_limits options limits) table
  pub sent : Sent (IsTableOf (sent_limits options limits) table) written_old written_new
      failures_old failures_new

-- the bytes that were taken are the message of a table's schema, other messages with its batches,
-- and the end; this number counts the messages
abbrev pub HasMessages : Limits → Option (List ℕ) → Option (List ℕ) → Table → End → ℕ → Type 0
HasMessages limits old new t end messages =
    (x y : List ℕ) × Consumes old new (x ++ y) × OpensStream limits t.schema x
    × ((reads : Reads limits (Some (initial_state t.schema)) y new (map batch t.batches) (Ok end))
    × (messages ≡ count_up 1 (messages_in reads.run)))

-- why a stream is not read to its end, and the messages that were sent before
pub data BreaksReading (options : RewriteOptions) (limits : Limits)
    (old new written_old written_new : Option (List ℕ))
    (failures_old failures_new : ℕ) (fault : Fault) (message : ℕ) : Type 0 where
  -- no schema was read, and the sink was not called
  unopened : (x : List ℕ) → Consumes old new x → Reads limits None x new [] (Err fault)
      → message ≡ 0 → written_new ≡ written_old → failures_new ≡ failures_old
      → BreaksReading options limits old new written_old written_new failures_old failures_new fault
      message
  -- reading broke off after a schema and batches, whose messages were sent, or it ended there
  -- without the mark that is required; `message` counts the messages that were read, the schema's
  -- included
  broken : (x y : List ℕ) (table : Table) (answer : Result End Fault) → Consumes old new (x ++ y)
      → OpensStream limits table.schema x
      → (reads : Reads limits (Some (initial_state table.schema)) y new (map batch table.batches)
      answer) → as_required options.require_mark answer ≡ Err fault
      → message ≡ count_up 1 (messages_in reads.run) → AreWithin options table.batches
      → AcceptsTable (sent_limits options limits) table
      → Sent (SendsTable (sent_limits options limits) table) written_old written_new failures_old
      failures_new
      → BreaksReading options limits old new written_old written_new failures_old failures_new fault
      message

-- why what was read is not written, and the messages that were sent before. At W9 a beginning of
-- the refused message was sent, and at any other fault nothing of it
pub data BreaksWriting (options : RewriteOptions) (limits : Limits)
    (old new written_old written_new : Option (List ℕ)) (failures_old failures_new : ℕ)
    (fault : WriteFault) : Type 0 where
  -- the schema that was read is refused
  unstarted : (x : List ℕ) (s : Schema) → Consumes old new x → OpensStream limits s x
      → RefusesSchema (sent_limits options limits) s fault
      → NotSentWhole (OpensStream (sent_limits options limits) s) written_old written_new
      failures_old failures_new fault
      → BreaksWriting options limits old new written_old written_new failures_old failures_new fault
  -- the last batch that was read is refused; all messages before it were sent
  refused : (x : List ℕ) (table : Table) (last : BatchRows) (between : Option (List ℕ))
      (failures : ℕ) → Consumes old new x → DenotesClosed limits x (with_batch table last)
      → AreWithin options (table.batches ++ last ∷ [])
      → AcceptsTable (sent_limits options limits) table
      → Sent (SendsTable (sent_limits options limits) table) written_old between failures_old
      failures
      → RefusesBatch (sent_limits options limits) table.schema last fault
      → NotSentWhole (SendsBatch (sent_limits options limits) table.schema
      (kept_after table.schema.fields (kept_at_start table.schema) table.batches) last) between
      written_new failures failures_new fault
      → BreaksWriting options limits old new written_old written_new failures_old failures_new fault
  -- the stream was read to its end, and all its messages were sent; the sink failed at the end mark
  unended : (x : List ℕ) (table : Table) (end : End) (between : Option (List ℕ)) (failures : ℕ)
      → Consumes old new x → Denotes limits x table end → (end ≡ Closed → IsAtEnd new)
      → AreWithin options table.batches → AcceptsTable (sent_limits options limits) table
      → Sent (SendsTable (sent_limits options limits) table) written_old between failures_old
      failures
      → fault ≡ w.Write → CutShort EndsStream between written_new failures_new
      → BreaksWriting options limits old new written_old written_new failures_old failures_new fault

-- with one batch more, this table, of which these bytes were sent, would exceed a total: that of
-- batches or of rows; or that of bytes, with all messages of the batch and the end mark
abbrev pub Exceeds : RewriteOptions → Limits → Total → Table → BatchRows → List ℕ → Type 0
Exceeds options limits Bytes t last x = (y : List ℕ)
    × SendsBatch limits t.schema
    (kept_after t.schema.fields (kept_at_start t.schema) t.batches) last y
    × (IsWithin options.max_bytes (length x + length y + 8) → ⊥)
Exceeds options limits total t last x = AreAbove options total (t.batches ++ last ∷ [])

-- this table was sent without its end mark, and is within the totals. With one batch more, whose
-- number this is, it would exceed a total. A count of batches stops at 2^64 - 1
pub record StopsAbove (options : RewriteOptions) (limits : Limits) (table : Table)
    (last : BatchRows) (written_old written_new : Option (List ℕ)) (failures_old failures_new : ℕ)
    (total : Total) (number : ℕ) : Type 0 where
  pub counted : number ≡ count_up 0 (length table.batches)
  pub within : AreWithin options table.batches
  pub accepts : AcceptsTable limits table
  pub sent : Sent (SendsTable limits table) written_old written_new failures_old failures_new
  pub above : Exceeds options limits total table last sent.x

-- the last batch that was read would exceed a total, and nothing of it was sent; all messages
-- before it were sent
pub record BreaksTotals (options : RewriteOptions) (limits : Limits)
    (old new written_old written_new : Option (List ℕ)) (failures_old failures_new : ℕ)
    (total : Total) (number : ℕ) : Type 0 where
  pub x : List ℕ
  pub table : Table
  pub last : BatchRows
  pub bytes : Consumes old new x
  pub denotes : DenotesClosed limits x (with_batch table last)
  pub stops : StopsAbove options (sent_limits options limits) table last written_old
      written_new failures_old failures_new total number

-- the message of this schema, with the end mark, has more bytes than may be written, and nothing
-- was sent
pub record StopsAtSchema (most : Option ℕ) (limits : Limits) (s : Schema)
    (written_old written_new : Option (List ℕ)) (failures_old failures_new : ℕ) : Type 0 where
  pub accepts : AcceptsSchema limits s
  pub message : List ℕ
  pub opens : OpensStream limits s message
  pub above : IsWithin most (length message + 8) → ⊥
  pub same_written : written_new ≡ written_old
  pub same_failures : failures_new ≡ failures_old

-- the schema that was read has no room in what may be written
pub record BreaksAtSchema (options : RewriteOptions) (limits : Limits)
    (old new written_old written_new : Option (List ℕ))
    (failures_old failures_new : ℕ) : Type 0 where
  pub x : List ℕ
  pub s : Schema
  pub bytes : Consumes old new x
  pub opens : OpensStream limits s x
  pub stops : StopsAtSchema options.max_bytes (sent_limits options limits) s written_old written_new
      failures_old failures_new

-- the message of a schema alone was taken, and the sink was not called
pub record ReadsSchemaAlone (limits : Limits) (old new written_old written_new : Option (List ℕ))
    (failures_old failures_new : ℕ) : Type 0 where
  pub x : List ℕ
  pub schema : Schema
  pub bytes : Consumes old new x
  pub opens : OpensStream limits schema x
  pub same_written : written_new ≡ written_old
  pub same_failures : failures_new ≡ failures_old

-- the result if the source begins with the message of this schema, where a schema may be expected.
-- Another one is refused before anything is sent, unless the source fails, memory runs out or more
-- would be held
abbrev pub AnswersExpected : Option Schema → Schema → Option (List ℕ) → Option (List ℕ)
    → Result ℕ RewriteStop → Type 0
AnswersExpected expected s written_old written_new (Ok done) = IsExpected expected s
AnswersExpected expected s written_old written_new (Err (stop.Read fault message)) =
    IsExpected expected s ⊎ (IsOutside fault × (written_new ≡ written_old))
AnswersExpected expected s written_old written_new (Err (stop.Write fault)) =
    IsExpected expected s ⊎ ((fault ≡ w.OutOfMemory) × (written_new ≡ written_old))
AnswersExpected expected s written_old written_new (Err (stop.Above total number)) =
    IsExpected expected s
AnswersExpected expected s written_old written_new (Err stop.NoRoom) = IsExpected expected s
AnswersExpected expected s written_old written_new (Err (stop.Held message)) =
    IsExpected expected s ⊎ (written_new ≡ written_old)
AnswersExpected expected s written_old written_new (Err (stop.OtherSchema path)) =
    IsOther expected s path.items

-- why reading stopped, at the message with this number
abbrev pub stop_of_reading : ReadStop → ℕ → RewriteStop
stop_of_reading (read_stop.Refused fault) message = stop.Read fault message
stop_of_reading read_stop.Held message = stop.Held message

-- the result is that more bytes would be held than the options allow
abbrev pub IsHeld : Result ℕ RewriteStop → Type 0
IsHeld (Err (stop.Held message)) = ⊤
IsHeld r = ⊥

-- what a result states about a stream that is read under these limits and written under those that
-- the options give. At Ok the number counts the messages that were read. At the maximum of held
-- bytes reading broke off as where a source fails. At another schema than the one that is expected,
-- the schema alone was read
abbrev pub Rewrites : RewriteOptions → Limits → Option (List ℕ) → Option (List ℕ) → Option (List ℕ)
    → Option (List ℕ) → ℕ → ℕ → Result ℕ RewriteStop → Type 0
Rewrites options limits old new written_old written_new failures_old failures_new (Ok messages) =
    (c : CopiesTable options limits old new written_old written_new failures_old failures_new)
    × HasMessages limits old new c.table c.end messages
Rewrites options limits old new written_old written_new failures_old failures_new
    (Err (stop.Read fault message)) =
    BreaksReading options limits old new written_old written_new failures_old failures_new fault
    message
Rewrites options limits old new written_old written_new failures_old failures_new
    (Err (stop.Write fault)) =
    BreaksWriting options limits old new written_old written_new failures_old failures_new fault
Rewrites options limits old new written_old written_new failures_old failures_new
    (Err (stop.Above total number)) =
    BreaksTotals options limits old new written_old written_new failures_old failures_new total
    number
Rewrites options limits old new written_old written_new failures_old failures_new
    (Err stop.NoRoom) =
    BreaksAtSchema options limits old new written_old written_new failures_old failures_new
Rewrites options limits old new written_old written_new failures_old failures_new
    (Err (stop.Held message)) =
    BreaksReading options limits old new written_old written_new failures_old failures_new Read
    message
Rewrites options limits old new written_old written_new failures_old failures_new
    (Err (stop.OtherSchema path)) =
    ReadsSchemaAlone limits old new written_old written_new failures_old failures_new

-- the result if the source contains this table: it was sent with the end mark and is within the
-- totals, or memory ran out in reading it, or writing it broke off, or it stopped before the first
-- batch that would exceed a total, at a schema without room, or at a maximum of held bytes, or
-- another schema is expected, as `AnswersExpected` states
abbrev pub AnswersRewrittenTable : RewriteOptions → Limits → Table → Option (List ℕ)
    → Option (List ℕ) → ℕ → ℕ → Result ℕ RewriteStop → Type 0
AnswersRewrittenTable options limits t written_old written_new failures_old failures_new (Ok done) =
    AreWithin options t.batches
    × Sent (IsTableOf limits t) written_old written_new failures_old failures_new
AnswersRewrittenTable options limits t written_old written_new failures_old failures_new
    (Err (stop.Read fault message)) = fault ≡ OutOfMemory
AnswersRewrittenTable options limits t written_old written_new failures_old failures_new
    (Err (stop.Write fault)) =
    BreaksOff limits t written_old written_new failures_old failures_new fault
AnswersRewrittenTable options limits t written_old written_new failures_old failures_new
    (Err (stop.Above total number)) =
    (front : Table) × (last : BatchRows) × (rest : List BatchRows)
    × (record { schema = front.schema; batches = front.batches ++ last ∷ rest } ≡ t)
    × StopsAbove options limits front last written_old written_new failures_old failures_new total
    number
AnswersRewrittenTable options limits t written_old written_new failures_old failures_new
    (Err stop.NoRoom) =
    StopsAtSchema options.max_bytes limits t.schema written_old written_new failures_old
    failures_new
AnswersRewrittenTable options limits t written_old written_new failures_old failures_new
    (Err (stop.Held message)) = options.max_held ≢ None
AnswersRewrittenTable options limits t written_old written_new failures_old failures_new
    (Err (stop.OtherSchema path)) = ⊤

-- how a result changes the counts of failures of the source and the sink. Success and a stop at a
-- total need 0 before and after; at a schema without room the sink was not called. If reading is
-- refused, the sink did not fail in the call; if writing is refused, the source never failed. At
-- the maximum of held bytes neither failed in the call. At another schema than the one that is
-- expected the counts are as at a schema without room
abbrev pub CountsRewriteFailures : ℕ → ℕ → ℕ → ℕ → Result ℕ RewriteStop → Type 0
CountsRewriteFailures source_old source_new sink_old sink_new (Ok done) =
    (source_old ≡ 0) × (source_new ≡ 0) × (sink_old ≡ 0) × (sink_new ≡ 0)
CountsRewriteFailures source_old source_new sink_old sink_new (Err (stop.Read fault message)) =
    CountsFault source_old source_new fault × (sink_new ≡ sink_old)
CountsRewriteFailures source_old source_new sink_old sink_new (Err (stop.Write fault)) =
    (source_old ≡ 0) × (source_new ≡ 0) × CountsSinkFault sink_old sink_new fault
CountsRewriteFailures source_old source_new sink_old sink_new (Err (stop.Above total number)) =
    (source_old ≡ 0) × (source_new ≡ 0) × (sink_old ≡ 0) × (sink_new ≡ 0)
CountsRewriteFailures source_old source_new sink_old sink_new (Err stop.NoRoom) =
    (source_old ≡ 0) × (source_new ≡ 0) × (sink_new ≡ sink_old)
CountsRewriteFailures source_old source_new sink_old sink_new (Err (stop.Held message)) =
    (source_new ≡ source_old) × (sink_new ≡ sink_old)
CountsRewriteFailures source_old source_new sink_old sink_new (Err (stop.OtherSchema path)) =
    (source_old ≡ 0) × (source_new ≡ 0) × (sink_new ≡ sink_old)

-- why a stream is not rewritten whose schema may be another than the one that is expected
abbrev pub RefusesOther : Option Schema → Schema → RewriteStop → Type 0
RefusesOther expected s (stop.OtherSchema path) = IsOther expected s path.items
RefusesOther expected s (stop.Write fault) = fault ≡ w.OutOfMemory
RefusesOther expected s why = ⊥

-- the result is not that the schema is another than the one that is expected
abbrev pub IsNoOther : Result ℕ RewriteStop → Type 0
IsNoOther (Err (stop.OtherSchema path)) = ⊥
IsNoOther r = ⊤

-- ---- the batches after the schema

-- the batches that were read after the schema and how reading ended; all of them were sent
pub record CopiesRest (options : RewriteOptions) (old new : Reader) (before after : Writer)
    (answer : Result End Fault) : Type 0 where
  pub x : List ℕ
  pub batches : List BatchRows
  pub bytes : Consumes old.remaining new.remaining x
  pub reads :
      Reads old.limits (Some (in_force_of old)) x new.remaining (map batch batches) answer
  pub counted : (k : ℕ) → old.messages ≡ count_up 0 k → new.messages ≡ count_up 0 (k
      + messages_in reads.run)
  pub within : AreWithin options batches
  pub accepts : AllByRecursion (AcceptsBatch before.limits old.schema) batches
  pub sent : Sent (SendsBatches before.limits old.schema before.kept batches) before.written
      after.written before.failures after.failures

-- the batches that were read after the schema: all but the last were sent, and the last was refused
pub record RefusesLast (options : RewriteOptions) (old new : Reader) (before after : Writer)
    (fault : WriteFault) : Type 0 where
  pub x : List ℕ
  pub batches : List BatchRows
  pub last : BatchRows
  pub bytes : Consumes old.remaining new.remaining x
  pub run : Run old.limits (Some (in_force_of old)) x (map batch (batches ++ last ∷ []))
      (Some (in_force_of new))
  pub within : AreWithin options (batches ++ last ∷ [])
  pub accepts : AllByRecursion (AcceptsBatch before.limits old.schema) batches
  pub between : Option (List ℕ)
  pub failures : ℕ
  pub sent : Sent (SendsBatches before.limits old.schema before.kept batches) before.written
      between before.failures failures
  pub refuses : RefusesBatch before.limits old.schema last fault
  pub unsent : NotSentWhole (SendsBatch before.limits old.schema
      (kept_after old.schema.fields before.kept batches) last) between after.written failures
      after.failures fault

-- with one batch more, these batches, of which these bytes were sent, would exceed a total; of
-- bytes, `room` may be written after the schema
abbrev pub ExceedsRest : RewriteOptions → Option ℕ → Total → Writer → Schema → List BatchRows
    → BatchRows → List ℕ → Type 0
ExceedsRest options room Bytes before s batches last x = (y : List ℕ)
    × SendsBatch before.limits s (kept_after s.fields before.kept batches) last y
    × (IsWithin room (length x + length y) → ⊥)
ExceedsRest options room total before s batches last x =
    AreAbove options total (batches ++ last ∷ [])

-- the batches that were read after the schema: all but the last were sent, and with the last they
-- would exceed a total
pub record StopsAtLast (options : RewriteOptions) (room : Option ℕ) (old new : Reader)
    (before after : Writer) (total : Total) (number : ℕ) : Type 0 where
  pub x : List ℕ
  pub batches : List BatchRows
  pub last : BatchRows
  pub bytes : Consumes old.remaining new.remaining x
  pub run : Run old.limits (Some (in_force_of old)) x (map batch (batches ++ last ∷ []))
      (Some (in_force_of new))
  pub counted : number ≡ count_up 0 (length batches)
  pub within : AreWithin options batches
  pub accepts : AllByRecursion (AcceptsBatch before.limits old.schema) batches
  pub sent : Sent (SendsBatches before.limits old.schema before.kept batches) before.written
      after.written before.failures after.failures
  pub above : ExceedsRest options room total before old.schema batches last sent.x

-- what a result states about the batches after the schema
abbrev pub CopiesBatches : RewriteOptions → Option ℕ → Reader → Reader → Writer → Writer
    → Result ℕ RewriteStop → Type 0
CopiesBatches options room old new before after (Ok messages) =
    (end : End) × CopiesRest options old new before after (Ok end)
    × (IsTrue options.require_mark → end ≡ Mark) × (messages ≡ new.messages)
CopiesBatches options room old new before after (Err (stop.Read fault message)) =
    (answer : Result End Fault) × CopiesRest options old new before after answer
    × (as_required options.require_mark answer ≡ Err fault) × (message ≡ new.messages)
CopiesBatches options room old new before after (Err (stop.Write fault)) =
    RefusesLast options old new before after fault
CopiesBatches options room old new before after (Err (stop.Above total number)) =
    StopsAtLast options room old new before after total number
CopiesBatches options room old new before after (Err stop.NoRoom) = ⊥
CopiesBatches options room old new before after (Err (stop.OtherSchema path)) = ⊥
CopiesBatches options room old new before after (Err (stop.Held message)) =
    (answer : Result End Fault) × CopiesRest options old new before after answer
    × (as_required options.require_mark answer ≡ Err Read) × (message ≡ new.messages)
