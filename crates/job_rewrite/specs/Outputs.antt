-- What the batches of a rewritten stream are written to, and how many bytes of them.
use Rattle.std.specs.Prelude.{◌≡◌, ◌+◌, ◌≤◌, ℕ, List, [], ◌∷◌, length, Option, Some, None, ⊤}
use Rattle.std.specs.Prelude.{false, Result, Ok, Err}
use Rattle.std.specs.Io.KnownBytes.{Appends}
use Rattle.ipc_model.specs.declared.fault.WriteFault.{WriteFault}
use Rattle.ipc_model.specs.declared.fault.WriteFault.TheVariants as w
use Rattle.ipc_model.specs.declared.limits.Limits.{Limits}
use Rattle.ipc_model.specs.declared.schema.Schema.{Schema}
use Rattle.ipc_model.specs.declared.table.BatchRows.{BatchRows}
use Rattle.ipc_stream.specs.Dictionaries.{SendsBatch, kept_after}
use Rattle.ipc_stream.specs.Writer.{StartFails, StartsWriter, Writer}
use Rattle.ipc_stream.specs.Writing.{AcceptsBatch, NotSentWhole, RefusesBatch, Sent}
use Rattle.job_rewrite.specs.Rewriting.{StopsAtSchema}
use Rattle.job_rewrite.specs.Totals.{IsWithin}
use Rattle.job_rewrite.specs.declared.output.Written.{Written}
use Rattle.job_rewrite.specs.declared.output.Written.TheVariants as written
use Rattle.job_rewrite.specs.declared.stop.RewriteStop.{RewriteStop}
use Rattle.job_rewrite.specs.declared.stop.RewriteStop.TheVariants as stop

-- at most this number of bytes was appended, if there is a maximum
abbrev pub AppendsWithin : Option ℕ → Option (List ℕ) → Option (List ℕ) → Type 0
AppendsWithin None old new = ⊤
AppendsWithin (Some most) old new = (x : List ℕ) × Appends old new x × (length x ≤ most)

-- `count` of the bytes that may be written were written, if there is a maximum
abbrev pub Takes : Option ℕ → Option ℕ → ℕ → Type 0
Takes None None count = ⊤
Takes None (Some new) count = ⊥
Takes (Some old) None count = ⊥
Takes (Some old) (Some new) count = old ≡ count + new

-- the message of the schema was sent. It and the end mark are counted in `most` bytes, of which
-- `room` are left
abbrev pub StartsOutput : Option ℕ → Limits → Schema → Option (List ℕ) → ℕ → Writer → Option ℕ
    → Type 0
StartsOutput most limits s old failures_old new room =
    (begun : StartsWriter limits s old failures_old new)
    × Takes most room (length begun.sent.x + 8)

-- why the message of the schema was not sent whole
abbrev pub StartsNot : Limits → ℕ → Schema → Option (List ℕ) → Option (List ℕ) → ℕ → ℕ
    → RewriteStop → Type 0
StartsNot limits most s old new failures_old failures_new (stop.Write fault) =
    StartFails limits s old new failures_old failures_new fault
StartsNot limits most s old new failures_old failures_new stop.NoRoom =
    StopsAtSchema (Some most) limits s old new failures_old failures_new
StartsNot limits most s old new failures_old failures_new why = ⊥

-- all messages of the batch were sent
pub record SendsWhole (old : Writer) (room : Option ℕ) (b : BatchRows) (new : Writer)
    (left : Option ℕ) : Type 0 where
  pub sent : Sent (SendsBatch old.limits old.schema old.kept b) old.written new.written old.failures
      new.failures
  pub takes : Takes room left (length sent.x)
  pub accepts : AcceptsBatch old.limits old.schema b
  pub same_limits : new.limits ≡ old.limits
  pub same_schema : new.schema ≡ old.schema
  pub kept : new.kept ≡ kept_after old.schema.fields old.kept (b ∷ [])
  pub works : new.failed ≡ false

-- the messages of the batch have more bytes than may be written, and none of them was sent
pub record HasNoRoom (old : Writer) (room : Option ℕ) (b : BatchRows) (new : Writer) : Type 0 where
  pub x : List ℕ
  pub whole : SendsBatch old.limits old.schema old.kept b x
  pub above : IsWithin room (length x) → ⊥
  pub same_written : new.written ≡ old.written
  pub same_failures : new.failures ≡ old.failures

-- the batch is refused; at W9 a beginning of its messages was sent, and else nothing
pub record RefusesWrite (old : Writer) (room : Option ℕ) (b : BatchRows) (new : Writer)
    (fault : WriteFault) : Type 0 where
  pub refuses : RefusesBatch old.limits old.schema b fault
  pub unsent : NotSentWhole (SendsBatch old.limits old.schema old.kept b) old.written new.written
      old.failures new.failures fault
  pub within : AppendsWithin room old.written new.written

-- what a result states about a batch that is written
abbrev pub WritesBatch : Writer → Option ℕ → BatchRows → Writer → Option ℕ
    → Result Written WriteFault → Type 0
WritesBatch old room b new left (Ok written.Whole) = SendsWhole old room b new left
WritesBatch old room b new left (Ok written.NoRoom) = HasNoRoom old room b new
WritesBatch old room b new left (Err fault) = RefusesWrite old room b new fault

-- the fault of a writer whose sink is in memory: if that failed, memory ran out
abbrev pub memory_fault : WriteFault → WriteFault
memory_fault w.Write = w.OutOfMemory
memory_fault fault = fault
