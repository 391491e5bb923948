-- What is printed of a stream without a schema.
use Rattle.std.proofs.Common.{◌≡◌, refl, ℕ, List, inl, Option, Err}
use Rattle.std.proofs.KnownBytes.{Keeps-refl}
use Rattle.ipc_model.specs.declared.fault.Fault.TheVariants.{Read}
use Rattle.ipc_model.specs.declared.limits.Limits.{Limits}
use Rattle.ipc_model.specs.declared.schema.Schema.{Schema}
use Rattle.ipc_device.specs.Reports.{Report}
use Rattle.ipc_stream_read.specs.declared.read_stop.ReadStop.{ReadStop}
use Rattle.ipc_stream_read.specs.declared.read_stop.ReadStop.TheVariants as read
use Rattle.ipc_stream_read.specs.Held.{CountsStop, HeldInAll, fault_of}
use Rattle.ipc_stream_read.specs.Reader.{OpenFails}
use Rattle.ipc_stream_read.specs.Reasons.{IsOutside}
use Rattle.ipc_stream_read.proofs.Readers.{all_held, has_maximum}
use Rattle.ipc_stream_read.proofs.Reporting.{unopened_to}
use Rattle.job_print.specs.declared.form.PrintOptions.{PrintOptions}
use Rattle.job_print.specs.Reporting.{ReportsPrintedBatches}
use Rattle.job_print.specs.Streams.{AnswersSchema, CountsPrintFailures, IsHeld, Prints, PrintsSchema, stop_of_reading}
use Rattle.job_print.proofs.streams.Held.{TellsRead}
use Rattle.job_print.proofs.streams.Streams.{prints_none}

module _ {limits : Limits} (old new : Option (List ℕ)) where
  pub unopened_prints : (options : PrintOptions) (w : Option (List ℕ)) (why : ReadStop) → OpenFails limits old new (fault_of why)
      → Prints options limits old new w w (Err (stop_of_reading why 0))
  unopened_prints options w (read.Refused fault) o = prints_none options old new w fault o
  unopened_prints options w read.Held o = prints_none options old new w Read o

  pub unopened_schema : (w : Option (List ℕ)) (why : ReadStop) → OpenFails limits old new (fault_of why)
      → PrintsSchema limits old new w w (Err (stop_of_reading why 0))
  unopened_schema w (read.Refused fault) o = (o.x, o.bytes, o.reads, refl, Keeps-refl w)
  unopened_schema w read.Held o = (o.x, o.bytes, o.reads, refl, Keeps-refl w)

  pub unopened_reports : (reports : Option (List Report)) (why : ReadStop) → OpenFails limits old new (fault_of why)
      → ReportsPrintedBatches limits old new reports reports (Err (stop_of_reading why 0))
  unopened_reports reports (read.Refused fault) o = inl (unopened_to _ _ fault _ o)
  unopened_reports reports read.Held o = inl (unopened_to _ _ Read _ o)

  pub unopened_held : (T : Type 0) (most : Option ℕ) (why : ReadStop) → HeldInAll limits most old new (why ≡ read.Held)
      → HeldInAll limits most old new (IsHeld {T = T} (Err (stop_of_reading why 0)))
  unopened_held T most (read.Refused fault) h = all_held most old new (λ bad. absurd bad) h
  unopened_held T most read.Held h = all_held most old new (λ held. refl) h

  -- how reading went
  pub unopened_tells : (options : PrintOptions) (g0 g1 : ℕ) (why : ReadStop) → CountsStop g0 g1 why
      → HeldInAll limits options.max_held old new (why ≡ read.Held) → TellsRead options g0 g1 (Err (stop_of_reading why 0))
  unopened_tells options g0 g1 (read.Refused fault) counts h = counts
  unopened_tells options g0 g1 read.Held counts h = has_maximum options.max_held old new _ h refl

  pub unopened_answers : (most : Option ℕ) (w0 w1 : Option (List ℕ)) (why : ReadStop) → IsOutside (fault_of why)
      → HeldInAll limits most old new (why ≡ read.Held)
      → (s : Schema) → AnswersSchema most s w0 w1 (Err (stop_of_reading why 0))
  unopened_answers most w0 w1 (read.Refused fault) outside h s = outside
  unopened_answers most w0 w1 read.Held outside h s = has_maximum most old new _ h refl

pub unopened_counts : (T : Type 0) (g0 g1 f : ℕ) (why : ReadStop) → CountsStop g0 g1 why
    → CountsPrintFailures {T = T} g0 g1 f f (Err (stop_of_reading why 0))
unopened_counts T g0 g1 f (read.Refused fault) counts = (counts, refl)
unopened_counts T g0 g1 f read.Held counts = (counts, refl)
