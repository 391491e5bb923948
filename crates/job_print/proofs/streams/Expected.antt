-- A stream whose schema is another than the one that is expected.
use Rattle.std.proofs.Common.{◌≡◌, refl, sym, subst, ℕ, List, [], inr, Option, Err, arith}
use Rattle.std.proofs.KnownBytes.{Keeps-refl}
use Rattle.std.specs.Prelude.{◌≢◌}
use Rattle.std.specs.Io.KnownBytes.{Consumes}
use Rattle.ipc_model.specs.declared.fault.WriteFault.{WriteFault}
use Rattle.ipc_model.specs.Numbering.{write_fault_status}
use Rattle.ipc_model.specs.declared.limits.Limits.{Limits}
use Rattle.ipc_model.specs.declared.schema.Schema.{Schema}
use Rattle.ipc_device.specs.Reports.{Report}
use Rattle.ipc_stream_read.specs.declared.read_stop.ReadStop.{ReadStop}
use Rattle.ipc_stream_read.specs.declared.read_stop.ReadStop.TheVariants as read
use Rattle.ipc_stream_read.specs.Held.{HeldInAll, HeldSoFar, fault_of}
use Rattle.ipc_stream_read.specs.Reader.{Opens, Reader}
use Rattle.ipc_stream_read.specs.Reasons.{IsOutside}
use Rattle.ipc_stream_read.proofs.Readers.{still_held}
use Rattle.job_print.specs.declared.form.PrintOptions.{PrintOptions}
use Rattle.job_print.specs.declared.line_buffer.PrintFault.TheVariants as p
use Rattle.job_print.specs.declared.stop.PrintStop.{PrintStop}
use Rattle.job_print.specs.declared.stop.PrintStop.TheVariants as stop
use Rattle.job_print.specs.Forms.{front_text}
use Rattle.job_print.specs.Output.{Output, output}
use Rattle.job_print.specs.Reporting.{ReportsPrintedBatches}
use Rattle.job_print.specs.Streams.{AnswersExpected, AnswersSchema, CountsPrintFailures, IsHeld, PrintsSchema, PrintsStream}
use Rattle.job_print.specs.Streams.{RefusesOther, schema_line, stop_of_reading}
use Rattle.job_print.proofs.FrontPuts.{part_none}
use Rattle.job_print.proofs.Puts.{puts_never}
use Rattle.job_print.proofs.streams.Reporting.{none_reported}
use Rattle.job_print.proofs.streams.Streams.{schema_cut, schema_opened}

-- where no schema was read, none is as expected, and nothing was printed
pub unopened_expected : (T : Type 0) (expected : Option Schema) (s : Schema) (out : Option (List ℕ)) (why : ReadStop)
    → IsOutside (fault_of why) → AnswersExpected {T = T} expected s out out (Err (stop_of_reading why 0))
unopened_expected T expected s out (read.Refused fault) outside = inr (outside, Keeps-refl out)
unopened_expected T expected s out read.Held outside = inr (Keeps-refl out)

module _ (expected : Option Schema) where
  pub other_prints : (options : PrintOptions) (s : Reader) (before : Output) → before.kept ≡ [] → (why : PrintStop)
      → RefusesOther expected s.schema why → PrintsStream options s s before before (Err why)
  other_prints options s before empty (stop.OtherSchema path) h = (refl, refl)
  other_prints options s before empty (stop.Write fault) h =
      (p.OutOfMemory, h, part_none options (front_text options.form s.schema) s before empty)
  other_prints options s before empty (stop.Read fault n) h = absurd h
  other_prints options s before empty (stop.Text fault) h = absurd h
  other_prints options s before empty (stop.Held n) h = absurd h

  pub other_answers : (T : Type 0) (s : Schema) (out : Option (List ℕ)) (why : PrintStop) → RefusesOther expected s why
      → AnswersExpected {T = T} expected s out out (Err why)
  other_answers T s out (stop.OtherSchema path) h = h
  other_answers T s out (stop.Write fault) h = inr (h, Keeps-refl out)
  other_answers T s out (stop.Read fault n) h = absurd h
  other_answers T s out (stop.Text fault) h = absurd h
  other_answers T s out (stop.Held n) h = absurd h

  pub other_counts : (T : Type 0) (s : Schema) (g f : ℕ) → g ≡ 0 → (why : PrintStop) → RefusesOther expected s why
      → CountsPrintFailures {T = T} g g f f (Err why)
  other_counts T s g f none (stop.OtherSchema path) h = (none, none, refl)
  other_counts T s g f none (stop.Write fault) h =
      (none, λ other. none, record { failed = λ is. absurd (cc); stayed = λ other. refl })
  other_counts T s g f none (stop.Read fault n) h = absurd h
  other_counts T s g f none (stop.Text fault) h = absurd h
  other_counts T s g f none (stop.Held n) h = absurd h

  pub other_reports : {limits : Limits} → (s : Schema) (start : Option (List ℕ)) (r : Reader) (a : Option (List Report))
      → Opens limits start r → (why : PrintStop) → RefusesOther expected s why
      → ReportsPrintedBatches limits start r.remaining a a (Err why)
  other_reports s start r a o (stop.OtherSchema path) h = refl
  other_reports s start r a o (stop.Write fault) h = none_reported start r a o
  other_reports s start r a o (stop.Read fault n) h = absurd h
  other_reports s start r a o (stop.Text fault) h = absurd h
  other_reports s start r a o (stop.Held n) h = absurd h

  pub other_held : {limits : Limits} → (T : Type 0) (s : Schema) (most : Option ℕ) (start : Option (List ℕ)) (r : Reader)
      → HeldSoFar limits most start r → (why : PrintStop) → RefusesOther expected s why
      → HeldInAll limits most start r.remaining (IsHeld {T = T} (Err why))
  other_held T s most start r held (stop.OtherSchema path) h = still_held most start r _ (λ bad. absurd bad) held
  other_held T s most start r held (stop.Write fault) h = still_held most start r _ (λ bad. absurd bad) held
  other_held T s most start r held (stop.Read fault n) h = absurd h
  other_held T s most start r held (stop.Text fault) h = absurd h
  other_held T s most start r held (stop.Held n) h = absurd h

  -- where the schema alone is printed
  pub other_schema : {limits : Limits} → (old new : Option (List ℕ)) (s : Reader) (out : Option (List ℕ)) (n : ℕ) → Opens limits old s
      → new ≡ s.remaining → (why : PrintStop) → RefusesOther expected s.schema why → PrintsSchema limits old new out out (Err why)
  other_schema old new s out n o is (stop.OtherSchema path) h = record {
    x = o.x;
    schema = s.schema;
    bytes = subst (λ (z : Option (List ℕ)). Consumes old z o.x) (sym is) o.bytes;
    opens = schema_opened old s o;
    silent = Keeps-refl out;
  }
  other_schema {limits} old new s out n o is (stop.Write fault) h =
      subst (λ (f : WriteFault). PrintsSchema limits old new out out (Err (stop.Write f))) (sym h)
      (schema_cut old new s out out n n p.OutOfMemory o is (puts_never (output out n []) (schema_line s.schema)))
  other_schema old new s out n o is (stop.Read fault m) h = absurd h
  other_schema old new s out n o is (stop.Text fault) h = absurd h
  other_schema old new s out n o is (stop.Held m) h = absurd h

  pub other_schema_answers : (most : Option ℕ) (s t : Schema) (w0 w1 : Option (List ℕ)) (why : PrintStop) → RefusesOther expected s why
      → AnswersSchema most t w0 w1 (Err why)
  other_schema_answers most s t w0 w1 (stop.OtherSchema path) h = tt
  other_schema_answers most s t w0 w1 (stop.Write fault) h =
      subst (λ (f : WriteFault). write_fault_status f ≢ 1) (sym h) (λ is. absurd (omega (arith, is)))
  other_schema_answers most s t w0 w1 (stop.Read fault n) h = absurd h
  other_schema_answers most s t w0 w1 (stop.Text fault) h = absurd h
  other_schema_answers most s t w0 w1 (stop.Held n) h = absurd h
