-- What the jobs read and send, and the exit statuses.
use Rattle.std.specs.Io.KnownBytes.{Consumes, IsAtEnd, Keeps}
use Rattle.std.specs.Prelude.{◌≡◌, ◌⊎◌, ℕ, List, [], length, Option, Some, Result, Ok, Err, ⊤}
use Rattle.std.specs.Prelude.{Bool, IfSome, IsFalse, IsTrue, None, is_some, option_and_then}
use Rattle.std.specs.Prelude.{◌++◌, string_bytes}
use Rattle.std.specs.Prelude.{true, false}
use Rattle.serde_json.specs.Read.{read}
use Rattle.ipc_device.specs.Reports.{Report}
use Rattle.ipc_model.specs.Limits.{IsStandard}
use Rattle.ipc_model.specs.Numbering.{fault_status, write_fault_status}
use Rattle.ipc_model.specs.WellFormed.{WellFormed}
use Rattle.ipc_model.specs.declared.fault.Fault.TheVariants as f
use Rattle.ipc_model.specs.declared.fault.WriteFault.TheVariants as w
use Rattle.ipc_model.specs.declared.limits.Limits.{Limits}
use Rattle.ipc_model.specs.declared.schema.Schema.{Schema}
use Rattle.ipc_text_json.specs.SchemaJson.{schema_json}
use Rattle.ipc_text_json.specs.SchemaTexts.{StatesNoSchema}
use Rattle.ipc_text_temporal.specs.declared.fault.TextFault.{TextFault}
use Rattle.ipc_text_temporal.specs.declared.fault.TextFault.TheVariants as x
use Rattle.job_print.specs.Reporting.{ReportsPrintedBatches}
use Rattle.ipc_stream_read.specs.Held.{HeldInAll}
use Rattle.ipc_stream_read.specs.Stream.{OpensStream}
use Rattle.job_print.specs.Streams.{Prints, PrintsSchema, CountsPrintFailures as PrintTells}
use Rattle.job_print.specs.Streams.{AnswersExpected, IsHeld as IsHeldInPrint}
use Rattle.ipc_text_csv.specs.RowCsv.{null_text}
use Rattle.ipc_text_csv.specs.declared.dialect.Dialect.{Dialect}
use Rattle.ipc_text_json.specs.declared.row.RowShape.{RowShape}
use Rattle.ipc_text_json.specs.declared.row.RowShape.TheVariants.{Array, Object}
use Rattle.job_print.specs.declared.form.PrintOptions.{PrintOptions}
use Rattle.job_print.specs.declared.form.Form.TheVariants.{Counts, Rows, Records}
use Rattle.job_print.specs.declared.stop.PrintStop.{PrintStop}
use Rattle.job_print.specs.declared.stop.PrintStop.TheVariants as print
use Rattle.job_rewrite.specs.Reporting.{ReportsSentBatches}
use Rattle.job_rewrite.specs.Rewriting.{Rewrites, CountsRewriteFailures as RewriteTells}
use Rattle.job_rewrite.specs.Rewriting.{AnswersExpected as AnswersExpectedInRewrite}
use Rattle.job_rewrite.specs.Rewriting.{IsHeld as IsHeldInRewrite}
use Rattle.job_rewrite.specs.declared.options.RewriteOptions.{RewriteOptions}
use Rattle.job_rewrite.specs.declared.stop.RewriteStop.{RewriteStop}
use Rattle.job_rewrite.specs.declared.stop.RewriteStop.TheVariants as rewrite
use Rattle.job_from_csv.specs.Conversion as csv
use Rattle.job_from_csv.specs.Stops.{CountsSinkFailure, CountsSourceFailure}
use Rattle.job_from_csv.specs.declared.batch_size.BatchSize.{BatchSize}
use Rattle.job_from_csv.specs.declared.stop.FromCsvStop.{FromCsvStop as CsvStop}
use Rattle.job_from_csv.specs.declared.stop.FromCsvStop.TheVariants as from_csv
use Rattle.job_arguments.specs.declared.arguments.OutputLimits.{OutputLimits}
use Rattle.job_arguments.specs.declared.csv_dialect.CsvDialect.{CsvDialect}
use Rattle.job_command.specs.declared.stop.Stop.{Stop}
use Rattle.job_command.specs.declared.stop.Stop.TheVariants as stop
use Rattle.job_arguments.specs.declared.arguments.Job.{Job}
use Rattle.job_arguments.specs.declared.arguments.Job.TheVariants as job

-- the exit status of a refusal of texts
abbrev pub text_status : TextFault → ℕ
text_status x.OutOfMemory = write_fault_status w.OutOfMemory
text_status _ = 1

-- the exit status of a job that stopped: memory ran out, a device failed, or what was read is
-- refused
abbrev pub stop_status : Stop → ℕ
stop_status (stop.Read fault message) = fault_status fault
stop_status stop.Input = fault_status f.Read
stop_status stop.Schema = fault_status f.Read
stop_status (stop.Write fault) = write_fault_status fault
stop_status (stop.Above total number) = 1
stop_status stop.NoRoom = 1
stop_status (stop.Held message) = 1
stop_status (stop.OtherSchema path) = 1
stop_status (stop.Rows fault s) = write_fault_status fault
stop_status (stop.Text fault) = text_status fault
stop_status (stop.SchemaText text) = 1
stop_status (stop.Record fault refused s) = 1

-- the exit status of a job
abbrev pub exit_status : {T : Type 0} → Result T Stop → ℕ
exit_status (Ok done) = 0
exit_status (Err why) = stop_status why

-- the reason why printing stopped, as the job's
abbrev pub stop_of_print : PrintStop → Stop
stop_of_print (print.Read fault message) = stop.Read fault message
stop_of_print (print.Write fault) = stop.Write fault
stop_of_print (print.Text fault) = stop.Text fault
stop_of_print (print.Held message) = stop.Held message
stop_of_print (print.OtherSchema path) = stop.OtherSchema path

-- the reason why rewriting a stream stopped, as the job's
abbrev pub stop_of_rewrite : RewriteStop → Stop
stop_of_rewrite (rewrite.Read fault message) = stop.Read fault message
stop_of_rewrite (rewrite.Write fault) = stop.Write fault
stop_of_rewrite (rewrite.Above total number) = stop.Above total number
stop_of_rewrite rewrite.NoRoom = stop.NoRoom
stop_of_rewrite (rewrite.Held message) = stop.Held message
stop_of_rewrite (rewrite.OtherSchema path) = stop.OtherSchema path

-- the reason why a conversion from CSV by a schema stopped, as the job's
abbrev pub stop_of_csv : Schema → CsvStop → Stop
stop_of_csv s from_csv.Input = stop.Input
stop_of_csv s (from_csv.Write fault) = stop.Rows fault s
stop_of_csv s (from_csv.Text fault) = stop.Text fault
stop_of_csv s (from_csv.Record fault refused) = stop.Record fault refused s

-- a result as the job's: how many messages a stream has that was read to its end, or why it stopped
abbrev pub job_result : {A B : Type 0} → (A → Option ℕ) → (B → Stop) → Result A B
    → Result (Option ℕ) Stop
job_result messages_of stop_of (Ok done) = Ok (messages_of done)
job_result messages_of stop_of (Err why) = Err (stop_of why)

-- the job reads no stream to its end
abbrev pub no_messages : ⊤ → Option ℕ
no_messages done = None

-- the dialect of CSV with this delimiter and text of null
abbrev pub IsDialectOf : CsvDialect → Dialect → Type 0
IsDialectOf c d = (d.delimiter ≡ c.delimiter) × (null_text d ≡ string_bytes c.null)

-- the shape of rows: objects or arrays
abbrev pub row_shape : Bool → RowShape
row_shape true = Object
row_shape false = Array

-- how a stream is rewritten with these limits of what is written, whether the mark is required, and
-- the maximum of held bytes
abbrev pub rewrite_options : OutputLimits → Bool → Option ℕ → RewriteOptions
rewrite_options output mark most = record {
  require_mark = mark;
  max_body = output.body;
  max_batches = output.batches;
  max_rows = output.rows;
  max_bytes = output.bytes;
  max_held = most;
}

-- if the source begins with the message of a schema, and one is expected: what `AnswersExpected`
-- states about the result of printing
abbrev pub PrintsExpected : {T : Type 0} → Option Schema → Limits → Option (List ℕ)
    → Option (List ℕ) → Option (List ℕ) → Result T PrintStop → Type 0
PrintsExpected expected limits old written_old written_new p = (x rest : List ℕ) (s : Schema)
    → old ≡ Some (x ++ rest) → OpensStream limits s x
    → AnswersExpected expected s written_old written_new p

-- if the source begins with the message of a schema, and one is expected: what `AnswersExpected`
-- states about the result of rewriting
abbrev pub RewritesExpected : Option Schema → Limits → Option (List ℕ) → Option (List ℕ)
    → Option (List ℕ) → Result ℕ RewriteStop → Type 0
RewritesExpected expected limits old written_old written_new p = (x rest : List ℕ) (s : Schema)
    → old ≡ Some (x ++ rest) → OpensStream limits s x
    → AnswersExpectedInRewrite expected s written_old written_new p

-- what a result states about the schema of a stream that is printed, with this maximum of held
-- bytes and this schema that is expected
abbrev pub AnswersSchemaJob : Option ℕ → Option Schema → Limits → Option (List ℕ)
    → Option (List ℕ) → Option (List ℕ) → Option (List ℕ) → ℕ → ℕ → ℕ → ℕ
    → Result (Option ℕ) Stop → Type 0
AnswersSchemaJob most expected limits old new written_old written_new source_old source_new
    sink_old sink_new r =
    (p : Result ⊤ PrintStop) × (r ≡ job_result no_messages stop_of_print p)
    × PrintsSchema limits old new written_old written_new p
    × PrintTells source_old source_new sink_old sink_new p
    × HeldInAll limits most old new (IsHeldInPrint p)
    × PrintsExpected expected limits old written_old written_new p

-- what a result states about a stream that is printed by these options, with this schema that is
-- expected. When W9 and F36 come, the counts of failures of sink and source are as `print` states
-- them
abbrev pub AnswersPrint : PrintOptions → Option Schema → Limits → Option (List ℕ)
    → Option (List ℕ) → Option (List ℕ) → Option (List ℕ) → ℕ → ℕ → ℕ → ℕ
    → Result (Option ℕ) Stop → Type 0
AnswersPrint options expected limits old new written_old written_new source_old source_new sink_old
    sink_new r =
    (p : Result (Option ℕ) PrintStop) × (r ≡ job_result (λ n. n) stop_of_print p)
    × Prints options limits old new written_old written_new p
    × PrintTells source_old source_new sink_old sink_new p
    × HeldInAll limits options.max_held old new (IsHeldInPrint p)
    × PrintsExpected expected limits old written_old written_new p

-- what a result states about a stream that is rewritten, with this schema that is expected. When W9
-- and F36 come, the counts of failures of sink and source tell, as `rewrite` states it
abbrev pub AnswersRewrite : RewriteOptions → Option Schema → Limits → Option (List ℕ)
    → Option (List ℕ) → Option (List ℕ) → Option (List ℕ) → ℕ → ℕ → ℕ → ℕ
    → Result (Option ℕ) Stop → Type 0
AnswersRewrite options expected limits old new written_old written_new source_old source_new
    sink_old sink_new r =
    (p : Result ℕ RewriteStop) × (r ≡ job_result Some stop_of_rewrite p)
    × Rewrites options limits old new written_old written_new sink_old sink_new p
    × RewriteTells source_old source_new sink_old sink_new p
    × HeldInAll limits options.max_held old new (IsHeldInRewrite p)
    × RewritesExpected expected limits old written_old written_new p

-- the bytes of a file, if it was opened and they are known
abbrev pub file_bytes : {P : Type 0} → (P → Option (List ℕ)) → Option P → Option (List ℕ)
file_bytes remaining file = option_and_then remaining file

-- a schema that is well formed under the standard limits; the JSON text in these bytes, if they are
-- known, reads as this schema (RFC 8259)
pub record IsSchemaOf (bytes : Option (List ℕ)) (s : Schema) : Type 0 where
  pub read : IfSome bytes (λ text. read text ≡ Some (schema_json s))
  pub limits : Limits
  pub standard : IsStandard limits
  pub formed : WellFormed limits s

-- the file after a job: `FromCsv` reads it, and a job that expects a schema of its stream. It comes
-- back if it was opened; for any other job it is as it was
abbrev pub GivesFileBack : {P : Type 0} → Bool → Job → Option P → Option P → Type 0
GivesFileBack true asked old new = is_some new ≡ is_some old
GivesFileBack false (job.FromCsv path size bytes dialect strict) old new = is_some new ≡ is_some old
GivesFileBack false _ old new = new ≡ old

-- how many calls of a file failed; 1 if it was not opened
abbrev pub failures_of : {P : Type 0} → (P → ℕ) → Option P → ℕ
failures_of failures None = 1
failures_of failures (Some file) = failures file

-- why a file is not read to its end: a call of it failed, or memory ran out; `failures` is its
-- count
abbrev pub IsUnreadable : ℕ → Stop → Type 0
IsUnreadable failures why =
    ((why ≡ stop.Schema) × (failures ≡ 1)) ⊎ (why ≡ stop.Text x.OutOfMemory)

-- why there is no schema: the file was not opened or a call of it failed; or no call failed, and
-- its text is no schema's; or memory ran out
abbrev pub HasNoSchema : Option (List ℕ) → ℕ → Stop → Type 0
HasNoSchema bytes failures stop.Schema = failures ≡ 1
HasNoSchema bytes failures (stop.SchemaText text) =
    (failures ≡ 0) × IfSome bytes (λ xs. text.items ≡ xs) × StatesNoSchema text.items
HasNoSchema bytes failures (stop.Text x.OutOfMemory) = ⊤
HasNoSchema bytes failures why = ⊥

-- what a result states about records of CSV. Either there was no schema, and neither the source nor
-- the sink was called; or the records were converted by the file's schema to a stream with batches
-- of this size, or that broke off
abbrev pub AnswersCsv : Dialect → Option (List ℕ) → ℕ → BatchSize → Option (List ℕ)
    → Option (List ℕ) → Option (List ℕ) → ℕ → ℕ → ℕ → ℕ → Result (Option ℕ) Stop → Type 0
AnswersCsv d bytes failures size input written_old written_new source_old source_new sink_old
    sink_new
    r = ((why : Stop) × (r ≡ Err why) × HasNoSchema bytes failures why
    × (written_new ≡ written_old) × (source_new ≡ source_old) × (sink_new ≡ sink_old))
    ⊎ ((s : Schema) × IsSchemaOf bytes s × (failures ≡ 0) × (p : Result ⊤ CsvStop)
    × (r ≡ job_result no_messages (stop_of_csv s) p)
    × csv.AnswersConversion d input s size written_old written_new sink_old sink_new p
    × CountsSourceFailure source_old source_new p × CountsSinkFailure sink_old sink_new p)

-- what a result states about a job: what was read of the input, what was sent, and which device
-- failed. `most` is the maximum of held bytes of a stream, and `expected` the schema that it must
-- have; `bytes` and `failures` are those of the schema's file
abbrev pub Answers : Job → Option ℕ → Option Schema → Option (List ℕ) → ℕ → Option (List ℕ)
    → Option (List ℕ) → Option (List ℕ) → Option (List ℕ) → ℕ → ℕ → ℕ → ℕ
    → Result (Option ℕ) Stop → Type 0
Answers (job.Schema limits) most expected bytes failures old new written_old written_new
    source_old source_new sink_old sink_new r =
    AnswersSchemaJob most expected limits old new written_old written_new source_old source_new
    sink_old sink_new r
Answers (job.Check limits mark) most expected bytes failures old new written_old written_new
    source_old source_new sink_old sink_new r =
    AnswersPrint (record { form = Counts; require_mark = mark; limit = None; max_held = most })
    expected limits old new written_old written_new source_old source_new sink_old sink_new r
Answers (job.Show limits objects pairs count mark) most expected bytes failures old new
    written_old written_new source_old source_new sink_old sink_new r = AnswersPrint (record {
      form = Rows (row_shape objects) pairs;
      require_mark = mark;
      limit = count;
      max_held = most;
    }) expected limits old new written_old written_new source_old source_new sink_old sink_new r
Answers (job.ToCsv limits dialect count mark) most expected bytes failures old new written_old
    written_new source_old source_new sink_old sink_new r = (d : Dialect) × IsDialectOf dialect d
    × AnswersPrint (record {
      form = Records d;
      require_mark = mark;
      limit = count;
      max_held = most;
    }) expected limits old new written_old written_new source_old source_new sink_old sink_new r
Answers (job.Rewrite limits output mark) most expected bytes failures old new written_old
    written_new source_old source_new sink_old sink_new r =
    AnswersRewrite (rewrite_options output mark most) expected limits old new written_old
    written_new source_old source_new sink_old sink_new r
Answers (job.FromCsv path size most_bytes dialect strict) most expected bytes failures old new
    written_old written_new source_old source_new sink_old sink_new r = (d : Dialect)
    × IsDialectOf dialect d × (d.strict ≡ strict)
    × AnswersCsv d bytes failures (record { rows = size; bytes = most_bytes }) old written_old
    written_new source_old source_new sink_old sink_new r

-- which batches of a stream that is printed were reported, as `print` states it
abbrev pub ReportsPrint : Limits → Option (List ℕ) → Option (List ℕ) → Option (List Report)
    → Option (List Report) → Result (Option ℕ) Stop → Type 0
ReportsPrint limits old new reports_old reports_new r =
    (p : Result (Option ℕ) PrintStop) × (r ≡ job_result (λ n. n) stop_of_print p)
    × ReportsPrintedBatches limits old new reports_old reports_new p

-- which batches of a stream that is rewritten were reported, as `rewrite` states it
abbrev pub ReportsRewrite : Limits → Option (List ℕ) → Option (List ℕ) → Option (List Report)
    → Option (List Report) → Result (Option ℕ) Stop → Type 0
ReportsRewrite limits old new reports_old reports_new r =
    (p : Result ℕ RewriteStop) × (r ≡ job_result Some stop_of_rewrite p)
    × ReportsSentBatches limits old new reports_old reports_new p

-- which batches a job reported: those of the stream that it printed or rewrote; any other job
-- reports none
abbrev pub ReportsBatches : Job → Option (List ℕ) → Option (List ℕ) → Option (List Report)
    → Option (List Report) → Result (Option ℕ) Stop → Type 0
ReportsBatches (job.Check limits mark) old new reports_old reports_new r =
    ReportsPrint limits old new reports_old reports_new r
ReportsBatches (job.Show limits objects pairs count mark) old new reports_old reports_new r =
    ReportsPrint limits old new reports_old reports_new r
ReportsBatches (job.ToCsv limits dialect count mark) old new reports_old reports_new r =
    ReportsPrint limits old new reports_old reports_new r
ReportsBatches (job.Rewrite limits output mark) old new reports_old reports_new r =
    ReportsRewrite limits old new reports_old reports_new r
ReportsBatches (job.Schema limits) old new reports_old reports_new r = reports_new ≡ reports_old
ReportsBatches (job.FromCsv path size bytes dialect strict) old new reports_old reports_new r =
    reports_new ≡ reports_old

-- what a result states about a job that may expect a schema of its stream, and which batches it
-- reported. The schema is read from the file first. Either there was none, and no device was called
-- and no batch reported; or it is `expected`, and `rest` is what the file still has
abbrev pub AnswersExpecting : Bool → Job → Option ℕ → Option (List ℕ) → ℕ → Option (List ℕ)
    → Option (List ℕ) → Option (List ℕ) → Option (List ℕ) → ℕ → ℕ → ℕ → ℕ
    → Option (List Report) → Option (List Report) → Result (Option ℕ) Stop → Type 0
AnswersExpecting false asked most bytes failures old new written_old written_new source_old
    source_new sink_old sink_new reports_old reports_new r =
    Answers asked most None bytes failures old new written_old written_new source_old source_new
    sink_old sink_new r × ReportsBatches asked old new reports_old reports_new r
AnswersExpecting true asked most bytes failures old new written_old written_new source_old
    source_new sink_old sink_new reports_old reports_new r =
    ((why : Stop) × (r ≡ Err why) × HasNoSchema bytes failures why × (new ≡ old)
    × (written_new ≡ written_old) × (source_new ≡ source_old) × (sink_new ≡ sink_old)
    × (reports_new ≡ reports_old))
    ⊎ ((expected : Schema) × IsSchemaOf bytes expected × (rest : Option (List ℕ))
    × Answers asked most (Some expected) rest failures old new written_old written_new source_old
    source_new sink_old sink_new r × ReportsBatches asked old new reports_old reports_new r)

-- what is answered after a stream with this number of messages, if nothing may follow it: one byte
-- that follows is taken, and refused as F1 at the number of the next message; or the input fails
abbrev pub MeetsEnd : Option (List ℕ) → Option (List ℕ) → ℕ → ℕ → Result ⊤ Stop → Type 0
MeetsEnd old new failures messages (Ok done) =
    Consumes old new [] × IsAtEnd new × (failures ≡ 0)
MeetsEnd old new failures messages (Err (stop.Read f.NotContinued number)) =
    (number ≡ messages) × (failures ≡ 0)
    × ((x : List ℕ) × Consumes old new x × (length x ≡ 1))
MeetsEnd old new failures messages (Err (stop.Read f.Read number)) =
    (number ≡ messages) × (failures ≡ 1) × Keeps old new
MeetsEnd old new failures messages (Err why) = ⊥

-- how the answer of a job becomes that of the program. If nothing may follow a stream that was read
-- to its end, its input is asked for a byte more
abbrev pub EndsJob : Bool → Option (List ℕ) → Option (List ℕ) → ℕ → ℕ → Result (Option ℕ) Stop
    → Result ⊤ Stop → Type 0
EndsJob required old new failures_old failures_new (Ok (Some messages)) r =
    (IsTrue required → MeetsEnd old new failures_new messages r)
    × (IsFalse required → (r ≡ Ok tt) × (new ≡ old) × (failures_new ≡ failures_old))
EndsJob required old new failures_old failures_new (Ok None) r =
    (r ≡ Ok tt) × (new ≡ old) × (failures_new ≡ failures_old)
EndsJob required old new failures_old failures_new (Err why) r =
    (r ≡ Err why) × (new ≡ old) × (failures_new ≡ failures_old)
