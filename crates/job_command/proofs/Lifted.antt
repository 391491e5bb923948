-- The answers of the calls that do a job, as the job's.
use Rattle.std.proofs.Common.{◌≡◌, ℕ, List, Option, inr, Result, Ok, Err}
use Rattle.std.specs.Prelude.{IfErr, OnOk, ⊤}
use Rattle.ipc_model.specs.declared.schema.Schema.{Schema}
use Rattle.ipc_text_csv.specs.declared.dialect.Dialect.{Dialect}
use Rattle.job_from_csv.specs.Conversion.{Converts, StopsFor}
use Rattle.job_from_csv.specs.Stops.{CountsSinkFailure, CountsSourceFailure}
use Rattle.job_from_csv.specs.declared.batch_size.BatchSize.{BatchSize}
use Rattle.job_from_csv.specs.declared.stop.FromCsvStop.{FromCsvStop as CsvStop}
use Rattle.job_command.specs.declared.stop.Stop.{Stop}
use Rattle.job_command.specs.Jobs.{AnswersCsv, IsSchemaOf, job_result, no_messages, stop_of_csv}

-- what becomes of records of CSV by a schema is what becomes of the job
pub csv_answers : (d : Dialect) (bytes input old new : Option (List ℕ)) (s : Schema) (failures : ℕ) (size : BatchSize)
    (failures_old failures_new source_old source_new : ℕ) (p : Result ⊤ CsvStop) (r : Result (Option ℕ) Stop)
    → IsSchemaOf bytes s → failures ≡ 0
    → r ≡ job_result no_messages (stop_of_csv s) p
    → OnOk p (Converts d input s size old new failures_old failures_new)
    → IfErr p (StopsFor d input s size old new failures_old failures_new) → CountsSourceFailure source_old source_new p
    → CountsSinkFailure failures_old failures_new p
    → AnswersCsv d bytes failures size input old new source_old source_new failures_old failures_new r
csv_answers d bytes input old new s failures size sink_old sink_new source_old source_new (Ok x) r is works same converts stops report tells
    =
    inr (s, is, works, Ok x, same, converts, report, tells)
csv_answers d bytes input old new s failures size sink_old sink_new source_old source_new (Err e) r is works same converts stops report
    tells =
    inr (s, is, works, Err e, same, stops, report, tells)
