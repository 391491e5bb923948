-- Why a conversion stops, and whether its source failed.
use Rattle.std.specs.Prelude.{◌≡◌, ◌≢◌, ℕ, Result, Ok, Err, ⊤}
use Rattle.csv.specs.Records.{Row}
use Rattle.ipc_model.specs.declared.fault.WriteFault.TheVariants as w
use Rattle.ipc_text_temporal.specs.declared.fault.TextFault.TheVariants.{OutOfMemory}
use Rattle.ipc_text_csv.specs.declared.record_fault.RecordFault.{RecordFault}
use Rattle.ipc_text_csv.specs.declared.record_fault.RecordFault.TheVariants as none
use Rattle.job_from_csv.specs.declared.stop.FromCsvStop.{FromCsvStop}
use Rattle.job_from_csv.specs.declared.stop.FromCsvStop.TheVariants as stop

-- why a conversion stops if this record is read as no row, for this reason
abbrev pub stop_of : RecordFault → Row → FromCsvStop
stop_of none.Input refused = stop.Input
stop_of (none.Text OutOfMemory) refused = stop.Text OutOfMemory
stop_of (none.Text fault) refused = stop.Record fault refused

-- the source's count of failures after a step of a conversion that called it: it failed exactly if
-- the step stopped for `Input`
abbrev pub CountsInputFailure : {T : Type 0} → ℕ → Result T FromCsvStop → Type 0
CountsInputFailure failures (Ok x) = failures ≡ 0
CountsInputFailure failures (Err stop.Input) = failures ≡ 1
CountsInputFailure failures (Err (stop.Text fault)) = failures ≡ 0
CountsInputFailure failures (Err (stop.Record fault refused)) = failures ≡ 0
CountsInputFailure failures (Err (stop.Write fault)) = failures ≡ 0

-- the source's count of failures before and after a conversion with this result: at `Input` it is
-- 1, and any other answer leaves a source that works as one
pub record CountsSourceFailure (old new : ℕ) (r : Result ⊤ FromCsvStop) : Type 0 where
  pub failed : r ≡ Err stop.Input → new ≡ 1
  pub works : r ≢ Err stop.Input → old ≡ 0 → new ≡ 0

-- the sink's count of failures before and after a conversion with this result: at W9 it is 1, and
-- any other answer leaves a sink that works as one
pub record CountsSinkFailure (old new : ℕ) (r : Result ⊤ FromCsvStop) : Type 0 where
  pub failed : r ≡ Err (stop.Write w.Write) → new ≡ 1
  pub works : r ≢ Err (stop.Write w.Write) → old ≡ 0 → new ≡ 0
