-- Which batches are reported when a stream is printed.
use Rattle.std.specs.Prelude.{◌≡◌, ℕ, List, Option, Result, Ok, Err}
use Rattle.ipc_model.specs.declared.fault.Fault.TheVariants.{Read}
use Rattle.ipc_model.specs.declared.limits.Limits.{Limits}
use Rattle.ipc_device.specs.Reports.{Report}
use Rattle.ipc_stream_read.specs.Progress.{ReportsAll, ReportsBefore, ReportsSome}
use Rattle.job_print.specs.declared.line_buffer.PrintFault.{PrintFault}
use Rattle.job_print.specs.declared.stop.Outcome.{Outcome}
use Rattle.job_print.specs.declared.stop.Outcome.TheVariants as o
use Rattle.job_print.specs.declared.stop.PrintStop.{PrintStop}
use Rattle.job_print.specs.declared.stop.PrintStop.TheVariants as stop

-- what a result states about the reports: at Ok, and where reading broke off, each batch that was
-- read was reported, in order. Where a row has no text or writing failed, the last one that was
-- read may have no report. At another schema than the one that is expected none was read
abbrev pub ReportsPrintedBatches : Limits → Option (List ℕ) → Option (List ℕ) → Option (List Report)
    → Option (List Report) → Result (Option ℕ) PrintStop → Type 0
ReportsPrintedBatches limits old new reports_old reports_new (Ok messages) =
    ReportsAll limits old new reports_old reports_new
ReportsPrintedBatches limits old new reports_old reports_new (Err (stop.Read fault message)) =
    ReportsBefore limits old new reports_old reports_new fault
ReportsPrintedBatches limits old new reports_old reports_new (Err (stop.Write fault)) =
    ReportsSome limits old new reports_old reports_new
ReportsPrintedBatches limits old new reports_old reports_new (Err (stop.Text fault)) =
    ReportsSome limits old new reports_old reports_new
ReportsPrintedBatches limits old new reports_old reports_new (Err (stop.Held message)) =
    ReportsBefore limits old new reports_old reports_new Read
ReportsPrintedBatches limits old new reports_old reports_new (Err (stop.OtherSchema path)) =
    reports_new ≡ reports_old

-- what the outcome of printing rows states about the reports, as `ReportsPrintedBatches`
abbrev pub ReportsOutcome : Limits → Option (List ℕ) → Option (List ℕ) → Option (List Report)
    → Option (List Report) → Result Outcome PrintFault → Type 0
ReportsOutcome limits old new reports_old reports_new (Ok (o.Refused fault)) =
    ReportsSome limits old new reports_old reports_new
ReportsOutcome limits old new reports_old reports_new (Ok (o.Broken fault)) =
    ReportsBefore limits old new reports_old reports_new fault
ReportsOutcome limits old new reports_old reports_new (Ok (o.Whole end tally)) =
    ReportsAll limits old new reports_old reports_new
ReportsOutcome limits old new reports_old reports_new (Ok o.Limited) =
    ReportsAll limits old new reports_old reports_new
ReportsOutcome limits old new reports_old reports_new (Ok o.Held) =
    ReportsBefore limits old new reports_old reports_new Read
ReportsOutcome limits old new reports_old reports_new (Err fault) =
    ReportsSome limits old new reports_old reports_new
