-- Which batches are reported when a stream is rewritten.
use Rattle.std.specs.Prelude.{◌≡◌, ℕ, List, Option, Result, Ok, Err}
use Rattle.ipc_model.specs.declared.fault.Fault.TheVariants.{Read}
use Rattle.ipc_model.specs.declared.limits.Limits.{Limits}
use Rattle.ipc_device.specs.Reports.{Report}
use Rattle.ipc_stream_read.specs.Progress.{ReportsAll, ReportsBefore, ReportsSome}
use Rattle.job_rewrite.specs.declared.stop.RewriteStop.{RewriteStop}
use Rattle.job_rewrite.specs.declared.stop.RewriteStop.TheVariants as stop

-- what a result states about the reports: at Ok, and where reading broke off, each batch that was
-- read was reported, in order. Where writing failed or a total stopped it, the last one that was
-- read may have no report. At another schema than the one that is expected none was read
abbrev pub ReportsSentBatches : Limits → Option (List ℕ) → Option (List ℕ) → Option (List Report)
    → Option (List Report) → Result ℕ RewriteStop → Type 0
ReportsSentBatches limits old new reports_old reports_new (Ok done) =
    ReportsAll limits old new reports_old reports_new
ReportsSentBatches limits old new reports_old reports_new (Err (stop.Read fault message)) =
    ReportsBefore limits old new reports_old reports_new fault
ReportsSentBatches limits old new reports_old reports_new (Err (stop.Write fault)) =
    ReportsSome limits old new reports_old reports_new
ReportsSentBatches limits old new reports_old reports_new (Err (stop.Above total number)) =
    ReportsSome limits old new reports_old reports_new
ReportsSentBatches limits old new reports_old reports_new (Err stop.NoRoom) =
    ReportsSome limits old new reports_old reports_new
ReportsSentBatches limits old new reports_old reports_new (Err (stop.Held message)) =
    ReportsBefore limits old new reports_old reports_new Read
ReportsSentBatches limits old new reports_old reports_new (Err (stop.OtherSchema path)) =
    reports_new ≡ reports_old
