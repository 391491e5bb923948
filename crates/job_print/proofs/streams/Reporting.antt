-- The reports of the batches that were printed.
use Rattle.std.proofs.Common.{ℕ, List, Option, Ok}
use Rattle.ipc_model.specs.declared.fault.Fault.TheVariants.{Read}
use Rattle.ipc_model.specs.declared.limits.Limits.{Limits}
use Rattle.ipc_device.specs.Reports.{Report}
use Rattle.ipc_stream_read.specs.Progress.{ReportsSome}
use Rattle.ipc_stream_read.specs.Reader.{Opens, Reader}
use Rattle.ipc_stream_read.proofs.Reporting.{opened_some, some_of_all, some_of_before}
use Rattle.job_print.specs.declared.stop.Outcome.{Outcome}
use Rattle.job_print.specs.declared.stop.Outcome.TheVariants.{Whole, Limited, Broken, Held, Refused}
use Rattle.job_print.specs.Reporting.{ReportsOutcome}

-- where no batch was read, none is reported
pub none_reported : {limits : Limits} → (start : Option (List ℕ)) (r : Reader) (a : Option (List Report)) → Opens limits start r
    → ReportsSome limits start r.remaining a a
none_reported start r a o = opened_some start r a o

-- whatever the outcome, at most the last batch that was read has no report
pub outcome_some : {limits : Limits} → (old new : Option (List ℕ)) (a b : Option (List Report)) (outcome : Outcome)
    → ReportsOutcome limits old new a b (Ok outcome) → ReportsSome limits old new a b
outcome_some old new a b (Whole e tally) all = some_of_all old new a b all
outcome_some old new a b Limited all = some_of_all old new a b all
outcome_some old new a b (Broken f) all = some_of_before old new a b f all
outcome_some old new a b (Refused f) some = some
outcome_some old new a b Held all = some_of_before old new a b Read all
