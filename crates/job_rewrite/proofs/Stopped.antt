-- What a stop of reading states.
use Rattle.std.proofs.Common.{◌≡◌, refl, ℕ, List, inl, Option, Err}
use Rattle.ipc_model.specs.declared.fault.Fault.TheVariants.{Read}
use Rattle.ipc_model.specs.declared.limits.Limits.{Limits}
use Rattle.ipc_device.specs.Reports.{Report}
use Rattle.ipc_stream_read.specs.declared.read_stop.ReadStop.{ReadStop}
use Rattle.ipc_stream_read.specs.declared.read_stop.ReadStop.TheVariants as read_stop
use Rattle.ipc_stream_read.specs.Held.{CountsStop, HeldInAll, fault_of}
use Rattle.ipc_stream_read.specs.Progress.{ReportsTo}
use Rattle.ipc_stream_read.specs.Reader.{OpenFails}
use Rattle.ipc_stream_read.proofs.Readers.{all_held}
use Rattle.job_rewrite.specs.declared.options.RewriteOptions.{RewriteOptions}
use Rattle.job_rewrite.specs.Reporting.{ReportsSentBatches}
use Rattle.job_rewrite.specs.Rewriting.{CountsRewriteFailures, IsHeld, Rewrites, stop_of_reading}
use Rattle.job_rewrite.proofs.Whole.{none_read}

pub stopped_counts : (g0 g1 f0 f1 : ℕ) (why : ReadStop) (n : ℕ) → CountsStop g0 g1 why → f1 ≡ f0
    → CountsRewriteFailures g0 g1 f0 f1 (Err (stop_of_reading why n))
stopped_counts g0 g1 f0 f1 (read_stop.Refused fault) n counts same = (counts, same)
stopped_counts g0 g1 f0 f1 read_stop.Held n counts same = (counts, same)

pub stopped_reports : {limits : Limits} → (old new : Option (List ℕ)) (a b : Option (List Report)) (why : ReadStop) (n : ℕ)
    → ReportsTo limits old new a b (Err (fault_of why)) → ReportsSentBatches limits old new a b (Err (stop_of_reading why n))
stopped_reports old new a b (read_stop.Refused fault) n report = inl report
stopped_reports old new a b read_stop.Held n report = inl report

pub stopped_held : {limits : Limits} → (most : Option ℕ) (old new : Option (List ℕ)) (why : ReadStop) (n : ℕ) {stops : Type 0}
    → (why ≡ read_stop.Held → stops) → HeldInAll limits most old new stops
    → HeldInAll limits most old new (IsHeld (Err (stop_of_reading why n)))
stopped_held most old new (read_stop.Refused fault) n means h = all_held most old new (λ bad. absurd bad) h
stopped_held most old new read_stop.Held n means h = all_held most old new (λ held. means refl) h

-- a stop of reading that is one of the job
pub held_why : (why : ReadStop) (n : ℕ) → IsHeld (Err (stop_of_reading why n)) → why ≡ read_stop.Held
held_why (read_stop.Refused fault) n bad = absurd bad
held_why read_stop.Held n held = refl

-- no schema was read
pub stopped_unopened : {limits : Limits} → (options : RewriteOptions) (old new w : Option (List ℕ)) (f : ℕ) (why : ReadStop)
    → OpenFails limits old new (fault_of why) → Rewrites options limits old new w w f f (Err (stop_of_reading why 0))
stopped_unopened options old new w f (read_stop.Refused fault) o = none_read options old new w f fault o
stopped_unopened options old new w f read_stop.Held o = none_read options old new w f Read o
