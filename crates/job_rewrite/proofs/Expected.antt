-- A stream whose schema is another than the one that is expected.
use Rattle.std.proofs.Common.{◌≡◌, refl, sym, subst, ℕ, List, inl, inr, Option, Result, Ok, Err}
use Rattle.ipc_model.specs.declared.fault.WriteFault.{WriteFault}
use Rattle.ipc_model.specs.declared.fault.WriteFault.TheVariants as w
use Rattle.ipc_model.specs.declared.limits.Limits.{Limits}
use Rattle.ipc_model.specs.declared.schema.Schema.{Schema}
use Rattle.ipc_device.specs.Reports.{Report}
use Rattle.ipc_stream_read.specs.declared.read_stop.ReadStop.{ReadStop}
use Rattle.ipc_stream_read.specs.declared.read_stop.ReadStop.TheVariants as read_stop
use Rattle.ipc_stream_read.specs.Held.{HeldInAll, HeldSoFar, fault_of}
use Rattle.ipc_stream_read.specs.Reader.{Opens, Reader}
use Rattle.ipc_stream_read.specs.Reasons.{IsOutside}
use Rattle.ipc_stream_read.proofs.Readers.{still_held}
use Rattle.ipc_stream_read.proofs.Reporting.{opened_some}
use Rattle.job_expect.specs.Differences.{IsExpected}
use Rattle.job_rewrite.specs.declared.options.RewriteOptions.{RewriteOptions}
use Rattle.job_rewrite.specs.declared.stop.RewriteStop.{RewriteStop}
use Rattle.job_rewrite.specs.declared.stop.RewriteStop.TheVariants as stop
use Rattle.job_rewrite.specs.Outputs.{StartsNot}
use Rattle.job_rewrite.specs.Reporting.{ReportsSentBatches}
use Rattle.job_rewrite.specs.Rewriting.{AnswersExpected, CountsRewriteFailures, IsHeld, IsNoOther, RefusesOther, Rewrites}
use Rattle.job_rewrite.specs.Rewriting.{stop_of_reading, unstarted}
use Rattle.job_rewrite.proofs.Whole.{opened}

-- where reading stopped, the schema is no other one
pub read_same : (why : ReadStop) (n : ℕ) → IsNoOther (Err (stop_of_reading why n))
read_same (read_stop.Refused fault) n = tt
read_same read_stop.Held n = tt

-- where the message of the schema was not sent whole, it is no other one
pub started_same : (limits : Limits) (most : ℕ) (s : Schema) (w0 w1 : Option (List ℕ)) (f0 f1 : ℕ) (why : RewriteStop)
    → StartsNot limits most s w0 w1 f0 f1 why → IsNoOther (Err why)
started_same limits most s w0 w1 f0 f1 (stop.OtherSchema path) h = h
started_same limits most s w0 w1 f0 f1 (stop.Held message) h = tt
started_same limits most s w0 w1 f0 f1 (stop.Write fault) h = tt
started_same limits most s w0 w1 f0 f1 stop.NoRoom h = tt
started_same limits most s w0 w1 f0 f1 (stop.Read fault message) h = tt
started_same limits most s w0 w1 f0 f1 (stop.Above total number) h = tt

-- where no schema was read, none is as expected, and nothing was sent
pub unopened_expected : (expected : Option Schema) (s : Schema) (out : Option (List ℕ)) (why : ReadStop)
    → IsOutside (fault_of why) → AnswersExpected expected s out out (Err (stop_of_reading why 0))
unopened_expected expected s out (read_stop.Refused fault) outside = inr (outside, refl)
unopened_expected expected s out read_stop.Held outside = inr refl

module _ (expected : Option Schema) where
  -- where the schema is as expected, each other result is one of it
  pub same_answers : (s : Schema) (w0 w1 : Option (List ℕ)) (r : Result ℕ RewriteStop) → IsExpected expected s → IsNoOther r
      → AnswersExpected expected s w0 w1 r
  same_answers s w0 w1 (Ok n) is same = is
  same_answers s w0 w1 (Err (stop.Read fault message)) is same = inl is
  same_answers s w0 w1 (Err (stop.Write fault)) is same = inl is
  same_answers s w0 w1 (Err (stop.Above total number)) is same = is
  same_answers s w0 w1 (Err stop.NoRoom) is same = is
  same_answers s w0 w1 (Err (stop.Held message)) is same = inl is
  same_answers s w0 w1 (Err (stop.OtherSchema path)) is same = absurd same

  pub other_rewrites : {limits : Limits} → (options : RewriteOptions) (start : Option (List ℕ)) (s : Reader) (out : Option (List ℕ)) (f : ℕ)
      → Opens limits start s → (why : RewriteStop) → RefusesOther expected s.schema why
      → Rewrites options limits start s.remaining out out f f (Err why)
  other_rewrites options start s out f o (stop.OtherSchema path) h = record {
    x = o.x;
    schema = s.schema;
    bytes = o.bytes;
    opens = opened start s o;
    same_written = refl;
    same_failures = refl;
  }
  other_rewrites {limits} options start s out f o (stop.Write fault) h =
      subst (λ (e : WriteFault). Rewrites options limits start s.remaining out out f f (Err (stop.Write e))) (sym h)
      (unstarted o.x s.schema o.bytes (opened start s o) tt (refl, refl))
  other_rewrites options start s out f o (stop.Read fault message) h = absurd h
  other_rewrites options start s out f o (stop.Above total number) h = absurd h
  other_rewrites options start s out f o stop.NoRoom h = absurd h
  other_rewrites options start s out f o (stop.Held message) h = absurd h

  pub other_answers : (s : Schema) (out : Option (List ℕ)) (why : RewriteStop) → RefusesOther expected s why
      → AnswersExpected expected s out out (Err why)
  other_answers s out (stop.OtherSchema path) h = h
  other_answers s out (stop.Write fault) h = inr (h, refl)
  other_answers s out (stop.Read fault message) h = absurd h
  other_answers s out (stop.Above total number) h = absurd h
  other_answers s out stop.NoRoom h = absurd h
  other_answers s out (stop.Held message) h = absurd h

  pub other_counts : (s : Schema) (g f : ℕ) → g ≡ 0 → (why : RewriteStop) → RefusesOther expected s why
      → CountsRewriteFailures g g f f (Err why)
  other_counts s g f none (stop.OtherSchema path) h = (none, none, refl)
  other_counts s g f none (stop.Write fault) h =
      (none, none, record { failed = λ is. absurd (cc); stayed = λ other. refl })
  other_counts s g f none (stop.Read fault message) h = absurd h
  other_counts s g f none (stop.Above total number) h = absurd h
  other_counts s g f none stop.NoRoom h = absurd h
  other_counts s g f none (stop.Held message) h = absurd h

  pub other_reports : {limits : Limits} → (s : Schema) (start : Option (List ℕ)) (r : Reader) (a : Option (List Report))
      → Opens limits start r → (why : RewriteStop) → RefusesOther expected s why → ReportsSentBatches limits start r.remaining a a (Err why)
  other_reports s start r a o (stop.OtherSchema path) h = refl
  other_reports s start r a o (stop.Write fault) h = opened_some start r a o
  other_reports s start r a o (stop.Read fault message) h = absurd h
  other_reports s start r a o (stop.Above total number) h = absurd h
  other_reports s start r a o stop.NoRoom h = absurd h
  other_reports s start r a o (stop.Held message) h = absurd h

  pub other_held : {limits : Limits} → (s : Schema) (most : Option ℕ) (start : Option (List ℕ)) (r : Reader)
      → HeldSoFar limits most start r → (why : RewriteStop) → RefusesOther expected s why
      → HeldInAll limits most start r.remaining (IsHeld (Err why))
  other_held s most start r held (stop.OtherSchema path) h = still_held most start r _ (λ bad. absurd bad) held
  other_held s most start r held (stop.Write fault) h = still_held most start r _ (λ bad. absurd bad) held
  other_held s most start r held (stop.Read fault message) h = absurd h
  other_held s most start r held (stop.Above total number) h = absurd h
  other_held s most start r held stop.NoRoom h = absurd h
  other_held s most start r held (stop.Held message) h = absurd h
