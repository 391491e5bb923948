-- A whole stream, from its schema on.
use Rattle.std.proofs.Common.{◌≡◌, ◌∙◌, refl, sym, ap, subst, ℕ, List, [], ◌∷◌, ◌++◌, map, Option, Some, None, Result, Ok, Err}
use Rattle.std.proofs.Common.{arith, length}
use Rattle.std.specs.Prelude.{false}
use Rattle.std.specs.List.{AllByRecursion}
use Rattle.std.specs.Io.KnownBytes.{Consumes}
use Rattle.std.proofs.KnownBytes.{Appends-trans, Consumes-trans}
use Rattle.ipc_model.specs.declared.fault.Fault.{Fault}
use Rattle.ipc_model.specs.declared.fault.Fault.TheVariants.{Read}
use Rattle.ipc_model.specs.declared.fault.WriteFault.{WriteFault}
use Rattle.ipc_model.specs.declared.fault.WriteFault.TheVariants as w
use Rattle.ipc_model.specs.declared.limits.Limits.{Limits}
use Rattle.ipc_model.specs.declared.schema.Schema.{Schema}
use Rattle.ipc_model.specs.declared.table.BatchRows.{BatchRows}
use Rattle.ipc_model.specs.declared.table.Table.{Table}
use Rattle.ipc_stream_read.specs.declared.end.End.{End}
use Rattle.ipc_stream_read.specs.Reader.{Reader, in_force_of, Opens, OpenFails}
use Rattle.ipc_stream_read.specs.Reasons.{Reads}
use Rattle.ipc_stream_read.specs.Stream.{InForce, schema, batch, Run, events_of, DenotesClosed, EndsStream, OpensStream}
use Rattle.ipc_stream_read.specs.Counts.{count_up, messages_in}
use Rattle.ipc_stream.specs.Dictionaries.{SendsBatch, SendsBatches, SendsTable, kept_after, kept_at_start}
use Rattle.ipc_stream.specs.OpenStreams.{OpenStreamState}
use Rattle.ipc_stream.specs.Writer.{FinishFails, Writer, StartsWriter, StartFails}
use Rattle.ipc_stream.specs.Writing.{AcceptsBatch, AcceptsSchema, AcceptsTable, CutShort, NotSentWhole}
use Rattle.ipc_stream.specs.Writing.{RefusesBatch, Sent}
use Rattle.ipc_device.specs.Reports.{Report}
use Rattle.ipc_stream_read.proofs.Answered.{taken_denotes}
use Rattle.ipc_stream_read.proofs.Reporting.{opened_some}
use Rattle.ipc_stream_read.proofs.Runs.{run_then, reads_after}
use Rattle.job_rewrite.proofs.Bytes.{room_whole}
use Rattle.job_rewrite.specs.Outputs.{StartsNot, StartsOutput}
use Rattle.job_rewrite.specs.Reporting.{ReportsSentBatches}
use Rattle.job_rewrite.specs.declared.options.RewriteOptions.{RewriteOptions}
use Rattle.job_rewrite.specs.declared.options.Total.{Total}
use Rattle.job_rewrite.specs.declared.options.Total.TheVariants as total
use Rattle.job_rewrite.specs.declared.stop.RewriteStop.{RewriteStop}
use Rattle.job_rewrite.specs.declared.stop.RewriteStop.TheVariants as stop
use Rattle.job_rewrite.specs.RewriteLimits.{sent_limits}
use Rattle.ipc_stream.proofs.Chains.{table_sends, table_tells}
use Rattle.job_rewrite.specs.Rewriting.{CopiesTable, BreaksReading, unopened, broken, BreaksWriting, unstarted}
use Rattle.job_rewrite.specs.Rewriting.{refused, unended, Rewrites, CopiesRest, CopiesBatches}
use Rattle.job_rewrite.specs.Rewriting.{BreaksAtSchema, Exceeds, ExceedsRest, IsHeld, StopsAtSchema}

-- behind the schema's message no dictionary is in force
in_force_here : {limits : Limits} → (start : Option (List ℕ)) (s : Reader) → Opens limits start s
    → in_force_of s ≡ record { schema = s.schema; dictionaries = [] }
in_force_here start s o = ap (λ d. record { schema = s.schema; dictionaries = d }) o.no_dictionary

pub opened : {limits : Limits} → (start : Option (List ℕ)) (s : Reader) (o : Opens limits start s) → OpensStream limits s.schema o.x
opened {limits} start s o =
    subst (λ (i : InForce). Run limits None o.x (schema s.schema ∷ []) (Some i)) (in_force_here start s o) o.run

-- where a new stream isn't begun, it is since the schema that was read is refused
pub schema_refused : {limits : Limits} → (options : RewriteOptions) (start : Option (List ℕ)) (s : Reader) (w0 w1 : Option (List ℕ))
    (f0 f1 : ℕ) (fault : WriteFault) → Opens limits start s → StartFails (sent_limits options s.limits) s.schema w0 w1 f0 f1 fault
    → BreaksWriting options limits start s.remaining w0 w1 f0 f1 fault
schema_refused {limits} options start s w0 w1 f0 f1 fault o h =
    let fails = subst (λ l. StartFails (sent_limits options l) s.schema w0 w1 f0 f1 fault) o.same_limits h in
    unstarted o.x s.schema o.bytes (opened start s o) fails.cause fails.unsent

-- where it has no room, neither has the schema that was read
pub schema_above : {limits : Limits} → (options : RewriteOptions) (start : Option (List ℕ)) (s : Reader) (w0 w1 : Option (List ℕ))
    (f0 f1 : ℕ) → Opens limits start s
    → StopsAtSchema options.max_bytes (sent_limits options s.limits) s.schema w0 w1 f0 f1
    → BreaksAtSchema options limits start s.remaining w0 w1 f0 f1
schema_above {limits} options start s w0 w1 f0 f1 o h = record {
  x = o.x;
  s = s.schema;
  bytes = o.bytes;
  opens = opened start s o;
  stops = subst (λ l. StopsAtSchema options.max_bytes (sent_limits options l) s.schema w0 w1 f0 f1) o.same_limits h;
}

-- where a stream with a maximum of bytes isn't begun, it is for one of these causes, and no batch was read
module _ {limits : Limits} (options : RewriteOptions) (start : Option (List ℕ)) (s : Reader) (w0 w1 : Option (List ℕ)) (f0 f1 : ℕ)
    (most : ℕ) (o : Opens limits start s) where
  pub not_begun : (why : RewriteStop) → options.max_bytes ≡ Some most
      → StartsNot (sent_limits options s.limits) most s.schema w0 w1 f0 f1 why
      → Rewrites options limits start s.remaining w0 w1 f0 f1 (Err why)
  not_begun (stop.Write fault) is h = schema_refused options start s w0 w1 f0 f1 fault o h
  not_begun stop.NoRoom is h = schema_above options start s w0 w1 f0 f1 o
      (subst (λ m. StopsAtSchema m (sent_limits options s.limits) s.schema w0 w1 f0 f1) (sym is) h)
  not_begun (stop.Read fault message) is h = absurd h
  not_begun (stop.Above total number) is h = absurd h
  not_begun (stop.Held message) is h = absurd h
  not_begun (stop.OtherSchema path) is h = absurd h

  pub none_reported : (why : RewriteStop) (reports : Option (List Report))
      → StartsNot (sent_limits options s.limits) most s.schema w0 w1 f0 f1 why
      → ReportsSentBatches limits start s.remaining reports reports (Err why)
  none_reported (stop.Write fault) reports h = opened_some start s reports o
  none_reported stop.NoRoom reports h = opened_some start s reports o
  none_reported (stop.Read fault message) reports h = absurd h
  none_reported (stop.Above total number) reports h = absurd h
  none_reported (stop.Held message) reports h = absurd h
  none_reported (stop.OtherSchema path) reports h = absurd h

-- it is for none of held bytes
pub not_begun_held : (limits : Limits) (most : ℕ) (s : Schema) (w0 w1 : Option (List ℕ)) (f0 f1 : ℕ) (why : RewriteStop)
    → StartsNot limits most s w0 w1 f0 f1 why → IsHeld (Err why) → ⊥
not_begun_held limits most s w0 w1 f0 f1 (stop.Held message) h held = h
not_begun_held limits most s w0 w1 f0 f1 (stop.Write fault) h held = held
not_begun_held limits most s w0 w1 f0 f1 stop.NoRoom h held = held
not_begun_held limits most s w0 w1 f0 f1 (stop.Read fault message) h held = held
not_begun_held limits most s w0 w1 f0 f1 (stop.Above total number) h held = held
not_begun_held limits most s w0 w1 f0 f1 (stop.OtherSchema path) h held = held

module _ {limits : Limits} (options : RewriteOptions) (start : Option (List ℕ)) (s t : Reader) (before : Writer) (room : Option ℕ)
    (w0 : Option (List ℕ)) (f0 : ℕ) (o : Opens limits start s)
    (started : StartsOutput options.max_bytes (sent_limits options s.limits) s.schema w0 f0 before room) where
  -- the message of the schema was sent
  begun : StartsWriter (sent_limits options s.limits) s.schema w0 f0 before
  begun = started.0

  -- the new stream's limits
  raised_here : before.limits ≡ sent_limits options limits
  raised_here = begun.same_limits ∙ ap (sent_limits options) o.same_limits

  -- the schema and these batches
  abbrev table_with : List BatchRows → Table
  table_with batches = record { schema = s.schema; batches = batches }

  -- what is true of the new stream's limits, and of nothing sent but its schema, is true of the raised ones
  raised_too : (P : OpenStreamState → Type 0) → P (record {
    limits = before.limits;
    schema = s.schema;
    kept = before.kept;
    seed =
        before.seed;
  })
      → P (record { limits = sent_limits options limits; schema = s.schema; kept = kept_at_start s.schema; seed = before.seed })
  raised_too P h = subst P (λ i. record { limits = raised_here i; schema = s.schema; kept = begun.nothing_kept i; seed = before.seed }) h

  -- the messages of the schema and of these batches were sent
  all_sent : (batches : List BatchRows) (w1 : Option (List ℕ)) (f1 : ℕ)
      → Sent (SendsBatches before.limits s.schema before.kept batches) before.written w1 before.failures f1
      → Sent (SendsTable (sent_limits options limits) (table_with batches)) w0 w1 f0 f1
  all_sent batches w1 f1 sent = record {
    x = begun.sent.x ++ sent.x;
    whole = table_sends (sent_limits options limits) s.schema batches begun.sent.x sent.x
        (subst (λ l. OpensStream (sent_limits options l) s.schema begun.sent.x) o.same_limits begun.sent.whole)
        (raised_too (λ w. SendsBatches w.limits w.schema w.kept batches sent.x) sent.whole);
    bytes = Appends-trans w0 before.written w1 begun.sent.x sent.x begun.sent.bytes sent.bytes;
    worked = begun.sent.worked;
    works = sent.works;
  }

  -- the schema and these batches are accepted
  all_accepted : (batches : List BatchRows) → AllByRecursion (AcceptsBatch before.limits s.schema) batches
      → AcceptsTable (sent_limits options limits) (table_with batches)
  all_accepted batches accepts = record {
    schema = subst (λ l. AcceptsSchema (sent_limits options l) s.schema) o.same_limits begun.accepts;
    batches = subst (λ l. AllByRecursion (AcceptsBatch l s.schema) batches) raised_here accepts;
  }

  module _ (after : Writer) (answer : Result End Fault) (r : CopiesRest options s t before after answer) where
    taken : Consumes start t.remaining (o.x ++ r.x)
    taken = Consumes-trans start s.remaining t.remaining o.x r.x o.bytes r.bytes

    reads : Reads limits None (o.x ++ r.x) t.remaining (events_of (table_with r.batches)) answer
    reads = reads_after None (Some (in_force_of s)) o.x r.x t.remaining (schema s.schema ∷ []) (map batch r.batches) answer o.run
        (subst (λ l. Reads l (Some (in_force_of s)) r.x t.remaining (map batch r.batches) answer) o.same_limits r.reads)

    -- what was read after the schema, and the number of its messages
    abbrev ReadsBehind : Limits → InForce → Type 0
    ReadsBehind l i = (q : Reads l (Some i) r.x t.remaining (map batch r.batches) answer) × (messages_in q.run ≡ messages_in r.reads.run)

    reads_behind : ReadsBehind limits (record { schema = s.schema; dictionaries = [] })
    reads_behind = subst (ReadsBehind limits) (in_force_here start s o)
        (subst (λ l. ReadsBehind l (in_force_of s)) o.same_limits (r.reads, refl))

    numbered : t.messages ≡ count_up 1 (messages_in reads_behind.0.run)
    numbered =
        let counted = r.counted 1 (omega (arith, o.one_message)) in
        omega (arith, counted, reads_behind.1)

  -- where all batches and the mark were sent, so was the table
  pub table_copied : (after : Writer) (n : ℕ) (w1 : Option (List ℕ)) (f1 : ℕ) → CopiesBatches options room s t before after (Ok n)
      → Sent EndsStream after.written w1 after.failures f1 → Rewrites options limits start t.remaining w0 w1 f0 f1 (Ok n)
  table_copied after n w1 f1 (end, r, marked, number) mark =
      let h = taken_denotes start t.remaining (Ok (table_with r.batches, end))
      (record { x = o.x ++ r.x; bytes = taken after (Ok end) r; gives = reads after (Ok end) r }) in
      let sent = all_sent r.batches after.written after.failures r.sent in
      let report = table_tells (sent_limits options limits) (table_with r.batches) sent.x sent.whole in
      let copies : CopiesTable options limits start t.remaining w0 w1 f0 f1 = record {
        x = h.0;
        table = table_with r.batches;
        end = end;
        bytes = h.1;
        denotes = h.2;
        closed = h.3;
        marked = marked;
        within = r.within;
        accepts = all_accepted r.batches r.accepts;
        sent = record {
          x = sent.x ++ mark.x;
          whole = (sent.x, ap (λ y. sent.x ++ y) mark.whole, (Some report.0, report.1.1));
          bytes = Appends-trans w0 after.written w1 sent.x mark.x sent.bytes mark.bytes;
          worked = sent.worked;
          works = mark.works;
        };
      } in
      let counted = number ∙ numbered after (Ok end) r in
      (copies, (o.x, r.x, taken after (Ok end) r, opened start s o, ((reads_behind after (Ok end) r).0, counted)))

  mark_refused : (after : Writer) (end : End) (w1 : Option (List ℕ)) (f1 : ℕ) → CopiesRest options s t before after (Ok end)
      → CutShort EndsStream after.written w1 f1 → BreaksWriting options limits start t.remaining w0 w1 f0 f1 w.Write
  mark_refused after end w1 f1 r cut =
      let h = taken_denotes start t.remaining (Ok (table_with r.batches, end))
      (record { x = o.x ++ r.x; bytes = taken after (Ok end) r; gives = reads after (Ok end) r }) in
      unended h.0 (table_with r.batches) end after.written after.failures h.1 h.2 h.3 r.within (all_accepted r.batches r.accepts)
      (all_sent r.batches after.written after.failures r.sent) refl cut

  -- where the mark was not sent after all batches, the sink failed
  pub end_refused : (after : Writer) (end : End) (w1 : Option (List ℕ)) (f1 : ℕ) (fault : WriteFault)
      → after.failed ≡ false → CopiesRest options s t before after (Ok end) → FinishFails after w1 f1 fault
      → Rewrites options limits start t.remaining w0 w1 f0 f1 (Err (stop.Write fault))
  end_refused after end w1 f1 w.Write works r fails = mark_refused after end w1 f1 r fails.1
  end_refused after end w1 f1 w.Failed works r fails = absurd (cc (works, fails.0))
  end_refused after end w1 f1 fault works r fails = absurd fails

  -- the schema and these batches were read
  all_read : (batches : List BatchRows) (x : List ℕ) → Run s.limits (Some (in_force_of s)) x (map batch batches) (Some (in_force_of t))
      → DenotesClosed limits (o.x ++ x) (table_with batches)
  all_read batches x run = (
    Some (in_force_of t),
    run_then None (Some (in_force_of s)) (Some (in_force_of t)) o.x x (schema s.schema ∷ []) (map batch batches) o.run
        (subst (λ l. Run l (Some (in_force_of s)) x (map batch batches) (Some (in_force_of t))) o.same_limits run),
  )

  -- a total that the batches after the schema would exceed, the table would too
  exceeded : (total : Total) (batches : List BatchRows) (last : BatchRows) (w1 : Option (List ℕ)) (f1 : ℕ)
      (sent : Sent (SendsBatches before.limits s.schema before.kept batches) before.written w1 before.failures f1)
      → ExceedsRest options room total before s.schema batches last sent.x
      → Exceeds options (sent_limits options limits) total (table_with batches) last (all_sent batches w1 f1 sent).x
  unfolding begun all_sent
  exceeded total.Batches batches last w1 f1 sent above = above
  exceeded total.Rows batches last w1 f1 sent above = above
  exceeded total.Bytes batches last w1 f1 sent above = (
    above.0,
    raised_too (λ w. SendsBatch w.limits w.schema (kept_after w.schema.fields w.kept batches) last above.0) above.1,
    room_whole options.max_bytes room begun.sent.x sent.x (length above.0) started.1 above.2,
  )

  broken_here : (after : Writer) (why : RewriteStop) → CopiesBatches options room s t before after (Err why)
      → Rewrites options limits start t.remaining w0 after.written f0 after.failures (Err why)
  broken_here after (stop.Read fault message) (answer, r, ends, number) =
      broken o.x r.x (table_with r.batches) answer (taken after answer r) (opened start s o) (reads_behind after answer r).0 ends
      (number ∙ numbered after answer r) r.within (all_accepted r.batches r.accepts)
      (all_sent r.batches after.written after.failures r.sent)
  broken_here after (stop.Write fault) r =
      refused (o.x ++ r.x) (table_with r.batches) r.last r.between r.failures
      (Consumes-trans start s.remaining t.remaining o.x r.x o.bytes r.bytes)
      (all_read (r.batches ++ r.last ∷ []) r.x r.run) r.within
      (all_accepted r.batches r.accepts) (all_sent r.batches r.between r.failures r.sent)
      (subst (λ l. RefusesBatch l s.schema r.last fault) raised_here r.refuses)
      (raised_too (λ w. NotSentWhole (SendsBatch w.limits w.schema (kept_after w.schema.fields w.kept r.batches) r.last) r.between
      after.written r.failures after.failures fault) r.unsent)
  broken_here after (stop.Above total number) r = record {
    x = o.x ++ r.x;
    table = table_with r.batches;
    last = r.last;
    bytes = Consumes-trans start s.remaining t.remaining o.x r.x o.bytes r.bytes;
    denotes = all_read (r.batches ++ r.last ∷ []) r.x r.run;
    stops = record {
      counted = r.counted;
      within = r.within;
      accepts = all_accepted r.batches r.accepts;
      sent = all_sent r.batches after.written after.failures r.sent;
      above = exceeded total r.batches r.last after.written after.failures r.sent r.above;
    };
  }
  broken_here after stop.NoRoom r = absurd r
  broken_here after (stop.OtherSchema path) r = absurd r
  broken_here after (stop.Held message) (answer, r, ends, number) =
      broken o.x r.x (table_with r.batches) answer (taken after answer r) (opened start s o) (reads_behind after answer r).0 ends
      (number ∙ numbered after answer r) r.within (all_accepted r.batches r.accepts)
      (all_sent r.batches after.written after.failures r.sent)

  -- where the batches were not all read and sent, neither was the stream
  pub batches_broken : (after : Writer) (w1 : Option (List ℕ)) (f1 : ℕ) (why : RewriteStop) → w1 ≡ after.written
      → f1 ≡ after.failures → CopiesBatches options room s t before after (Err why)
      → Rewrites options limits start t.remaining w0 w1 f0 f1 (Err why)
  batches_broken after w1 f1 why same_bytes same_count copies =
      subst (λ b. Rewrites options limits start t.remaining w0 b f0 f1 (Err why)) (sym same_bytes)
      (subst (λ n. Rewrites options limits start t.remaining w0 after.written f0 n (Err why)) (sym same_count)
      (broken_here after why copies))

-- where no schema is read, nothing is, and nothing was asked of the sink
pub none_read : {limits : Limits} → (options : RewriteOptions) (old new w0 : Option (List ℕ)) (f0 : ℕ) (fault : Fault)
    → OpenFails limits old new fault
    → BreaksReading options limits old new w0 w0 f0 f0 fault 0
none_read options old new w0 f0 fault fails = unopened fails.x fails.bytes fails.reads refl refl refl
