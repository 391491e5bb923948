-- Where a source holds a table, that table is sent, or writing it breaks off, or memory runs out in reading.
use Rattle.std.proofs.Common.{◌≡◌, ◌≢◌, ◌∙◌, refl, sym, subst, ℕ, ◌<◌, List, [], ◌∷◌, ◌++◌, length, map, Option, Some, None}
use Rattle.std.proofs.Common.{Result, Ok, Err, append_assoc, append-nil, arith}
use Rattle.std.specs.Prelude.{Bool, IsTrue, true, false}
use Rattle.std.specs.List.{AllByRecursion}
use Rattle.std.specs.Io.KnownBytes.{Consumes, IsAtEnd}
use Rattle.std.proofs.lemmas.List.{length-append}
use Rattle.std.proofs.Math.Seq.{get_or-append_seam, take-append_seam}
use Rattle.ipc_model.specs.declared.fault.Fault.{Fault}
use Rattle.ipc_model.specs.declared.fault.Fault.TheVariants.{OutOfMemory}
use Rattle.ipc_model.specs.declared.fault.WriteFault.{WriteFault}
use Rattle.ipc_model.specs.declared.fault.WriteFault.TheVariants as w
use Rattle.ipc_model.specs.declared.limits.Limits.{Limits}
use Rattle.ipc_model.specs.declared.schema.Schema.{Schema}
use Rattle.ipc_model.specs.declared.table.BatchRows.{BatchRows}
use Rattle.ipc_model.specs.declared.table.Table.{Table}
use Rattle.ipc_stream_read.specs.declared.end.End.{End}
use Rattle.ipc_stream_read.specs.declared.end.End.TheVariants.{Mark, Closed}
use Rattle.ipc_stream_read.specs.Ends.{as_required}
use Rattle.ipc_stream_read.specs.Failures.{CountsFault}
use Rattle.ipc_stream_read.specs.Reasons.{Reads}
use Rattle.ipc_stream_read.specs.Stream.{schema, batch, initial_state, events_of, Denotes, EndsStream, IsTableOf, OpensStream}
use Rattle.ipc_stream_read.specs.Taken.{TakesTable}
use Rattle.ipc_stream.specs.Dictionaries.{SendsBatch, SendsTable, kept_after, kept_at_start}
use Rattle.ipc_stream.specs.Writing.{AcceptsBatch, AcceptsTable, BreaksOff, CutShort, NotSentWhole}
use Rattle.ipc_stream.specs.Writing.{RefusesBatch, RefusesSchema, Sent}
use Rattle.ipc_stream_read.proofs.Answered.{answers_marked, answers_closed}
use Rattle.ipc_stream_read.proofs.Runs.{reads_after}
use Rattle.ipc_stream_read.proofs.Beginnings.{Holds, front_begins, holds_closed, holds_marked, left_of}
use Rattle.ipc_stream_read.proofs.Beginnings.{reads_of, schema_begins, table_begins}
use Rattle.ipc_stream.proofs.TablesWritten.{IsOut, batch_breaks, end_broken, start_breaks}
use Rattle.job_rewrite.specs.declared.options.RewriteOptions.{RewriteOptions}
use Rattle.job_rewrite.specs.declared.options.Total.{Total}
use Rattle.job_rewrite.specs.declared.stop.RewriteStop.{RewriteStop}
use Rattle.job_rewrite.specs.declared.stop.RewriteStop.TheVariants as stop
use Rattle.job_rewrite.specs.RewriteLimits.{sent_limits}
use Rattle.job_rewrite.specs.Rewriting.{AnswersRewrittenTable, BreaksReading, unopened, broken, BreaksWriting, unstarted, refused}
use Rattle.job_rewrite.specs.Rewriting.{unended, BreaksTotals, Rewrites, CountsRewriteFailures, StopsAbove, with_batch}
use Rattle.job_rewrite.specs.Rewriting.{BreaksAtSchema, IsHeld, StopsAtSchema}
use Rattle.job_rewrite.specs.Totals.{AreWithin}

-- the batch behind the first ones is inside
inside_behind : (xs more : List BatchRows) (last : BatchRows) → length xs < length (xs ++ last ∷ more)
inside_behind xs more last = let long = length-append xs (last ∷ more) in omega (arith, long)

-- the messages of a table are the first ones of the table with more batches
first_out : {limits : Limits} → (t : Table) (more : List BatchRows) (w0 w1 : Option (List ℕ)) (f0 f1 : ℕ) → AcceptsTable limits t
    → Sent (SendsTable limits t) w0 w1 f0 f1
    → IsOut limits (record { schema = t.schema; batches = t.batches ++ more }) w0 w1 f0 f1 (length t.batches)
first_out {limits} t more w0 w1 f0 f1 accepts sent = record {
  bytes = sent.x;
  sent = subst (λ (bs : List BatchRows). SendsTable limits (record { schema = t.schema; batches = bs }) sent.x)
      (sym (take-append_seam t.batches more)) sent.whole;
  appended = sent.bytes;
  worked = sent.worked;
  works = sent.works;
  accepts_schema = accepts.schema;
  accepts = subst (λ (bs : List BatchRows). AllByRecursion (AcceptsBatch limits t.schema) bs) (sym (take-append_seam t.batches more))
      accepts.batches;
}

-- where the batch behind the first ones is refused, writing the whole table breaks off there
last_breaks : {limits : Limits} → (t : Table) (last : BatchRows) (more : List BatchRows) (w0 between w1 : Option (List ℕ)) (f0 f f1 : ℕ)
    (fault : WriteFault) → AcceptsTable limits t → Sent (SendsTable limits t) w0 between f0 f → RefusesBatch limits t.schema last fault
    → NotSentWhole (SendsBatch limits t.schema (kept_after t.schema.fields (kept_at_start t.schema) t.batches) last) between w1 f f1 fault
    → BreaksOff limits (record { schema = t.schema; batches = t.batches ++ last ∷ more }) w0 w1 f0 f1 fault
last_breaks {limits} t last more w0 between w1 f0 f f1 fault accepts sent refuses unsent =
    batch_breaks (record { schema = t.schema; batches = t.batches ++ last ∷ more }) w0 between w1 f0 f f1 (length t.batches)
    (first_out t (last ∷ more) w0 between f0 f accepts sent) last (inside_behind t.batches more last)
    (sym (get_or-append_seam t.batches last more last)) fault refuses
    (subst (λ (bs : List BatchRows). NotSentWhole (SendsBatch limits t.schema (kept_after t.schema.fields (kept_at_start t.schema) bs) last)
    between w1 f f1 fault) (sym (take-append_seam t.batches (last ∷ more))) unsent)

-- where the sink failed at the end mark, writing the table breaks off there
mark_breaks : {limits : Limits} → (t : Table) (w0 between w1 : Option (List ℕ)) (f0 f f1 : ℕ) → AcceptsTable limits t
    → Sent (SendsTable limits t) w0 between f0 f → CutShort EndsStream between w1 f1 → BreaksOff limits t w0 w1 f0 f1 w.Write
mark_breaks {limits} t w0 between w1 f0 f f1 accepts sent cut =
    let whole : record { schema = t.schema; batches = t.batches ++ [] } ≡ t = λ i. record
    { schema = t.schema; batches = append-nil t.batches i } in
    let out = subst (λ (u : Table). IsOut limits u w0 between f0 f (length t.batches)) whole
    (first_out t [] w0 between f0 f accepts sent) in
    end_broken t w0 between w1 f0 f f1 (length t.batches) out (omega arith) (Err w.Write) cut refl

module _ {limits : Limits} (options : RewriteOptions) (new : Option (List ℕ)) (z : List ℕ) (t : Table) (h : Holds limits z t)
    (w0 w1 : Option (List ℕ)) (f0 f1 : ℕ)
    (only : (u : Table) (end : End) → TakesTable limits (Some z) new (Ok (u, end)) → u ≡ t) where
  -- the table that was read to its end is this one
  same_table : (x : List ℕ) (u : Table) (end : End) → Consumes (Some z) new x → Denotes limits x u end → (end ≡ Closed → IsAtEnd new)
      → u ≡ t
  same_table x u end bytes d closed = only u end (record { x = x; bytes = bytes; gives = reads_of x new u end d closed })

  writing : (fault : WriteFault) → BreaksWriting options limits (Some z) new w0 w1 f0 f1 fault
      → BreaksOff (sent_limits options limits) t w0 w1 f0 f1 fault
  writing fault (unstarted x s bytes run refuses unsent) =
      let left = left_of z new x bytes in
      let begins = front_begins z x left.0 t _ _ h left.1 run in
      let same = schema_begins t s begins.0 begins.1 in
      start_breaks t w0 w1 f0 f1 fault (subst (λ (q : Schema). RefusesSchema (sent_limits options limits) q fault) same refuses)
      (subst (λ (q : Schema). NotSentWhole (OpensStream (sent_limits options limits) q) w0 w1 f0 f1 fault) same unsent)
  writing fault (refused x u last between f bytes run within accepts sent refuses unsent) =
      let left = left_of z new x bytes in
      let begins = front_begins z x left.0 t _ _ h left.1 run.1 in
      let others = table_begins t (with_batch u last) begins.0 begins.1 in
      let joined : record { schema = u.schema; batches = u.batches ++ last ∷ others.0 } ≡ t =
      (λ i. record { schema = u.schema; batches = sym (append_assoc u.batches (last ∷ []) others.0) i }) ∙ sym others.1 in
      subst (λ (q : Table). BreaksOff (sent_limits options limits) q w0 w1 f0 f1 fault) joined
      (last_breaks u last others.0 w0 between w1 f0 f f1 fault accepts sent refuses unsent)
  writing fault (unended x u end between f bytes d closed within accepts sent is cut) =
      subst (λ (e : WriteFault). BreaksOff (sent_limits options limits) t w0 w1 f0 f1 e) (sym is)
      (subst (λ (q : Table). BreaksOff (sent_limits options limits) q w0 w1 f0 f1 w.Write) (same_table x u end bytes d closed)
      (mark_breaks u w0 between w1 f0 f f1 accepts sent cut))

  -- the batches that were sent before a total are the first ones of the table
  stopping : (total : Total) (number : ℕ) → BreaksTotals options limits (Some z) new w0 w1 f0 f1 total number
      → (front : Table) × (last : BatchRows) × (rest : List BatchRows)
      × (record { schema = front.schema; batches = front.batches ++ last ∷ rest } ≡ t)
      × StopsAbove options (sent_limits options limits) front last w0 w1 f0 f1 total number
  stopping total number c =
      let u = c.table in
      let left = left_of z new c.x c.bytes in
      let begins = front_begins z c.x left.0 t _ _ h left.1 c.denotes.1 in
      let others = table_begins t (with_batch u c.last) begins.0 begins.1 in
      let joined : record { schema = u.schema; batches = u.batches ++ c.last ∷ others.0 } ≡ t =
      (λ i. record { schema = u.schema; batches = sym (append_assoc u.batches (c.last ∷ []) others.0) i }) ∙ sym others.1 in
      (u, c.last, others.0, joined, c.stops)

  -- a schema without room is that of the table
  roomless : BreaksAtSchema options limits (Some z) new w0 w1 f0 f1
      → StopsAtSchema options.max_bytes (sent_limits options limits) t.schema w0 w1 f0 f1
  roomless c =
      let left = left_of z new c.x c.bytes in
      let begins = front_begins z c.x left.0 t _ _ h left.1 c.opens in
      let same = schema_begins t c.s begins.0 begins.1 in
      subst (λ (q : Schema). StopsAtSchema options.max_bytes (sent_limits options limits) q w0 w1 f0 f1) same c.stops

  -- reading breaks off for want of memory, or at an end without the mark
  reading : (fault : Fault) (message : ℕ) → ((f : Fault) → f ≡ fault → TakesTable limits (Some z) new (Err f) → f ≡ OutOfMemory)
      → ((u : Table) → TakesTable limits (Some z) new (Ok (u, Closed)) → IsTrue options.require_mark → ⊥)
      → BreaksReading options limits (Some z) new w0 w1 f0 f1 fault message → fault ≡ OutOfMemory
  reading fault message memory ends (unopened x bytes reads number same count) =
      memory fault refl (record { x = x; bytes = bytes; gives = ([], reads) })
  reading fault message memory ends (broken x y u answer bytes opens reads required number within accepts sent) =
      by_answer options.require_mark answer required
      (reads_after None (Some (initial_state u.schema)) x y new (schema u.schema ∷ []) (map batch u.batches) answer opens reads) ends
    where
      by_answer : (m : Bool) (a : Result End Fault) → as_required m a ≡ Err fault → Reads limits None (x ++ y) new (events_of u) a
          → ((v : Table) → TakesTable limits (Some z) new (Ok (v, Closed)) → IsTrue m → ⊥) → fault ≡ OutOfMemory
      by_answer m (Err f) is all none =
          let same : f ≡ fault = cc in
          sym same ∙ memory f same (record { x = x ++ y; bytes = bytes; gives = (events_of u, all) })
      by_answer m (Ok Mark) is all none = absurd (cc)
      by_answer true (Ok Closed) is all none =
          absurd (none u (record { x = x ++ y; bytes = bytes; gives = all }) refl)
      by_answer false (Ok Closed) is all none = absurd (cc)

  -- what is answered of a source that holds the table
  pub answered : (g0 g1 : ℕ) → ((fault : Fault) → TakesTable limits (Some z) new (Err fault) → CountsFault g0 g1 fault → fault
      ≡ OutOfMemory)
      → ((u : Table) → TakesTable limits (Some z) new (Ok (u, Closed)) → IsTrue options.require_mark → ⊥)
      → (r : Result ℕ RewriteStop) → (IsHeld r → options.max_held ≢ None) → CountsRewriteFailures g0 g1 f0 f1 r
      → Rewrites options limits (Some z) new w0 w1 f0 f1 r
      → AnswersRewrittenTable options (sent_limits options limits) t w0 w1 f0 f1 r
  answered g0 g1 memory ends (Ok n) held tells (c, number) =
      subst (λ (u : Table). AreWithin options u.batches × Sent (IsTableOf (sent_limits options limits) u) w0 w1 f0 f1)
      (same_table c.x c.table c.end c.bytes c.denotes c.closed) (c.within, c.sent)
  answered g0 g1 memory ends (Err (stop.Read fault message)) held tells c =
      reading fault message (λ f same takes. memory f takes (subst (λ e. CountsFault g0 g1 e) (sym same) tells.0)) ends c
  answered g0 g1 memory ends (Err (stop.Write fault)) held tells c = writing fault c
  answered g0 g1 memory ends (Err (stop.Above total number)) held tells c = stopping total number c
  answered g0 g1 memory ends (Err stop.NoRoom) held tells c = roomless c
  answered g0 g1 memory ends (Err (stop.Held message)) held tells c = held tt
  answered g0 g1 memory ends (Err (stop.OtherSchema path)) held tells c = tt

module _ {limits : Limits} (options : RewriteOptions) (old new w0 w1 : Option (List ℕ)) (g0 g1 f0 f1 : ℕ) (r : Result ℕ RewriteStop)
    (held : IsHeld r → options.max_held ≢ None) (tells : CountsRewriteFailures g0 g1 f0 f1 r)
    (c : Rewrites options limits old new w0 w1 f0 f1 r) (none : g1 ≡ 0) where
  -- where bytes up to an end mark denote a table, that one is written or refused, unless memory runs out
  pub answered_marked : (x rest : List ℕ) (t : Table) → old ≡ Some (x ++ rest)
      → Denotes limits x t Mark → AnswersRewrittenTable options (sent_limits options limits) t w0 w1 f0 f1 r
  answered_marked x rest t is d =
      let z = x ++ rest in
      answered options new z t (holds_marked x rest t d) w0 w1 f0 f1
      (λ u end takes. (answers_marked (Some z) new 0 0 (Ok (u, end)) takes refl (refl, refl) x rest t refl d).0) g0 g1
      (λ fault takes failed. answers_marked (Some z) new g0 g1 (Err fault) takes none failed x rest t refl d)
      (λ u takes required.
      let same : Closed ≡ Mark = (answers_marked (Some z) new 0 0 (Ok (u, Closed)) takes refl (refl, refl) x rest t refl d).1 in
      absurd (cc))
      r held tells (subst (λ (o : Option (List ℕ)). Rewrites options limits o new w0 w1 f0 f1 r) is c)

  -- where all bytes of the source denote a table, and no mark is required, that one is written or refused, unless memory runs out
  pub answered_closed : (x : List ℕ) (t : Table) → options.require_mark ≡ false → old ≡ Some x → Denotes limits x t Closed
      → AnswersRewrittenTable options (sent_limits options limits) t w0 w1 f0 f1 r
  answered_closed x t free is d =
      answered options new x t (holds_closed x t d) w0 w1 f0 f1
      (λ u end takes. (answers_closed (Some x) new 0 0 (Ok (u, end)) takes refl (refl, refl) x t refl d).0) g0 g1
      (λ fault takes failed. answers_closed (Some x) new g0 g1 (Err fault) takes none failed x t refl d)
      (λ u takes required.
      let bad : false ≡ true = sym free ∙ required in
      absurd (cc))
      r held tells (subst (λ (o : Option (List ℕ)). Rewrites options limits o new w0 w1 f0 f1 r) is c)
