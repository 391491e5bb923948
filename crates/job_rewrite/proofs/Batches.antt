-- Batches that are read and sent.
use Rattle.std.proofs.Common.{◌≡◌, ◌∙◌, refl, sym, ap, subst, ℕ, suc, ◌+◌, List, [], ◌∷◌, ◌++◌, map, Some, None, Result, Ok}
use Rattle.std.proofs.Common.{Err, Option, append-nil, append_assoc, arith, false, length, true}
use Rattle.std.specs.Prelude.{Bool, IsTrue}
use Rattle.std.specs.List.{AllByRecursion}
use Rattle.std.specs.Io.KnownBytes.{Appends, Consumes}
use Rattle.std.proofs.KnownBytes.{Appends-nil, Appends-trans, Consumes-nil, Consumes-trans}
use Rattle.std.proofs.lemmas.List.{map-append}
use Rattle.ipc_model.specs.declared.fault.Fault.{Fault}
use Rattle.ipc_model.specs.declared.fault.Fault.TheVariants.{Read}
use Rattle.ipc_model.specs.declared.fault.WriteFault.{WriteFault}
use Rattle.ipc_model.specs.declared.limits.Limits.{Limits}
use Rattle.ipc_model.specs.declared.schema.Schema.{Schema}
use Rattle.ipc_model.specs.declared.table.BatchRows.{BatchRows}
use Rattle.ipc_stream_read.specs.declared.end.End.{End}
use Rattle.ipc_stream_read.specs.declared.end.End.TheVariants.{Closed, Mark}
use Rattle.ipc_stream_read.specs.declared.read_stop.ReadStop.{ReadStop}
use Rattle.ipc_stream_read.specs.declared.read_stop.ReadStop.TheVariants as read_stop
use Rattle.ipc_stream_read.specs.Held.{fault_of}
use Rattle.ipc_stream_read.specs.Reader.{StreamPhase}
use Rattle.ipc_stream_read.specs.Reader.{Reading, Ended, Refused}
use Rattle.ipc_stream_read.specs.Found.{ReadRows, batch_rows}
use Rattle.ipc_stream_read.specs.Decoding.{ReportsLastEvent}
use Rattle.ipc_stream_read.specs.Reader.{EndsAfter, LeadsTo, Reader, end_of, in_force_of, NextAnswer, NextCall}
use Rattle.ipc_stream_read.specs.Reasons.{Ends}
use Rattle.ipc_stream_read.specs.Stream.{State, MessageEvent, batch, Run, done}
use Rattle.ipc_stream_read.specs.Counts.{count_up, messages_in}
use Rattle.ipc_stream_read.specs.Progress.{all_rows}
use Rattle.ipc_stream.specs.Dictionaries.{SendsBatch, SendsBatches, kept_after, sends_none}
use Rattle.ipc_stream.specs.OpenStreams.{OpenStreamState}
use Rattle.ipc_stream.specs.Writer.{Writer}
use Rattle.ipc_stream.specs.Writing.{AcceptsBatch, RefusesBatch, Sent, NotSentWhole}
use Rattle.job_rewrite.proofs.Bytes.{room_less, takes_more, takes_none}
use Rattle.job_rewrite.specs.Outputs.{HasNoRoom, RefusesWrite, SendsWhole, Takes}
use Rattle.ipc_stream_read.proofs.Runs.{run_one, run_then, messages_one, messages_then}
use Rattle.ipc_stream.proofs.Chains.{batches_more, kept_then}
use Rattle.job_rewrite.specs.declared.stop.RewriteStop.TheVariants as stop
use Rattle.job_rewrite.specs.declared.options.RewriteOptions.{RewriteOptions}
use Rattle.job_rewrite.specs.declared.options.Total.{Total}
use Rattle.job_rewrite.specs.declared.options.Total.TheVariants as total
use Rattle.job_rewrite.specs.Rewriting.{CopiesBatches, CopiesRest, ExceedsRest, RefusesLast, StopsAtLast, stop_of_reading}
use Rattle.job_rewrite.specs.Totals.{AreAbove, AreWithin, IsWithin}
use Rattle.ipc_stream_read.specs.Ends.{as_required}
use Rattle.job_rewrite.proofs.Totals.{count_last, rows_last}

-- none are within each total
within_none : (most : Option ℕ) → IsWithin most 0
within_none None = tt
within_none (Some n) = omega arith

-- these batches were read after the schema, and sent; `count` is their number, and `rows` that of their rows
pub record Copied (options : RewriteOptions) (count rows : ℕ) (old now : Reader) (before after : Writer)
    (room left : Option ℕ) : Type 0 where
  pub x : List ℕ
  pub batches : List BatchRows
  pub bytes : Consumes old.remaining now.remaining x
  pub run : Run old.limits (Some (in_force_of old)) x (map batch batches) (Some (in_force_of now))
  pub reading : now.phase ≡ Reading
  pub same : now.schema ≡ old.schema
  pub same_limits : now.limits ≡ old.limits
  pub source_works : now.failures ≡ 0
  pub counted : (k : ℕ) → old.messages ≡ count_up 0 k → now.messages ≡ count_up 0 (k + messages_in run)
  pub accepts : AllByRecursion (AcceptsBatch before.limits old.schema) batches
  pub sent : Sent (SendsBatches before.limits old.schema before.kept batches) before.written after.written before.failures after.failures
  pub takes : Takes room left (length sent.x)
  pub sent_schema : after.schema ≡ old.schema
  pub sent_limits : after.limits ≡ before.limits
  pub kept : after.kept ≡ kept_after old.schema.fields before.kept batches
  pub works : after.failed ≡ false
  pub batches_are : count ≡ count_up 0 (length batches)
  pub rows_are : rows ≡ count_up 0 (all_rows batches)
  pub within : AreWithin options batches

zero_more : (k : ℕ) → k + 0 ≡ k
zero_more k = omega arith

-- before the first batch nothing was read and sent
pub copied_none : (options : RewriteOptions) (r : Reader) (w : Writer) (room : Option ℕ) → r.phase ≡ Reading → r.failures ≡ 0
    → w.failed ≡ false → w.failures ≡ 0 → w.schema ≡ r.schema → Copied options 0 0 r r w w room room
copied_none options r w room reading source works sink is = record {
  x = [];
  batches = [];
  bytes = Consumes-nil r.remaining;
  run = done;
  reading = reading;
  same = refl;
  same_limits = refl;
  source_works = source;
  counted = λ k is. is ∙ ap (count_up 0) (sym (zero_more k));
  accepts = tt;
  sent = record {
    x = [];
    whole = sends_none;
    bytes = Appends-nil w.written;
    worked = sink;
    works = sink;
  };
  takes = takes_none room;
  sent_schema = is;
  sent_limits = refl;
  kept = refl;
  works = works;
  batches_are = omega arith;
  rows_are = omega arith;
  within = record { batches_within = within_none options.max_batches; rows_within = within_none options.max_rows };
}

-- what a call that gave a batch says, where the reader was reading
gave : (now new : Reader) (p q : StreamPhase) (x : List ℕ) (found : ReadRows) → p ≡ Reading → NextAnswer now new p x (Ok (Some found)) q
    → (q ≡ Reading) × LeadsTo now new x (batch (batch_rows found))
gave now new Reading Reading x found is h = (refl, h.0)
gave now new Reading (Ended e) x found is h = absurd h
gave now new Reading Refused x found is h = absurd h
gave now new (Ended e) q x found is h = absurd (cc)
gave now new Refused q x found is h = absurd (cc)

ended : (now new : Reader) (p q : StreamPhase) (x : List ℕ) → p ≡ Reading → NextAnswer now new p x (Ok None) q
    → (e : End) × EndsAfter now new x (Ok e) × (q ≡ Ended e)
ended now new Reading Reading x is h = absurd h
ended now new Reading (Ended e) x is h = (e, h, refl)
ended now new Reading Refused x is h = absurd h
ended now new (Ended e) q x is h = absurd (cc)
ended now new Refused q x is h = absurd (cc)

broke : (now new : Reader) (p q : StreamPhase) (x : List ℕ) (f : Fault) → p ≡ Reading → NextAnswer now new p x (Err f) q
    → EndsAfter now new x (Err f)
broke now new Reading Reading x f is h = absurd h
broke now new Reading (Ended e) x f is h = absurd h
broke now new Reading Refused x f is h = h
broke now new (Ended e) q x f is h = absurd (cc)
broke now new Refused q x f is h = absurd (cc)

-- an end that is taken where the mark is required is the mark
marked : (mark : Bool) (e f : End) → as_required mark (Ok e) ≡ Ok f → IsTrue mark → e ≡ Mark
marked mark Mark f is required = refl
marked true Closed f is required = absurd (cc)
marked false Closed f is required = absurd (cc)

-- what holds of all of a list and of one element more holds of all
all_last : {X : Type 0} (P : X → Type 0) (xs : List X) (x : X) → AllByRecursion P xs → P x → AllByRecursion P (xs ++ x ∷ [])
all_last P [] x all one = (one, tt)
all_last P (y ∷ ys) x all one = (all.0, all_last P ys x all.1 one)

-- a run of `n` messages
abbrev Counted : Limits → State → List ℕ → List MessageEvent → State → ℕ → Type 0
Counted limits σ x es τ n = (r : Run limits σ x es τ) × (messages_in r ≡ n)

-- messages that tell nothing and one that tells an event are one more
told_counted : {limits : Limits} → (σ τ : State) (x : List ℕ) (e : MessageEvent) (t : ReportsLastEvent limits σ x e τ)
    → Counted limits σ x (e ∷ []) τ (suc (messages_in t.run))
told_counted {limits} σ τ x e t =
    let last = run_one t.report.frame t.report.step in
    let all = messages_then σ t.between τ t.silent t.message [] (e ∷ []) t.run last in
    let one = messages_one t.report.frame t.report.step in
    subst (λ y. Counted limits σ y (e ∷ []) τ (suc (messages_in t.run))) (sym t.joined)
    (run_then σ t.between τ t.silent t.message [] (e ∷ []) t.run last, omega (arith, all, one))

-- batches and one more are told by the messages of both
counted_then : (limits : Limits) (σ τ υ : State) (batches : List BatchRows) (last : BatchRows) (x y : List ℕ) (n : ℕ)
    (run : Run limits σ x (map batch batches) τ) → Counted limits τ y (batch last ∷ []) υ n
    → Counted limits σ (x ++ y) (map batch (batches ++ last ∷ [])) υ (messages_in run + n)
counted_then limits σ τ υ batches last x y n run next =
    let both = messages_then σ τ υ x y (map batch batches) (batch last ∷ []) run next.0 in
    subst (λ (es : List MessageEvent). Counted limits σ (x ++ y) es υ (messages_in run + n)) (sym (map-append batch batches (last ∷ [])))
    (run_then σ τ υ x y (map batch batches) (batch last ∷ []) run next.0, omega (arith, both, next.1))

-- the messages of a batch that came, and how many they are
record Came (limits : Limits) (now new : Reader) (x : List ℕ) (found : ReadRows) : Type 0 where
  pub count : ℕ
  pub run : Counted limits (Some (in_force_of now)) x (batch (batch_rows found) ∷ []) (Some (in_force_of new)) count
  pub messages : new.messages ≡ count_up now.messages count

-- a total of counts that is exceeded
exceeds_counted : (options : RewriteOptions) (room : Option ℕ) (t : Total) (before : Writer) (s : Schema) (batches : List BatchRows)
    (last : BatchRows) (x : List ℕ) → AreAbove options t (batches ++ last ∷ []) → ExceedsRest options room t before s batches last x
exceeds_counted options room total.Batches before s batches last x above = above
exceeds_counted options room total.Rows before s batches last x above = above
exceeds_counted options room total.Bytes before s batches last x above = absurd above

module _ (options : RewriteOptions) (count rows : ℕ) (old now new : Reader) (before after : Writer) (room left : Option ℕ)
    (b : Copied options count rows old now before after room left) where
  -- the batch that came, under the limits that the reader was opened with
  came : (found : ReadRows) → (t : NextCall now new (Ok (Some found))) → (new.phase ≡ Reading) × Came old.limits now new t.x found
  came found t =
      let h = gave now new now.phase new.phase t.x found b.reading t.gives in
      let e = batch (batch_rows found) in
      let count : ℕ = suc (messages_in h.1.last.run) in (
        h.0,
        record {
          count = count;
          run = subst (λ limits. Counted limits (Some (in_force_of now)) t.x (e ∷ []) (Some (in_force_of new)) count) b.same_limits
              (told_counted (Some (in_force_of now)) (Some (in_force_of new)) t.x e h.1.last);
          messages = h.1.messages;
        },
      )

  -- the batches before and the one that came
  all_came : (found : ReadRows) (t : NextCall now new (Ok (Some found)))
      → Counted old.limits (Some (in_force_of old)) (b.x ++ t.x) (map batch (b.batches ++ batch_rows found ∷ [])) (Some (in_force_of new))
      (messages_in b.run + (came found t).1.count)
  all_came found t =
      let c = (came found t).1 in
      counted_then old.limits (Some (in_force_of old)) (Some (in_force_of now)) (Some (in_force_of new)) b.batches (batch_rows found) b.x
      t.x
      c.count b.run c.run

  counted_more : (found : ReadRows) (t : NextCall now new (Ok (Some found))) (k : ℕ) → old.messages ≡ count_up 0 k
      → new.messages ≡ count_up 0 (k + messages_in (all_came found t).0)
  counted_more found t k is = omega (arith, b.counted k is, (came found t).1.messages, (all_came found t).1)

  -- what is true of the writer's limits, its schema and what it sent is true of those that it had, with these batches
  as_before : (P : OpenStreamState → Type 0) → P (record {
    limits = after.limits;
    schema = after.schema;
    kept = after.kept;
    seed =
        after.seed;
  })
      → P (record {
        limits = before.limits;
        schema = old.schema;
        kept = kept_after old.schema.fields before.kept b.batches;
        seed = after.seed;
      })
  as_before P h = subst P (λ i. record { limits = b.sent_limits i; schema = b.sent_schema i; kept = b.kept i; seed = after.seed }) h

  -- where one batch more is read and sent, the batches that were sent are those from before and it
  pub copied_more : (found : ReadRows) (next : Writer) (rest : Option ℕ) (batches_then rows_then : ℕ)
      → batches_then ≡ count_up count 1 → rows_then ≡ count_up rows (length (batch_rows found).rows)
      → AreWithin options (b.batches ++ batch_rows found ∷ []) → NextCall now new (Ok (Some found)) → new.failures ≡ now.failures
      → SendsWhole after left (batch_rows found) next rest → Copied options batches_then rows_then old new before next room rest
  copied_more found next rest batches_then rows_then one more within t works h =
      let sent = h.sent in
      let sent_here = as_before (λ w. SendsBatch w.limits w.schema w.kept (batch_rows found) sent.x) sent.whole in
      let accepts_here = as_before (λ w. AcceptsBatch w.limits w.schema (batch_rows found)) h.accepts in
      let kept_here = as_before (λ w. next.kept ≡ kept_after w.schema.fields w.kept (batch_rows found ∷ [])) h.kept in
      record {
        x = b.x ++ t.x;
        batches = b.batches ++ batch_rows found ∷ [];
        bytes = Consumes-trans old.remaining now.remaining new.remaining b.x t.x b.bytes t.bytes;
        run = (all_came found t).0;
        reading = (came found t).0;
        same = t.same_schema ∙ b.same;
        same_limits = t.same_limits ∙ b.same_limits;
        source_works = works ∙ b.source_works;
        counted = counted_more found t;
        accepts = all_last (AcceptsBatch before.limits old.schema) b.batches (batch_rows found) b.accepts accepts_here;
        sent = record {
          x = b.sent.x ++ sent.x;
          whole = batches_more before.limits old.schema before.kept b.batches (batch_rows found) b.sent.x sent.x b.sent.whole sent_here;
          bytes = Appends-trans before.written after.written next.written b.sent.x sent.x b.sent.bytes sent.bytes;
          worked = b.sent.worked;
          works = sent.works;
        };
        takes = takes_more room left rest b.sent.x sent.x b.takes h.takes;
        sent_schema = h.same_schema ∙ b.sent_schema;
        sent_limits = h.same_limits ∙ b.sent_limits;
        kept = kept_here ∙ sym (kept_then old.schema.fields before.kept b.batches (batch_rows found ∷ []));
        works = h.works;
        batches_are =
            let long = count_last b.batches (batch_rows found) in omega (arith, b.batches_are, one, long);
        rows_are =
            let all = rows_last b.batches (batch_rows found) in omega (arith, b.rows_are, more, all);
        within = within;
      }

  -- where the batch that came is refused, it is the last that was read, and those before it were sent
  pub copied_refused : (found : ReadRows) (next : Writer) (fault : WriteFault) → AreWithin options (b.batches ++ batch_rows found ∷ [])
      → NextCall now new (Ok (Some found)) → RefusesWrite after left (batch_rows found) next fault
      → RefusesLast options old new before next fault
  copied_refused found next fault within t h = record {
    x = b.x ++ t.x;
    batches = b.batches;
    last = batch_rows found;
    bytes = Consumes-trans old.remaining now.remaining new.remaining b.x t.x b.bytes t.bytes;
    run = (all_came found t).0;
    within = within;
    accepts = b.accepts;
    between = after.written;
    failures = after.failures;
    sent = b.sent;
    refuses = as_before (λ w. RefusesBatch w.limits w.schema (batch_rows found) fault) h.refuses;
    unsent = as_before (λ w. NotSentWhole (SendsBatch w.limits w.schema w.kept (batch_rows found)) after.written next.written after.failures
        next.failures fault) h.unsent;
  }

  -- where the batch that came would exceed a total of counts, those before it were sent
  pub copied_above : (found : ReadRows) (t : Total) (number : ℕ) → number ≡ count
      → AreAbove options t (b.batches ++ batch_rows found ∷ []) → NextCall now new (Ok (Some found))
      → StopsAtLast options room old new before after t number
  copied_above found total number same above t = record {
    x = b.x ++ t.x;
    batches = b.batches;
    last = batch_rows found;
    bytes = Consumes-trans old.remaining now.remaining new.remaining b.x t.x b.bytes t.bytes;
    run = (all_came found t).0;
    counted = same ∙ b.batches_are;
    within = b.within;
    accepts = b.accepts;
    sent = b.sent;
    above = exceeds_counted options room total before old.schema b.batches (batch_rows found) b.sent.x above;
  }

  -- where its messages have more bytes than may be written, too
  pub copied_full : (found : ReadRows) (next : Writer) (number : ℕ) → number ≡ count → NextCall now new (Ok (Some found))
      → HasNoRoom after left (batch_rows found) next → StopsAtLast options room old new before next total.Bytes number
  copied_full found next number same t h = record {
    x = b.x ++ t.x;
    batches = b.batches;
    last = batch_rows found;
    bytes = Consumes-trans old.remaining now.remaining new.remaining b.x t.x b.bytes t.bytes;
    run = (all_came found t).0;
    counted = same ∙ b.batches_are;
    within = b.within;
    accepts = b.accepts;
    sent = record {
      x = b.sent.x;
      whole = b.sent.whole;
      bytes = subst (λ o. Appends before.written o b.sent.x) (sym h.same_written) b.sent.bytes;
      worked = b.sent.worked;
      works = h.same_failures ∙ b.sent.works;
    };
    above = (
      h.x,
      as_before (λ w. SendsBatch w.limits w.schema w.kept (batch_rows found) h.x) h.whole,
      room_less room left (length b.sent.x) (length h.x) b.takes h.above,
    );
  }

  -- the messages that tell nothing behind the batches, and how many all are
  behind : (y : List ℕ) (r : Result End Fault) (h : EndsAfter now new y r)
      → Counted old.limits (Some (in_force_of old)) (b.x ++ h.whole) (map batch b.batches) (Some (in_force_of new))
      (messages_in b.run + messages_in h.run)
  behind y r h =
      let here = subst (λ limits. Counted limits (Some (in_force_of now)) h.whole [] (Some (in_force_of new)) (messages_in h.run))
      b.same_limits (h.run, refl) in
      let both = messages_then (Some (in_force_of old)) (Some (in_force_of now)) (Some (in_force_of new)) b.x h.whole (map batch b.batches)
      [] b.run here.0 in
      subst (λ es. Counted old.limits (Some (in_force_of old)) (b.x ++ h.whole) es (Some (in_force_of new))
      (messages_in b.run + messages_in h.run)) (append-nil (map batch b.batches)) (
        run_then (Some (in_force_of old)) (Some (in_force_of now)) (Some (in_force_of new)) b.x h.whole (map batch b.batches) [] b.run
            here.0,
        omega (arith, both, here.1),
      )

  -- where reading ends behind the batches that were sent, so much was read and sent
  rest : (y : List ℕ) (r : Result End Fault) → Consumes now.remaining new.remaining y → EndsAfter now new y r
      → CopiesRest options old new before after r
  rest y r bytes h = record {
    x = b.x ++ y;
    batches = b.batches;
    bytes = Consumes-trans old.remaining now.remaining new.remaining b.x y b.bytes bytes;
    reads = record {
      state = Some (in_force_of new);
      whole = b.x ++ h.whole;
      rest = h.rest;
      joined = ap (λ z. b.x ++ z) h.joined ∙ sym (append_assoc b.x h.whole h.rest);
      run = (behind y r h).0;
      ends = subst (λ limits. Ends limits (Some (in_force_of new)) h.rest new.remaining r) b.same_limits h.ends;
    };
    counted = λ k is. omega (arith, b.counted k is, h.messages, (behind y r h).1);
    within = b.within;
    accepts = b.accepts;
    sent = b.sent;
  }

  -- where the stream's end is read, all its batches were sent
  copied_rest : (found : Option End) (e : End) → NextCall now new (Ok None) → found ≡ end_of new.phase → found ≡ Some e
      → CopiesRest options old new before after (Ok e)
  copied_rest found e t is given =
      let h = ended now new now.phase new.phase t.x b.reading t.gives in
      let both : Some e ≡ Some h.0 = sym given ∙ (is ∙ ap end_of h.2) in
      let same : e ≡ h.0 = cc in
      subst (λ (e : End). CopiesRest options old new before after (Ok e)) (sym same) (rest t.x (Ok h.0) t.bytes h.1)

  -- also where the mark is required and there is one
  pub copied_end : (found : Option End) (e f : End) → NextCall now new (Ok None) → found ≡ end_of new.phase
      → found ≡ Some e → as_required options.require_mark (Ok e) ≡ Ok f
      → CopiesBatches options room old new before after (Ok new.messages)
  copied_end found e f t is given ends = (e, copied_rest found e t is given, marked options.require_mark e f ends, refl)

  -- where it has no mark, that is the fault
  pub copied_unmarked : (found : Option End) (e : End) (fault : Fault) → NextCall now new (Ok None) → found ≡ end_of new.phase
      → found ≡ Some e → as_required options.require_mark (Ok e) ≡ Err fault
      → CopiesBatches options room old new before after (Err (stop.Read fault new.messages))
  copied_unmarked found e fault t is given ends = (Ok e, copied_rest found e t is given, ends, refl)

  -- where reading breaks off, all batches before were sent
  pub copied_break : (why : ReadStop) → NextCall now new (Err (fault_of why))
      → CopiesBatches options room old new before after (Err (stop_of_reading why new.messages))
  copied_break (read_stop.Refused fault) t =
      (Err fault, rest t.x (Err fault) t.bytes (broke now new now.phase new.phase t.x fault b.reading t.gives), refl, refl)
  copied_break read_stop.Held t =
      (Err Read, rest t.x (Err Read) t.bytes (broke now new now.phase new.phase t.x Read b.reading t.gives), refl, refl)
