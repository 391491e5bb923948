-- Batches that are read and printed.
use Rattle.ipc_model.specs.declared.table.BatchRows.{BatchRows}
use Rattle.std.proofs.Common.{◌≡◌, ◌∙◌, refl, sym, ap, subst, ℕ, List, [], ◌∷◌, ◌++◌, map, take, Option, Some}
use Rattle.std.proofs.Common.{None, Result, Ok, Err, append-nil, ◌+◌, ◌<◌, length, arith}
use Rattle.std.specs.Io.KnownBytes.{Consumes}
use Rattle.std.proofs.KnownBytes.{Consumes-nil, Consumes-trans}
use Rattle.std.proofs.lemmas.List.{length-append, length-take, map-append}
use Rattle.ipc_model.specs.declared.fault.Fault.{Fault}
use Rattle.ipc_model.specs.declared.value.Value.{Value}
use Rattle.ipc_stream_read.specs.Found.{ReadRows, batch_rows}
use Rattle.ipc_stream_read.specs.declared.end.End.{End}
use Rattle.ipc_stream_read.specs.Reader.{Reading}
use Rattle.ipc_stream_read.specs.Failures.{CountsFault}
use Rattle.ipc_stream_read.specs.Reader.{EndsAfter, Reader, in_force_of, NextCall, end_of}
use Rattle.ipc_stream_read.specs.Stream.{batch, done}
use Rattle.job_print.specs.declared.line_buffer.PrintFault.{PrintFault}
use Rattle.job_print.specs.declared.line_buffer.PrintFault.TheVariants.{Write}
use Rattle.ipc_model.specs.declared.schema.Field.{Field}
use Rattle.ipc_model.specs.declared.schema.Schema.{Schema}
use Rattle.ipc_text_temporal.specs.declared.fault.TextFault.{TextFault}
use Rattle.job_print.specs.declared.form.PrintOptions.{PrintOptions}
use Rattle.job_print.specs.declared.stop.Outcome.TheVariants.{Whole, Limited, Broken, Held, Refused as Lacking}
use Rattle.job_print.specs.FirstRows.{batch_prefix, within, HasReached, WantsMoreRows, wanted_rows}
use Rattle.job_print.specs.Forms.{batch_heading as heading, line_of, HaveLines, HaveAllLines, row_count}
use Rattle.job_print.specs.Output.{Output, output, Puts, PutFails}
use Rattle.job_print.specs.Rows.{lines, batch_lines, last_lines}
use Rattle.ipc_stream_read.specs.Decoding.{ReportsLastEvent}
use Rattle.job_print.proofs.streams.Shortest.{last_shortest, none_shorter}
use Rattle.job_print.specs.Streams.{AreShortest, BatchesWanted, IsTally, PrintsRows, PrintsPart, PrintsBatches, PutsRows}
use Rattle.ipc_stream_read.specs.Ends.{as_required}
use Rattle.job_print.proofs.streams.FirstRows.{within_none, within_all, within_more, wanted_more, wanted_none, below_refused}
use Rattle.job_print.proofs.streams.FirstRows.{refuses_all, row_count_last, take_fewer}
use Rattle.job_print.proofs.Puts.{puts_then, puts_not_then, puts_none, missing_all, missing_at, missing_then}
use Rattle.job_print.proofs.Shown.{all_more}
use Rattle.job_print.proofs.FrontPuts.{part_read}
use Rattle.job_print.proofs.Lines.{put_at, not_at}
use Rattle.job_print.proofs.streams.Messages.{Came, Counted, ReadsCounted, came, counted_then, broke, ended, ends_counted, gave, reads_then}
use Rattle.job_print.proofs.texts.Texts.{batch_lines_more, last_lines_more}
use Rattle.std.specs.Prelude.{Bool, IsTrue, false, true}
use Rattle.ipc_stream_read.specs.declared.end.End.TheVariants.{Closed, Mark}
use Rattle.ipc_model.specs.declared.fault.Fault.TheVariants.{Read, Truncated}
use Rattle.ipc_stream_read.specs.Counts.{count_up, messages_in}
use Rattle.job_print.specs.declared.stop.PrintCounts.{PrintCounts}

-- these batches were read after the schema and printed up to the limit, and nothing of them is kept
pub record Batches (options : PrintOptions) (tally : PrintCounts) (old now : Reader) (before after : Output) : Type 0 where
  pub read : BatchesWanted options old now (Some (in_force_of now))
  pub open read use *
  pub reading : now.phase ≡ Reading
  pub same : now.schema ≡ old.schema
  pub same_limits : now.limits ≡ old.limits
  pub counts : now.failures ≡ old.failures
  pub counted : (k : ℕ) → old.taken ≡ count_up 0 k → now.taken ≡ count_up 0 (k + length x)
  pub numbered : (k : ℕ) → old.messages ≡ count_up 0 k → now.messages ≡ count_up 0 (k + messages_in run)
  pub tallies : IsTally tally batches
  pub puts : Puts before after
      (batch_lines (heading options.form) (line_of options.form old.schema.fields) (within options.limit batches))
  pub sent : after.kept ≡ []

-- an end that is taken where the mark is required is the mark
marked : (mark : Bool) (e f : End) → as_required mark (Ok e) ≡ Ok f → IsTrue mark → e ≡ Mark
marked mark Mark f is required = refl
marked true Closed f is required = absurd (cc)
marked false Closed f is required = absurd (cc)

-- one that is not is no failure of the source
no_read : (mark : Bool) (e : End) (f : Fault) → as_required mark (Ok e) ≡ Err f → f ≡ Read → ⊥
no_read mark Mark f is read = cc
no_read true Closed f is read = let bad : Truncated ≡ Read = cc in cc
no_read false Closed f is read = cc

zero_more : (k : ℕ) → k + 0 ≡ k
zero_more k = omega arith

-- before the first batch nothing was read and nothing printed
pub batches_none : (options : PrintOptions) (r : Reader) (o : Output) → r.phase ≡ Reading → o.kept ≡ []
    → Batches options (record { batches = 0; rows = 0 }) r r o o
batches_none options r o reading empty = record {
  read = record {
    x = [];
    batches = [];
    bytes = Consumes-nil r.remaining;
    run = done;
    shortest = none_shorter (Some (in_force_of r));
    wanted = wanted_none options.limit;
    have = subst (HaveAllLines options.form r.schema.fields) (sym (within_none options.limit)) tt;
  };
  reading = reading;
  same = refl;
  same_limits = refl;
  counts = refl;
  counted = λ k is. is ∙ ap (count_up 0) (sym (zero_more k));
  numbered = λ k is. is ∙ ap (count_up 0) (sym (zero_more k));
  tallies = (omega arith, omega arith);
  puts = put_at o o _ _
      (ap (batch_lines (heading options.form) (line_of options.form r.schema.fields)) (sym (within_none options.limit))) (puts_none o);
  sent = empty;
}

-- where the batches that were printed reach the limit, its rows were
pub batches_limited : (options : PrintOptions) (tally : PrintCounts) (old now : Reader) (before after : Output)
    → Batches options tally old now before after → HasReached options.limit tally.rows
    → PrintsBatches options [] old now before after (Ok Limited)
batches_limited options tally old now before after b reached = (
  record {
    state = Some (in_force_of now);
    read = b.read;
    reached = reached_tally options.limit tally.rows (row_count b.batches) b.tallies.1 reached;
    puts = b.puts;
    sent = b.sent;
  },
  λ z. b.counts ∙ z,
)
  where
    reached_tally : (limit : Option ℕ) (counted rows : ℕ) → counted ≡ count_up 0 rows → HasReached limit counted → HasReached limit rows
    reached_tally None counted rows is reached = reached
    reached_tally (Some n) counted rows is reached = omega (arith, is, reached)

-- one batch more is counted
tally_more : (tally next : PrintCounts) (batches : List BatchRows) (rows : BatchRows) → IsTally tally batches
    → next.batches ≡ count_up tally.batches 1 → next.rows ≡ count_up tally.rows (length rows.rows) → IsTally next (batches ++ rows ∷ [])
tally_more tally next batches rows (some, few) one all =
    (omega (arith, some, one, length-append batches (rows ∷ [])), omega (arith, few, all, row_count_last batches rows))

module _ (options : PrintOptions) (tally : PrintCounts) (old now new : Reader) (before after : Output)
    (b : Batches options tally old now before after) (below : WantsMoreRows options.limit (row_count b.batches)) where
  abbrev line : List Value → List ℕ
  line = line_of options.form old.schema.fields

  -- all rows of the batches before were printed
  all_before : within options.limit b.batches ≡ b.batches
  all_before = within_all options.limit b.batches below

  puts_before : Puts before after (batch_lines (heading options.form) line b.batches)
  puts_before = put_at before after _ _ (ap (batch_lines (heading options.form) line) all_before) b.puts

  have_before : HaveAllLines options.form old.schema.fields b.batches
  have_before = subst (HaveAllLines options.form old.schema.fields) all_before b.have

  -- the batch that came, with its rows up to the limit, and the text of it after that of the batches before
  abbrev pub IsCount : ReadRows → ℕ → Type 0
  IsCount found count = count ≡ wanted_rows options.limit (row_count b.batches) (length found.0.rows)

  all_now : (found : ReadRows) (count : ℕ) → IsCount found count
      → within options.limit (b.batches ++ batch_rows found ∷ []) ≡ b.batches ++ batch_prefix count (batch_rows found) ∷ []
  all_now found count is = within_more options.limit b.batches (batch_rows found) count below is

  text_now : (found : ReadRows) (count : ℕ) → IsCount found count
      → batch_lines (heading options.form) line b.batches ++ (heading options.form found.1 ++ lines line (take count found.0.rows))
      ≡ batch_lines (heading options.form) line (within options.limit (b.batches ++ batch_rows found ∷ []))
  text_now found count is = batch_lines_more line (heading options.form) b.batches (batch_prefix count (batch_rows found))
      ∙ ap (batch_lines (heading options.form) line) (sym (all_now found count is))

  -- the batch that came, under the limits that the reader was opened with
  found_run : (found : ReadRows) → (t : NextCall now new (Ok (Some found)))
      → (new.phase ≡ Reading) × Came old.limits now new t.x (batch_rows found)
  found_run found t =
      let h = gave now new now.phase new.phase t.x found b.reading t.gives in
      (h.0, subst (λ limits. Came limits now new t.x (batch_rows found)) b.same_limits (came now new t.x (batch_rows found) h.1))

  -- the messages of the batches before, and of the one that came
  more_run : (found : ReadRows) (t : NextCall now new (Ok (Some found)))
      → Counted old.limits (Some (in_force_of old)) (b.x ++ t.x) (map batch (b.batches ++ batch_rows found ∷ [])) (Some (in_force_of new))
      (messages_in b.run + (found_run found t).1.count)
  more_run found t =
      let came = (found_run found t).1 in
      subst (λ es. Counted old.limits (Some (in_force_of old)) (b.x ++ t.x) es (Some (in_force_of new)) (messages_in b.run + came.count))
      (sym (map-append batch b.batches (batch_rows found ∷ [])))
      (counted_then _ _ _ b.x t.x (map batch b.batches) (batch (batch_rows found) ∷ []) _ _ (b.run, refl) came.run)

  -- no shorter messages are those of these batches
  more_shortest : (found : ReadRows) (t : NextCall now new (Ok (Some found)))
      → AreShortest old.limits (Some (in_force_of old)) (b.x ++ t.x) (map batch (b.batches ++ batch_rows found ∷ []))
  more_shortest found t =
      let h = gave now new now.phase new.phase t.x found b.reading t.gives in
      let last = subst (λ limits. ReportsLastEvent limits (Some (in_force_of now)) t.x (batch (batch_rows found)) (Some (in_force_of new)))
      b.same_limits h.1.last in
      subst (AreShortest old.limits (Some (in_force_of old)) (b.x ++ t.x)) (sym (map-append batch b.batches (batch_rows found ∷ [])))
      (last_shortest (Some (in_force_of old)) (Some (in_force_of now)) (Some (in_force_of new)) b.x t.x (map batch b.batches)
      (batch (batch_rows found)) b.run last)

  -- what was put of a batch, by the fields that are in force
  same_puts : (fields : List Field) (found : ReadRows) (count : ℕ) (w : Option (List ℕ)) (n : ℕ) (k : List ℕ)
      (r : Result (Option TextFault) PrintFault) → fields ≡ new.schema.fields → NextCall now new (Ok (Some found))
      → PutsRows options.form fields (heading options.form found.1) (take count found.0.rows) after w n k r
      → PutsRows options.form old.schema.fields (heading options.form found.1) (take count found.0.rows) after w n k r
  same_puts fields found count w n k r is t p =
      subst (λ (fs : List Field). PutsRows options.form fs (heading options.form found.1) (take count found.0.rows) after w n k r)
      (is ∙ ap (λ (s : Schema). s.fields) (t.same_schema ∙ b.same)) p

  counted_more : (found : ReadRows) (t : NextCall now new (Ok (Some found))) (k : ℕ) → old.taken ≡ count_up 0 k
      → new.taken ≡ count_up 0 (k + length (b.x ++ t.x))
  counted_more found t k is = omega (arith, b.counted k is, length-append b.x t.x, t.counted)

  numbered_more : (found : ReadRows) (t : NextCall now new (Ok (Some found))) (k : ℕ) → old.messages ≡ count_up 0 k
      → new.messages ≡ count_up 0 (k + messages_in (more_run found t).0)
  numbered_more found t k is = omega (arith, b.numbered k is, (found_run found t).1.messages, (more_run found t).1)

  -- where one batch more is read, its rows are put and what is kept is sent, the batches that were printed are those from before and it
  pub batches_more : (fields : List Field) (found : ReadRows) (count : ℕ) (next : PrintCounts) (w : Option (List ℕ)) (n : ℕ) (k : List ℕ)
      (last : Output) → IsCount found count → next.batches ≡ count_up tally.batches 1
      → next.rows ≡ count_up tally.rows (length found.0.rows)
      → fields ≡ new.schema.fields → NextCall now new (Ok (Some found)) → new.failures ≡ now.failures
      → PutsRows options.form fields (heading options.form found.1) (take count found.0.rows) after w n k (Ok None)
      → Puts (output w n k) last [] → last.kept ≡ [] → Batches options next old new before last
  batches_more fields found count next w n k last wants one all is t works p flushed empty =
      let q = same_puts fields found count w n k (Ok None) is t p in
      let rows = heading options.form found.1 ++ lines line (take count found.0.rows) in
      record {
        read = record {
          x = b.x ++ t.x;
          batches = b.batches ++ batch_rows found ∷ [];
          bytes = Consumes-trans old.remaining now.remaining new.remaining b.x t.x b.bytes t.bytes;
          run = (more_run found t).0;
          shortest = more_shortest found t;
          wanted = wanted_more options.limit b.batches (batch_rows found) below;
          have = subst (HaveAllLines options.form old.schema.fields) (sym (all_now found count wants))
              (all_more (λ q. HaveLines options.form old.schema.fields q.rows) b.batches (batch_prefix count (batch_rows found)) have_before
              q.0);
        };
        reading = (found_run found t).0;
        same = t.same_schema ∙ b.same;
        same_limits = t.same_limits ∙ b.same_limits;
        counts = works ∙ b.counts;
        counted = counted_more found t;
        numbered = numbered_more found t;
        tallies = tally_more tally next b.batches (batch_rows found) b.tallies one all;
        puts = put_at before last _ _ (text_now found count wants)
            (puts_then before after last (batch_lines (heading options.form) line b.batches) rows puts_before
            (put_at after last _ _ (append-nil rows) (puts_then after (output w n k) last rows [] q.1 flushed)));
        sent = empty;
      }

  -- a row of the batch that came isn't printed, and those before it were
  pub batches_refused : (fields : List Field) (found : ReadRows) (count : ℕ) (w : Option (List ℕ)) (n : ℕ) (k : List ℕ) (fault : TextFault)
      → IsCount found count → fields ≡ new.schema.fields → NextCall now new (Ok (Some found)) → new.failures ≡ now.failures
      → PutsRows options.form fields (heading options.form found.1) (take count found.0.rows) after w n k (Ok (Some fault))
      → PrintsBatches options [] old new before (output w n k) (Ok (Lacking fault))
  batches_refused fields found count w n k fault wants is t works p =
      let q = same_puts fields found count w n k (Ok (Some fault)) is t p in
      let size = length-take count found.0.rows in
      let less : q.0 < count = omega (arith, q.1.inside, size) in
      let fewer = take_fewer q.0 count found.0.rows (omega (arith, q.1.inside)) in
      let put =
      subst (λ (rows : List (List Value)). Puts after (output w n k) (heading options.form found.1 ++ lines line rows)) fewer q.2 in (
        record {
          read = record {
            x = b.x ++ t.x;
            batches = b.batches;
            last = batch_rows found;
            count = q.0;
            bytes = Consumes-trans old.remaining now.remaining new.remaining b.x t.x b.bytes t.bytes;
            state = Some (in_force_of new);
            run = (more_run found t).0;
            below = below_refused options.limit (row_count b.batches) count (length found.0.rows) q.0 below wants less;
            have = have_before;
            refuses = refuses_all options.form old.schema.fields found.0.rows count q.0 fault q.1;
          };
          puts = puts_then before after (output w n k) (batch_lines (heading options.form) line b.batches) _ puts_before put;
          few = omega (
            arith,
            put.few,
            ap length b.sent,
            length-append after.kept (heading options.form found.1 ++ lines line (take q.0 found.0.rows)),
          );
        },
        λ z. works ∙ (b.counts ∙ z),
      )

  -- the rows of the batch that came weren't all printed
  pub batches_cut : (fields : List Field) (found : ReadRows) (count : ℕ) (w : Option (List ℕ)) (n : ℕ) (k : List ℕ) (e : PrintFault)
      → IsCount found count → fields ≡ new.schema.fields → NextCall now new (Ok (Some found)) → new.failures ≡ now.failures
      → PutsRows options.form fields (heading options.form found.1) (take count found.0.rows) after w n k (Err e)
      → PrintsPart options [] old new before w n e
  batches_cut fields found count w n k e wants is t works p =
      let q = same_puts fields found count w n k (Err e) is t p in
      let rows = heading options.form found.1 ++ lines line (take count found.0.rows) in
      let missing = missing_at before w n _ _ e (length rows) (text_now found count wants ∙ sym (append-nil _))
      (missing_then before after w n (batch_lines (heading options.form) line b.batches) rows e (length rows) puts_before
      (missing_all after w n rows e b.sent q)) in
      part_read options [] old new before w n e (b.x ++ t.x) (b.batches ++ batch_rows found ∷ []) (Some (in_force_of new))
      (Consumes-trans old.remaining now.remaining new.remaining b.x t.x b.bytes t.bytes) (more_run found t).0
      (wanted_more options.limit b.batches (batch_rows found) below) missing.0
      (omega (
        arith,
        missing.1,
        ap (λ (bs : List BatchRows). length (last_lines [] (heading options.form) line bs)) (all_now found count wants),
        ap length (last_lines_more line (heading options.form) [] b.batches (batch_prefix count (batch_rows found))),
      )) (λ other z. works ∙ (b.counts ∙ z))

  -- they were, and what is kept was not sent
  pub batches_unsent : (fields : List Field) (found : ReadRows) (count : ℕ) (w v : Option (List ℕ)) (n m : ℕ) (k : List ℕ)
      → IsCount found count → fields ≡ new.schema.fields → NextCall now new (Ok (Some found)) → new.failures ≡ now.failures
      → PutsRows options.form fields (heading options.form found.1) (take count found.0.rows) after w n k (Ok None)
      → PutFails (output w n k) v m [] Write → PrintsPart options [] old new before v m Write
  batches_unsent fields found count w v n m k wants is t works p q =
      let rows = heading options.form found.1 ++ lines (line_of options.form fields) (take count found.0.rows) in
      batches_cut fields found count v m [] Write wants is t works
      (not_at after v m _ _ Write (append-nil rows) (puts_not_then after (output w n k) v m rows [] Write p.1 q))

  behind : (y : List ℕ) (r : Result End Fault) (h : EndsAfter now new y r)
      → ReadsCounted old.limits (Some (in_force_of old)) (b.x ++ y) new.remaining (map batch b.batches) r
      (messages_in b.run + messages_in h.run)
  behind y r h =
      subst (λ es. ReadsCounted old.limits (Some (in_force_of old)) (b.x ++ y) new.remaining es r (messages_in b.run + messages_in h.run))
      (append-nil (map batch b.batches)) (reads_then _ _ b.x y new.remaining (map batch b.batches) [] r _ _ (b.run, refl)
      (subst (λ limits. ReadsCounted limits (Some (in_force_of now)) y new.remaining [] r (messages_in h.run)) b.same_limits
      (ends_counted now new y r h)))

  printed : (y : List ℕ) (r : Result End Fault) → Consumes now.remaining new.remaining y → new.taken ≡ count_up now.taken (length y)
      → EndsAfter now new y r → PrintsRows options [] old new before after r
  printed y r bytes more h = record {
    read = record {
      x = b.x ++ y;
      batches = b.batches;
      bytes = Consumes-trans old.remaining now.remaining new.remaining b.x y b.bytes bytes;
      reads = (behind y r h).0;
      counted = λ k is. omega (arith, b.counted k is, length-append b.x y, more);
      numbered = λ k is. omega (arith, b.numbered k is, h.messages, (behind y r h).1);
      below = below;
      have = have_before;
    };
    puts = puts_before;
    sent = b.sent;
  }

  ended_rows : (found : Option End) (e : End) → NextCall now new (Ok None) → found ≡ end_of new.phase → found ≡ Some e
      → (rows : PrintsRows options [] old new before after (Ok e)) × IsTally tally rows.batches
  unfolding printed
  ended_rows found e t is given =
      let h = ended now new now.phase new.phase t.x b.reading t.gives in
      let both : Some e ≡ Some h.0 = sym given ∙ (is ∙ ap end_of h.2) in
      let same : e ≡ h.0 = cc in
      subst (λ (e : End). (rows : PrintsRows options [] old new before after (Ok e)) × IsTally tally rows.batches) (sym same)
      (printed t.x (Ok h.0) t.bytes t.counted h.1, b.tallies)

  -- where the end is read after the batches that were printed, all rows of the stream were
  pub batches_end : (found : Option End) (e f : End) → NextCall now new (Ok None) → new.failures ≡ now.failures → found ≡ end_of new.phase
      → found ≡ Some e → as_required options.require_mark (Ok e) ≡ Ok f
      → PrintsBatches options [] old new before after (Ok (Whole e tally))
  batches_end found e f t works is given ends =
      (ended_rows found e t is given, marked options.require_mark e f ends, λ z. works ∙ (b.counts ∙ z))

  -- where it has no mark, that is the fault
  pub batches_unmarked : (found : Option End) (e : End) (f : Fault) → NextCall now new (Ok None) → new.failures ≡ now.failures
      → found ≡ end_of new.phase → found ≡ Some e → as_required options.require_mark (Ok e) ≡ Err f
      → PrintsBatches options [] old new before after (Ok (Broken f))
  batches_unmarked found e f t works is given ends = (
    Ok e,
    (ended_rows found e t is given).0,
    ends,
    record { failed = λ read. absurd (no_read options.require_mark e f ends read); stayed = λ other. works ∙ b.counts },
  )

  -- where a fault is read after the batches that were printed, their rows were, and the answer is the fault
  pub batches_break : (f : Fault) → NextCall now new (Err f) → CountsFault now.failures new.failures f
      → PrintsBatches options [] old new before after (Ok (Broken f))
  batches_break f t tells = (
    Err f,
    printed t.x (Err f) t.bytes t.counted (broke now new now.phase new.phase t.x f b.reading t.gives),
    refl,
    record { failed = tells.failed; stayed = λ other. tells.stayed other ∙ b.counts },
  )

  -- where more would be held, it is as where the source fails
  pub batches_held : NextCall now new (Err Read) → new.failures ≡ now.failures
      → PrintsBatches options [] old new before after (Ok Held)
  batches_held t same = (
    Err Read,
    printed t.x (Err Read) t.bytes t.counted (broke now new now.phase new.phase t.x Read b.reading t.gives),
    refl,
    same ∙ b.counts,
  )
