-- A whole stream, from its schema on.
use Rattle.ipc_model.specs.declared.table.BatchRows.{BatchRows}
use Rattle.std.proofs.Common.{refl, ◌≡◌, ◌≢◌, ◌∙◌, sym, ap, subst, ℕ, inl, inr, List, [], ◌∷◌, ◌++◌, map, take, drop, Option, Some, None}
use Rattle.std.proofs.Common.{Result, Ok, Err, append_assoc, append-nil, arith, ◌+◌}
use Rattle.std.specs.Prelude.{length}
use Rattle.std.specs.Io.KnownBytes.{Appends, Consumes, IsAtEnd, Keeps}
use Rattle.std.proofs.KnownBytes.{Consumes-trans, Keeps-refl}
use Rattle.ipc_model.specs.declared.fault.Fault.{Fault}
use Rattle.ipc_model.specs.declared.fault.Fault.TheVariants.{Read}
use Rattle.ipc_model.specs.declared.table.Table.{Table}
use Rattle.ipc_model.specs.declared.value.Value.{Value}
use Rattle.ipc_stream_read.specs.declared.end.End.{End}
use Rattle.ipc_stream_read.specs.declared.end.End.TheVariants.{Mark, Closed}
use Rattle.ipc_stream_read.specs.Reader.{Reader, in_force_of, Opens, OpenFails}
use Rattle.ipc_stream_read.specs.Reasons.{Reads, Ends}
use Rattle.ipc_stream_read.specs.Stream.{State, MessageEvent, schema, batch, initial_state, Run, Denotes, OpensStream, events_of}
use Rattle.ipc_model.specs.declared.fault.WriteFault.{WriteFault}
use Rattle.ipc_model.specs.Numbering.{write_fault_status}
use Rattle.ipc_text_temporal.specs.declared.fault.TextFault.{TextFault}
use Rattle.job_print.specs.declared.form.PrintOptions.{PrintOptions}
use Rattle.job_print.specs.declared.line_buffer.PrintFault.{PrintFault}
use Rattle.job_print.specs.declared.line_buffer.PrintFault.TheVariants as p
use Rattle.job_print.specs.declared.stop.PrintStop.{PrintStop}
use Rattle.job_print.specs.declared.stop.PrintStop.TheVariants as stop
use Rattle.job_print.specs.FirstRows.{batch_prefix, within, WantsMoreRows, wanted_rows}
use Rattle.job_print.specs.Forms.{row_count, form_fault, front_text, batch_heading, line_of, tail_text}
use Rattle.ipc_stream_read.specs.Counts.{count_up, messages_in}
use Rattle.job_print.specs.Output.{Output, output, AppendsText, Puts, PutFails}
use Rattle.job_print.specs.Rows.{lines}
use Rattle.job_print.specs.Streams.{PrintsTable, PrintsFirst, EndsPrinting, unopened, broken, StopsPrinting, unfit, refused, PrintsStream}
use Rattle.job_print.specs.Streams.{AreLast, AreShortest, PrintsSome, alone, some, unread, Prints, PrintsLimited, PrintsRows, PrintsPart}
use Rattle.job_print.specs.Streams.{StopsAtRow, write_fault, PrintsSchema, stream_text, last_batch_text, schema_line}
use Rattle.job_print.proofs.streams.Shortest.{opened_shortest}
use Rattle.job_print.proofs.streams.FirstRows.{below_less, below_within, refused_inside, take_fewer, wanted_more, wanted_within}
use Rattle.job_print.proofs.streams.FirstRows.{within_all, within_more}
use Rattle.job_print.proofs.streams.Messages.{ReadsCounted}
use Rattle.job_print.proofs.Puts.{grows_more, grows_then}
use Rattle.job_print.proofs.texts.Texts.{batches_rest, head_rest, last_lines_more}
use Rattle.std.proofs.lemmas.List.{map-append, length-append}
use Rattle.ipc_stream_read.proofs.Runs.{run_then, reads_after}
use Rattle.ipc_model.specs.declared.limits.Limits.{Limits}

-- where nothing is kept, the sink holds all of the text
grows_appends : (a b : Option (List ℕ)) (t : List ℕ) → AppendsText a [] b [] t → Appends a b t
grows_appends None b t g = tt
grows_appends (Some xs) None t g = absurd g
grows_appends (Some xs) (Some ys) t g = sym (append-nil ys) ∙ (g ∙ ap (λ (l : List ℕ). l ++ t) (append-nil xs))

appends_grows : (a b : Option (List ℕ)) (t : List ℕ) → Appends a b t → AppendsText a [] b [] t
appends_grows None b t g = tt
appends_grows (Some xs) None t g = absurd g
appends_grows (Some xs) (Some ys) t g = append-nil ys ∙ (g ∙ ap (λ (l : List ℕ). l ++ t) (sym (append-nil xs)))

-- whole messages and how reading ended, as what they denote
denotes : {limits : Limits} → (x whole rest : List ℕ) (t : Table) (σ : State) (left : Option (List ℕ)) (end : End) → x ≡ whole ++ rest
    → Run limits None whole (events_of t) σ → Ends limits σ rest left (Ok end) → Denotes limits x t end
denotes {limits} x whole rest t σ left Mark joined run e = (whole, joined ∙ ap (λ (z : List ℕ). whole ++ z) e.0, (σ, run))
denotes {limits} x whole rest t σ left Closed joined run e =
    let all : x ≡ whole = joined ∙ (ap (λ (z : List ℕ). whole ++ z) e.0 ∙ append-nil whole) in
    (σ, subst (λ (y : List ℕ). Run limits None y (events_of t) σ) (sym all) run)

at_end : (limits : Limits) (σ : State) (rest : List ℕ) (left : Option (List ℕ)) (end : End) → Ends limits σ rest left (Ok end)
    → end ≡ Closed → IsAtEnd left
at_end limits σ rest left Mark e is = absurd (cc)
at_end limits σ rest left Closed e is = e.2

-- the events of a table with one batch more
pub one_more : (t : Table) (rows : BatchRows) → schema t.schema ∷ map batch (t.batches ++ rows ∷ []) ≡ events_of t ++ batch rows ∷ []
one_more t rows = ap (λ (es : List MessageEvent). schema t.schema ∷ es) (map-append batch t.batches (rows ∷ []))

-- why rows weren't printed is no refusal
pub no_refusal : (why : PrintFault) → write_fault_status (write_fault why) ≢ 1
no_refusal p.Write is = absurd (omega (arith, is))
no_refusal p.OutOfMemory is = absurd (omega (arith, is))

-- the message that a reader was opened with is a schema's
pub schema_opened : {limits : Limits} → (old : Option (List ℕ)) (s : Reader) (o : Opens limits old s) → OpensStream limits s.schema o.x
schema_opened {limits} old s o =
    let begun_here : in_force_of s ≡ initial_state s.schema = ap (λ d. record { schema = s.schema; dictionaries = d }) o.no_dictionary in
    subst (λ i. Run limits None o.x (schema s.schema ∷ []) (Some i)) begun_here o.run

module _ {limits : Limits} (options : PrintOptions) (old : Option (List ℕ)) (s t : Reader) (o : Opens limits old s)
    (w0 w1 : Option (List ℕ)) (n0 n1 : ℕ) where
  abbrev front : List ℕ
  front = front_text options.form s.schema

  -- after the schema's message no dictionary is in force
  begun_here : in_force_of s ≡ initial_state s.schema
  begun_here = ap (λ d. record { schema = s.schema; dictionaries = d }) o.no_dictionary

  opened : OpensStream limits s.schema o.x
  opened = schema_opened old s o

  module _ (after : Output) (a : Result End Fault) (r : PrintsRows options front s t (output w0 n0 []) after a) where
    abbrev table : Table
    table = record { schema = s.schema; batches = r.batches }

    all_bytes : Consumes old t.remaining (o.x ++ r.x)
    all_bytes = Consumes-trans old s.remaining t.remaining o.x r.x o.bytes r.bytes

    all_reads : Reads limits None (o.x ++ r.x) t.remaining (events_of table) a
    all_reads = reads_after None (Some (in_force_of s)) o.x r.x t.remaining (schema s.schema ∷ []) (map batch r.batches) a o.run
        (subst (λ l. Reads l (Some (in_force_of s)) r.x t.remaining (map batch r.batches) a) o.same_limits r.reads)

    -- what was read after the schema's message, under the limits of the call, in as many messages
    reads_behind : ReadsCounted limits (Some (initial_state s.schema)) r.x t.remaining (map batch r.batches) a (messages_in r.reads.run)
    reads_behind =
        let n = messages_in r.reads.run in
        subst (λ i. ReadsCounted limits (Some i) r.x t.remaining (map batch r.batches) a n) begun_here
        (subst (λ l. ReadsCounted l (Some (in_force_of s)) r.x t.remaining (map batch r.batches) a n) o.same_limits (r.reads, refl))

    numbered : t.messages ≡ count_up 1 (messages_in reads_behind.0.run)
    numbered =
        let counted = r.numbered 1 (omega (arith, o.one_message)) in
        omega (arith, counted, reads_behind.1)

  rows_refused : (fault : TextFault) → StopsAtRow options front s t (output w0 n0 []) (output w1 n1 []) fault
      → StopsPrinting options limits old t.remaining w0 w1 fault
  rows_refused fault r =
      let whole : Table = record { schema = s.schema; batches = r.batches } in
      refused (o.x ++ r.x) whole r.last r.count r.state (Consumes-trans old s.remaining t.remaining o.x r.x o.bytes r.bytes)
      (subst (λ (es : List MessageEvent). Run limits None (o.x ++ r.x) es r.state) (one_more whole r.last)
      (run_then None (Some (in_force_of s)) r.state o.x r.x (schema s.schema ∷ []) (map batch (r.batches ++ r.last ∷ [])) o.run
      (subst (λ l. Run l (Some (in_force_of s)) r.x (map batch (r.batches ++ r.last ∷ [])) r.state) o.same_limits r.run)))
      r.below r.have r.refuses (grows_appends w0 w1 _ r.puts.bytes)

  -- the rows up to the limit
  rows_limited : form_fault options.form s.schema.fields ≡ None → PrintsLimited options front s t (output w0 n0 []) (output w1 n1 [])
      → PrintsFirst options limits old t.remaining w0 w1
  rows_limited fits r = record {
    x = o.x ++ r.x;
    table = record { schema = s.schema; batches = r.batches };
    state = r.state;
    bytes = Consumes-trans old s.remaining t.remaining o.x r.x o.bytes r.bytes;
    run = run_then None (Some (in_force_of s)) r.state o.x r.x (schema s.schema ∷ []) (map batch r.batches) o.run
        (subst (λ l. Run l (Some (in_force_of s)) r.x (map batch r.batches) r.state) o.same_limits r.run);
    shortest = opened_shortest s.schema (in_force_of s) o.x r.x (map batch r.batches) o.run o.no_dictionary
        (subst (λ l. AreShortest l (Some (in_force_of s)) r.x (map batch r.batches)) o.same_limits r.shortest);
    reached = r.reached;
    wanted = r.wanted;
    fits = fits;
    rows = r.have;
    text = grows_appends w0 w1 _ r.puts.bytes;
  }

  part : (why : PrintFault) → PrintsPart options front s t (output w0 n0 []) w1 n1 why
      → PrintsSome options limits old t.remaining w0 w1
  part why r =
      some (o.x ++ r.whole) r.rest r.puts.behind r.tail (record { schema = s.schema; batches = r.batches }) r.state
      (subst (λ (z : List ℕ). Consumes old t.remaining z) (ap (λ (z : List ℕ). o.x ++ z) r.joined ∙ sym (append_assoc o.x r.whole r.rest))
      (Consumes-trans old s.remaining t.remaining o.x r.x o.bytes r.bytes))
      (run_then None (Some (in_force_of s)) r.state o.x r.whole (schema s.schema ∷ []) (map batch r.batches) o.run
      (subst (λ l. Run l (Some (in_force_of s)) r.whole (map batch r.batches) r.state) o.same_limits r.run))
      r.inside r.ends r.puts.bytes r.few (subst (λ l. AreLast l r.state r.rest t.remaining r.puts.behind) o.same_limits r.last)

  prints_rows : (r : Result (Option ℕ) PrintStop) → PrintsStream options s t (output w0 n0 []) (output w1 n1 []) r
      → Prints options limits old t.remaining w0 w1 r
  prints_rows (Ok None) (fits, r) = rows_limited fits r
  prints_rows (Ok (Some n)) (fits, number, (end, all, marked)) =
      let r = all.rows in
      let reads = all_reads all.middle (Ok end) r in
      let long = length-append o.x r.x in
      let taken : t.taken ≡ count_up 0 (length (o.x ++ r.x)) =
      r.counted (length o.x) o.counted ∙ ap (count_up 0) (sym long) in
      let counted = number ∙ numbered all.middle (Ok end) r in
      let whole : PrintsTable options limits old t.remaining w0 w1 = record {
        x = o.x ++ r.x;
        table = record { schema = s.schema; batches = r.batches };
        end = end;
        bytes = all_bytes all.middle (Ok end) r;
        denotes = denotes (o.x ++ r.x) reads.whole reads.rest
            (record { schema = s.schema; batches = r.batches }) reads.state t.remaining end reads.joined reads.run reads.ends;
        closed = at_end limits reads.state reads.rest t.remaining end reads.ends;
        marked = marked;
        below = r.below;
        fits = fits;
        rows = r.have;
        text = subst (λ (n : ℕ). Appends w0 w1 (stream_text options.form s.schema r.batches ++ tail_text options.form end n r.batches))
            taken (grows_appends w0 w1 _ (grows_then w0 all.middle.written w1 [] all.middle.kept [] _ _ r.puts.bytes all.tail.bytes));
      } in
      (whole, (o.x, r.x, all_bytes all.middle (Ok end) r, opened, ((reads_behind all.middle (Ok end) r).0, counted)))
  prints_rows (Err (stop.Read fault n)) (answer, r, ends, tells, number) =
      let after = output w1 n1 [] in
      broken o.x r.x (record { schema = s.schema; batches = r.batches }) answer (all_bytes after answer r) opened
      (reads_behind after answer r).0 ends (number ∙ numbered after answer r) r.below r.have
      (grows_appends w0 w1 (stream_text options.form s.schema r.batches) r.puts.bytes)
  prints_rows (Err (stop.Held n)) (answer, r, ends, tells, number) =
      let after = output w1 n1 [] in
      broken o.x r.x (record { schema = s.schema; batches = r.batches }) answer (all_bytes after answer r) opened
      (reads_behind after answer r).0 ends (number ∙ numbered after answer r) r.below r.have
      (grows_appends w0 w1 (stream_text options.form s.schema r.batches) r.puts.bytes)
  prints_rows (Err (stop.Text fault)) (inl other) =
      let taken : Consumes old t.remaining o.x = subst (λ (z : Reader). Consumes old z.remaining o.x) (sym other.same) o.bytes in
      let silent : Keeps w0 w1 = subst (λ (z : Output). Keeps w0 z.written) (sym other.silent) (Keeps-refl w0) in
      unfit o.x s.schema (Some (in_force_of s)) taken o.run other.unfit silent
  prints_rows (Err (stop.OtherSchema path)) (same, silent) = record {
    x = o.x;
    schema = s.schema;
    bytes = subst (λ (z : Reader). Consumes old z.remaining o.x) (sym same) o.bytes;
    opens = opened;
    silent = subst (λ (z : Output). Keeps w0 z.written) (sym silent) (Keeps-refl w0);
  }
  prints_rows (Err (stop.Text fault)) (inr r) = rows_refused fault r
  prints_rows (Err (stop.Write fault)) (why, is, r) =
      (subst (λ (f : WriteFault). write_fault_status f ≢ 1) (sym is) (no_refusal why), part why r)

-- the same with the source that came back
pub prints_all : {limits : Limits} → (options : PrintOptions) (old new : Option (List ℕ)) (s t : Reader)
    (w0 w1 : Option (List ℕ)) (n0 n1 : ℕ)
    (r : Result (Option ℕ) PrintStop) → Opens limits old s → new ≡ t.remaining
    → PrintsStream options s t (output w0 n0 []) (output w1 n1 []) r → Prints options limits old new w0 w1 r
prints_all {limits} options old new s t w0 w1 n0 n1 r o is h =
    subst (λ (z : Option (List ℕ)). Prints options limits old z w0 w1 r) (sym is) (prints_rows options old s t o w0 w1 n0 n1 r h)

-- no schema was read
pub prints_none : {limits : Limits} → (options : PrintOptions) (old new w : Option (List ℕ)) (fault : Fault)
    → OpenFails limits old new fault → EndsPrinting options limits old new w w fault 0
prints_none options old new w fault o = unopened o.x o.bytes o.reads refl (Keeps-refl w)

-- what was read after a schema's message, as what was read from the first byte on
pub reads_opened : {limits : Limits} → (x y : List ℕ) (t : Table) (left : Option (List ℕ)) (answer : Result End Fault)
    → OpensStream limits t.schema x → Reads limits (Some (initial_state t.schema)) y left (map batch t.batches) answer
    → Reads limits None (x ++ y) left (events_of t) answer
reads_opened x y t left answer opens reads =
    reads_after None (Some (initial_state t.schema)) x y left (schema t.schema ∷ []) (map batch t.batches) answer opens reads

-- the text of a table whose rows are below the limit, with a tail
whole_text : (options : PrintOptions) (t : Table) → WantsMoreRows options.limit (row_count t.batches) → (tail : List ℕ) {text : List ℕ}
    → stream_text options.form t.schema t.batches ++ tail ≡ text
    → text ≡ stream_text options.form t.schema (within options.limit t.batches) ++ tail
whole_text options t below tail is =
    sym is ∙ ap (λ (bs : List BatchRows). stream_text options.form t.schema bs ++ tail) (sym (within_all options.limit t.batches below))

-- why a stream isn't read to its end, as what was printed
broken_part : {limits : Limits} → (options : PrintOptions) (old new w0 w1 : Option (List ℕ)) (fault : Fault) (n : ℕ)
    → EndsPrinting options limits old new w0 w1 fault n → PrintsSome options limits old new w0 w1
broken_part options old new w0 w1 fault n (unopened x bytes reads number kept) = unread x fault bytes reads kept
broken_part options old new w0 w1 fault n (broken x y t answer bytes opens behind required number below have text) =
    let reads = reads_opened x y t new answer opens behind in
    some reads.whole reads.rest [] [] t reads.state (subst (λ (z : List ℕ). Consumes old new z) reads.joined bytes) reads.run
    (below_within options.limit t.batches reads.rest [] below) (inl refl)
    (appends_grows w0 w1 _ (subst (λ (z : List ℕ). Appends w0 w1 z) (whole_text options t below []
    (append-nil (stream_text options.form t.schema t.batches))) text)) (omega arith) (inr (inl refl))

-- why a table isn't printed to its end, as what was printed
stopped_part : {limits : Limits} → (options : PrintOptions) (old new w0 w1 : Option (List ℕ)) (fault : TextFault)
    → StopsPrinting options limits old new w0 w1 fault → PrintsSome options limits old new w0 w1
stopped_part options old new w0 w1 fault (unfit x s σ bytes run why kept) = alone x s σ bytes run kept
stopped_part {limits} options old new w0 w1 fault (refused x t rows count σ bytes run below have refuses text) =
    let form = options.form in
    let line = line_of form t.schema.fields in
    let k = wanted_rows options.limit (row_count t.batches) (length rows.rows) in
    let first = batch_prefix k rows in
    let wants = below_less options.limit (row_count t.batches) (row_count t.batches + count) (omega arith) below in
    let shown = within_more options.limit t.batches rows k wants refl in
    let fewer = take_fewer count k rows.rows (refused_inside options.limit (row_count t.batches) count rows.rows below refuses.inside) in
    let rest = lines line (drop count first.rows) in
    let start = stream_text form t.schema t.batches in
    let here : Appends w0 w1 (start ++ (batch_heading form rows.pairs ++ lines line (take count first.rows))) =
    subst (λ (rs : List (List Value)). Appends w0 w1 (start ++ (batch_heading form rows.pairs ++ lines line rs))) (sym fewer) text in
    some x [] rest [] (record { schema = t.schema; batches = t.batches ++ rows ∷ [] }) σ
    (subst (λ (z : List ℕ). Consumes old new z) (sym (append-nil x)) bytes)
    (subst (λ (es : List MessageEvent). Run limits None x es σ) (sym (one_more t rows)) run)
    (wanted_within options.limit _ (wanted_more options.limit t.batches rows wants)) (inl refl)
    (subst (λ (z : List ℕ). AppendsText w0 [] w1 rest z)
    (sym (batches_rest line (batch_heading form) (front_text form t.schema) t.batches first count)
    ∙ (ap (stream_text form t.schema) (sym shown) ∙ sym (append-nil _)))
    (grows_more w0 w1 [] [] (start ++ (batch_heading form rows.pairs ++ lines line (take count first.rows))) rest
    (appends_grows w0 w1 _ here))) (omega (
      arith,
      ap length (head_rest line (batch_heading form rows.pairs) first.rows count),
      length-append (batch_heading form rows.pairs ++ lines line (take count first.rows)) rest,
      ap length (last_lines_more line (batch_heading form) (front_text form t.schema) t.batches first),
      ap (λ (bs : List BatchRows). length (last_batch_text form t.schema bs)) shown,
      length-append (last_batch_text form t.schema (within options.limit (t.batches ++ rows ∷ []))) [],
    )) (inl refl)

table_part : {limits : Limits} → (options : PrintOptions) (old new w0 w1 : Option (List ℕ)) → PrintsTable options limits old new w0 w1
    → PrintsSome options limits old new w0 w1
table_part {limits} options old new w0 w1 s = by_end s.end s.denotes
  where
    text : Appends w0 w1 (stream_text options.form s.table.schema (within options.limit s.table.batches)
        ++ tail_text options.form s.end (count_up 0 (length s.x)) s.table.batches)
    text = subst (λ (z : List ℕ). Appends w0 w1 z) (whole_text options s.table s.below _ refl) s.text

    by_end : (end : End) → Denotes limits s.x s.table end → PrintsSome options limits old new w0 w1
    by_end Mark d = some d.0 _ [] _ s.table d.2.0 (subst (λ (z : List ℕ). Consumes old new z) d.1 s.bytes) d.2.1
        (below_within options.limit s.table.batches _ _ s.below) (inr (s.end, (count_up 0 (length s.x), refl)))
        (appends_grows w0 w1 _ text) (omega arith) (inr (inl refl))
    by_end Closed d = some s.x [] [] _ s.table d.0 (subst (λ (z : List ℕ). Consumes old new z) (sym (append-nil s.x)) s.bytes) d.1
        (below_within options.limit s.table.batches [] _ s.below) (inr (s.end, (count_up 0 (length s.x), refl)))
        (appends_grows w0 w1 _ text) (omega arith) (inr (inl refl))

first_part : {limits : Limits} → (options : PrintOptions) (old new w0 w1 : Option (List ℕ)) → PrintsFirst options limits old new w0 w1
    → PrintsSome options limits old new w0 w1
first_part options old new w0 w1 s =
    some s.x [] [] [] s.table s.state (subst (λ (z : List ℕ). Consumes old new z) (sym (append-nil s.x)) s.bytes) s.run
    (wanted_within options.limit s.table.batches s.wanted) (inl refl)
    (appends_grows w0 w1 _ (subst (λ (z : List ℕ). Appends w0 w1 z) (sym (append-nil _)) s.text)) (omega arith) (inl refl)

-- whatever the answer, a beginning of the text of the batches that were read was printed
pub part_of : {limits : Limits} → (options : PrintOptions) (old new w0 w1 : Option (List ℕ)) (r : Result (Option ℕ) PrintStop)
    → Prints options limits old new w0 w1 r → PrintsSome options limits old new w0 w1
part_of options old new w0 w1 (Ok (Some n)) h = table_part options old new w0 w1 h.0
part_of options old new w0 w1 (Ok None) h = first_part options old new w0 w1 h
part_of options old new w0 w1 (Err (stop.Read fault n)) h = broken_part options old new w0 w1 fault n h
part_of options old new w0 w1 (Err (stop.Held n)) h = broken_part options old new w0 w1 Read n h
part_of options old new w0 w1 (Err (stop.OtherSchema path)) h =
    alone h.x h.schema (Some (initial_state h.schema)) h.bytes h.opens h.silent
part_of options old new w0 w1 (Err (stop.Text fault)) h = stopped_part options old new w0 w1 fault h
part_of options old new w0 w1 (Err (stop.Write fault)) h = h.1

-- the schema of a stream, as its line was printed
pub schema_printed : {limits : Limits} → (old new : Option (List ℕ)) (s : Reader) (w0 w1 : Option (List ℕ)) (n0 n1 : ℕ)
    → Opens limits old s → new ≡ s.remaining → Puts (output w0 n0 []) (output w1 n1 []) (schema_line s.schema)
    → PrintsSchema limits old new w0 w1 (Ok tt)
schema_printed {limits} old new s w0 w1 n0 n1 o is p = (
  o.x,
  s.schema,
  subst (λ (z : Option (List ℕ)). Consumes old z o.x) (sym is) o.bytes,
  schema_opened old s o,
  grows_appends w0 w1 (schema_line s.schema) p.bytes,
)

-- the same where the line was not put whole
pub schema_cut : {limits : Limits} → (old new : Option (List ℕ)) (s : Reader) (w0 w1 : Option (List ℕ)) (n0 n1 : ℕ) (why : PrintFault)
    → Opens limits old s → new ≡ s.remaining → PutFails (output w0 n0 []) w1 n1 (schema_line s.schema) why
    → PrintsSchema limits old new w0 w1 (Err (stop.Write (write_fault why)))
schema_cut {limits} old new s w0 w1 n0 n1 why o is p = (
  no_refusal why,
  (
    o.x,
    s.schema,
    p.behind,
    subst (λ (z : Option (List ℕ)). Consumes old z o.x) (sym is) o.bytes,
    schema_opened old s o,
    p.bytes,
  ),
)
