-- Where a source holds a table, its text is printed, or what stands in the way is in the table or outside.
use Rattle.std.proofs.Common.{◌≡◌, ◌≢◌, ◌∙◌, refl, sym, ap, subst, ℕ, zero, inl, inr, List, [], ◌∷◌, ◌++◌, length, Option, Some, None, ◌+◌}
use Rattle.std.proofs.Common.{Result, Ok, Err, ⊎_elim, append_assoc, append-nil, arith}
use Rattle.std.specs.Prelude.{⊤, ◌⊎◌, Bool, Contains, IsTrue, false, true}
use Rattle.std.specs.Io.KnownBytes.{Appends, Consumes, IsAtEnd}
use Rattle.std.proofs.lemmas.List.Elements.{Contains-append_right}
use Rattle.ipc_model.specs.declared.fault.Fault.{Fault}
use Rattle.ipc_model.specs.declared.limits.Limits.{Limits}
use Rattle.ipc_model.specs.declared.schema.Schema.{Schema}
use Rattle.ipc_model.specs.declared.table.BatchRows.{BatchRows}
use Rattle.ipc_model.specs.declared.table.Table.{Table}
use Rattle.ipc_frame.specs.Frames.{end_of_stream}
use Rattle.ipc_stream_read.specs.declared.end.End.{End}
use Rattle.ipc_stream_read.specs.declared.end.End.TheVariants.{Mark, Closed}
use Rattle.ipc_stream_read.specs.Ends.{as_required}
use Rattle.ipc_stream_read.specs.Failures.{CountsFault}
use Rattle.ipc_stream_read.specs.Reader.{Reader}
use Rattle.ipc_stream_read.specs.Reasons.{Reads}
use Rattle.ipc_stream_read.specs.Stream.{Denotes, events_of}
use Rattle.ipc_stream_read.specs.Taken.{TakesTable}
use Rattle.ipc_stream_read.proofs.Answered.{answers_marked, answers_closed}
use Rattle.ipc_stream_read.proofs.OneReading.{at_eos, one_run}
use Rattle.ipc_text_temporal.specs.declared.fault.TextFault.{TextFault}
use Rattle.ipc_stream_read.proofs.Beginnings.{Holds, front_begins, holds_closed, holds_marked, left_of}
use Rattle.ipc_stream_read.proofs.Beginnings.{reads_of, schema_begins, table_begins}
use Rattle.job_print.specs.declared.form.PrintOptions.{PrintOptions}
use Rattle.job_print.specs.declared.stop.PrintStop.{PrintStop}
use Rattle.job_print.specs.declared.stop.PrintStop.TheVariants as stop
use Rattle.job_print.specs.FirstRows.{within, WantsMoreRows}
use Rattle.job_print.specs.Forms.{form_fault, row_count, RefusesFirstRow}
use Rattle.job_print.specs.Output.{Output}
use Rattle.job_print.specs.Streams.{AnswersPrintedTable, EndsPrinting, HasUnprintableRow, Prints, PrintsFirst, PrintsStream, PrintsTable}
use Rattle.job_print.specs.Streams.{IsHeld, PrintsText, StopsPrinting, broken, stream_text, refused, unfit, unopened}
use Rattle.job_print.proofs.streams.FirstRows.{reached_more, refused_within, within_prefix}
use Rattle.job_print.proofs.streams.Streams.{one_more, reads_opened}

-- how often the source failed is stated where reading is refused, and that there is a maximum of held bytes where it stopped for that
abbrev pub TellsRead : PrintOptions → ℕ → ℕ → Result (Option ℕ) PrintStop → Type 0
TellsRead options old new (Ok messages) = ⊤
TellsRead options old new (Err (stop.Read fault message)) = CountsFault old new fault
TellsRead options old new (Err (stop.Write fault)) = ⊤
TellsRead options old new (Err (stop.Text fault)) = ⊤
TellsRead options old new (Err (stop.Held message)) = options.max_held ≢ None
TellsRead options old new (Err (stop.OtherSchema path)) = ⊤

-- why reading broke off, as what was taken: a fault, or an end without the mark that is required
broken_taken : {limits : Limits} → (options : PrintOptions) (old new w0 w1 : Option (List ℕ)) (fault : Fault) (n : ℕ)
    → EndsPrinting options limits old new w0 w1 fault n → TakesTable limits old new (Err fault)
    ⊎ ((u : Table) × TakesTable limits old new (Ok (u, Closed)) × IsTrue options.require_mark)
broken_taken options old new w0 w1 fault n (unopened x bytes reads number kept) =
    inl (record { x = x; bytes = bytes; gives = ([], reads) })
broken_taken {limits} options old new w0 w1 fault n (broken x y u answer bytes opens reads required number below have text) =
    by_answer options.require_mark answer required (reads_opened x y u new answer opens reads)
  where
    by_answer : (m : Bool) (a : Result End Fault) → as_required m a ≡ Err fault → Reads limits None (x ++ y) new (events_of u) a
        → TakesTable limits old new (Err fault) ⊎ ((u : Table) × TakesTable limits old new (Ok (u, Closed)) × IsTrue m)
    by_answer m (Err f) is all =
        let same : f ≡ fault = cc in
        inl (subst (λ e. TakesTable limits old new (Err e)) same (record { x = x ++ y; bytes = bytes; gives = (events_of u, all) }))
    by_answer m (Ok Mark) is all = absurd (cc)
    by_answer true (Ok Closed) is all = inr (u, record { x = x ++ y; bytes = bytes; gives = all }, refl)
    by_answer false (Ok Closed) is all = absurd (cc)

-- a table that was printed, as what was taken
printed_taken : {limits : Limits} → (options : PrintOptions) (old new w0 w1 : Option (List ℕ))
    (p : PrintsTable options limits old new w0 w1) → TakesTable limits old new (Ok (p.table, p.end))
printed_taken options old new w0 w1 p = record { x = p.x; bytes = p.bytes; gives = reads_of p.x new p.table p.end p.denotes p.closed }

-- a row of a batch below the limit that has no text is one of the table's
pub lacking_row : (options : PrintOptions) (t u : Table) (last : BatchRows) (count : ℕ) (fault : TextFault) (others : List BatchRows)
    → t ≡ record { schema = u.schema; batches = (u.batches ++ last ∷ []) ++ others }
    → WantsMoreRows options.limit (row_count u.batches + count)
    → RefusesFirstRow options.form u.schema.fields last.rows count fault → HasUnprintableRow options t fault
lacking_row options t u last count fault others is below refuses =
    let first = refused_within options.form u.schema.fields options.limit u.batches last others count fault below refuses in
    let shown : within options.limit ((u.batches ++ last ∷ []) ++ others) ≡ u.batches ++ first.0 ∷ first.1 =
    ap (within options.limit) (append_assoc u.batches (last ∷ []) others) ∙ first.2 in
    let among : Contains (within options.limit ((u.batches ++ last ∷ []) ++ others)) first.0 =
    subst (λ (bs : List BatchRows). Contains bs first.0) (sym shown)
    (Contains-append_right u.batches (first.0 ∷ first.1) first.0 (zero, omega arith, refl)) in
    subst (λ (q : Table). HasUnprintableRow options q fault) (sym is) (inr (first.0, (count, (among, first.3))))

-- what has no text is in the table that the source holds
lacking : {limits : Limits} → (options : PrintOptions) (z : List ℕ) (t : Table) (h : Holds limits z t) (new w0 w1 : Option (List ℕ))
    (fault : TextFault) → StopsPrinting options limits (Some z) new w0 w1 fault → HasUnprintableRow options t fault
lacking options z t h new w0 w1 fault (unfit x s σ bytes run why kept) =
    let left = left_of z new x bytes in
    let begins = front_begins z x left.0 t _ _ h left.1 run in
    let same = schema_begins t s begins.0 begins.1 in
    inl (subst (λ (q : Schema). form_fault options.form q.fields ≡ Some fault) same why)
lacking options z t h new w0 w1 fault (refused x u last count σ bytes run below have refuses text) =
    let left = left_of z new x bytes in
    let begins = front_begins z x left.0 t _ _ h left.1 run in
    let longer : Table = record { schema = u.schema; batches = u.batches ++ last ∷ [] } in
    let others = table_begins t longer begins.0 (begins.1 ∙ ap (λ es. es ++ begins.0) (sym (one_more u last))) in
    lacking_row options t u last count fault others.0 others.1 below refuses

text_of : (options : PrintOptions) (w0 w1 : Option (List ℕ)) (u t : Table) (d e : End) (m n : ℕ) → u ≡ t → d ≡ e → m ≡ n
    → PrintsText options u d m w0 w1 → PrintsText options t e n w0 w1
text_of options w0 w1 u t d e m n table end bytes text = subst (λ v. PrintsText options v e n w0 w1) table
    (subst (λ k. PrintsText options u k n w0 w1) end (subst (λ k. PrintsText options u d k w0 w1) bytes text))

-- rows up to the limit that were printed are those of the table that the source holds
first_text : {limits : Limits} → (options : PrintOptions) (z : List ℕ) (t : Table) (h : Holds limits z t) (new w0 w1 : Option (List ℕ))
    (end : End) (n : ℕ) → PrintsFirst options limits (Some z) new w0 w1 → PrintsText options t end n w0 w1
first_text options z t h new w0 w1 end n p =
    let left = left_of z new p.x p.bytes in
    let begins = front_begins z p.x left.0 t _ _ h left.1 p.run in
    let others = table_begins t p.table begins.0 begins.1 in
    let more = reached_more options.limit p.table.batches others.0 p.reached in
    let same = sym (within_prefix options.limit p.table.batches others.0 p.reached) in
    subst (λ (q : Table). PrintsText options q end n w0 w1) (sym others.1) (inr (
      more,
      subst (λ (bs : List BatchRows). Appends w0 w1 (stream_text options.form p.table.schema bs)) same p.text,
    ))

-- a table takes the same bytes up to its mark
same_marked : {limits : Limits} → (x rest y b : List ℕ) (t : Table) → Denotes limits x t Mark → Denotes limits y t Mark
    → x ++ rest ≡ y ++ b → x ≡ y
same_marked x rest y b t d e is =
    let joined : d.0 ++ (end_of_stream ++ rest) ≡ e.0 ++ (end_of_stream ++ b) =
    sym (append_assoc d.0 end_of_stream rest) ∙ ap (λ (z : List ℕ). z ++ rest) (sym d.1) ∙ is ∙ ap (λ (z : List ℕ). z ++ b) e.1
    ∙ append_assoc e.0 end_of_stream b in
    let same = one_run (end_of_stream ++ rest) (end_of_stream ++ b) d.2.1 e.2.1 (at_eos rest) (at_eos b) joined in
    d.1 ∙ ap (λ (z : List ℕ). z ++ end_of_stream) same.bytes ∙ sym e.1

-- and all that there are without one
same_closed : (z x : List ℕ) (new : Option (List ℕ)) → Consumes (Some z) new x → IsAtEnd new → x ≡ z
same_closed z x None bytes end = absurd bytes
same_closed z x (Some b) bytes end = sym (append-nil x) ∙ ap (λ (c : List ℕ). x ++ c) (sym end) ∙ sym bytes

module _ {limits : Limits} (options : PrintOptions) (old new w0 w1 : Option (List ℕ)) (g0 g1 : ℕ) (none : g1 ≡ 0) where
  -- where bytes up to an end mark denote a table, that one is printed, unless something stands in the way
  pub printed_marked : (r : Result (Option ℕ) PrintStop) → TellsRead options g0 g1 r → Prints options limits old new w0 w1 r
      → (x rest : List ℕ) (t : Table) → old ≡ Some (x ++ rest) → Denotes limits x t Mark
      → AnswersPrintedTable options t Mark (length x) w0 w1 r
  printed_marked (Ok None) tells p x rest t is d =
      first_text options (x ++ rest) t (holds_marked x rest t d) new w0 w1 Mark (length x)
      (subst (λ (o : Option (List ℕ)). PrintsFirst options limits o new w0 w1) is p)
  printed_marked (Ok (Some n)) tells (p, number) x rest t is d =
      let same = answers_marked old new 0 0 (Ok (p.table, p.end)) (printed_taken options old new w0 w1 p) refl (refl, refl) x rest t is d in
      let here = subst (λ (o : Option (List ℕ)). Consumes o new p.x) is p.bytes in
      let left = left_of (x ++ rest) new p.x here in
      let read : Denotes limits p.x t Mark =
      subst (λ u. Denotes limits p.x u Mark) same.0 (subst (λ e. Denotes limits p.x p.table e) same.1 p.denotes) in
      text_of options w0 w1 p.table t p.end Mark (length p.x) (length x) same.0 same.1
      (ap length (sym (same_marked x rest p.x left.0 t d read left.1))) (inl (p.below, p.text))
  printed_marked (Err (stop.Read fault n)) tells p x rest t is d =
      ⊎_elim (λ takes. answers_marked old new g0 g1 (Err fault) takes none tells x rest t is d) (λ takes.
      let same : Closed ≡ Mark =
      (answers_marked old new 0 0 (Ok (takes.0, Closed)) takes.1 refl (refl, refl) x rest t is d).1 in
      absurd (cc)) (broken_taken options old new w0 w1 fault n p)
  printed_marked (Err (stop.Text fault)) tells p x rest t is d =
      lacking options (x ++ rest) t (holds_marked x rest t d) new w0 w1 fault
      (subst (λ (o : Option (List ℕ)). StopsPrinting options limits o new w0 w1 fault) is p)
  printed_marked (Err (stop.Write fault)) tells p x rest t is d = p.0
  printed_marked (Err (stop.Held n)) tells p x rest t is d = tells
  printed_marked (Err (stop.OtherSchema path)) tells p x rest t is d = tt

  -- where all bytes of the source denote a table, and no mark is required, so is that one
  pub printed_closed : (r : Result (Option ℕ) PrintStop) → TellsRead options g0 g1 r → Prints options limits old new w0 w1 r
      → (x : List ℕ) (t : Table) → options.require_mark ≡ false → old ≡ Some x → Denotes limits x t Closed
      → AnswersPrintedTable options t Closed (length x) w0 w1 r
  printed_closed (Ok None) tells p x t free is d =
      first_text options x t (holds_closed x t d) new w0 w1 Closed (length x)
      (subst (λ (o : Option (List ℕ)). PrintsFirst options limits o new w0 w1) is p)
  printed_closed (Ok (Some n)) tells (p, number) x t free is d =
      let same = answers_closed old new 0 0 (Ok (p.table, p.end)) (printed_taken options old new w0 w1 p) refl (refl, refl) x t is d in
      let here = subst (λ (o : Option (List ℕ)). Consumes o new p.x) is p.bytes in
      text_of options w0 w1 p.table t p.end Closed (length p.x) (length x) same.0 same.1
      (ap length (same_closed x p.x new here (p.closed same.1))) (inl (p.below, p.text))
  printed_closed (Err (stop.Read fault n)) tells p x t free is d =
      ⊎_elim (λ takes. answers_closed old new g0 g1 (Err fault) takes none tells x t is d) (λ takes.
      let bad : false ≡ true = sym free ∙ takes.2 in
      absurd (cc)) (broken_taken options old new w0 w1 fault n p)
  printed_closed (Err (stop.Text fault)) tells p x t free is d =
      lacking options x t (holds_closed x t d) new w0 w1 fault
      (subst (λ (o : Option (List ℕ)). StopsPrinting options limits o new w0 w1 fault) is p)
  printed_closed (Err (stop.Write fault)) tells p x t free is d = p.0
  printed_closed (Err (stop.Held n)) tells p x t free is d = tells
  printed_closed (Err (stop.OtherSchema path)) tells p x t free is d = tt

-- what the answer to a stream whose schema was read says of how reading went
pub stream_tells : (options : PrintOptions) (s t : Reader) (before after : Output) (r : Result (Option ℕ) PrintStop)
    → (IsHeld r → options.max_held ≢ None) → PrintsStream options s t before after r → TellsRead options s.failures t.failures r
stream_tells options s t before after (Ok messages) held p = tt
stream_tells options s t before after (Err (stop.Read fault n)) held p = p.3
stream_tells options s t before after (Err (stop.Write fault)) held p = tt
stream_tells options s t before after (Err (stop.Text fault)) held p = tt
stream_tells options s t before after (Err (stop.Held n)) held p = held tt
stream_tells options s t before after (Err (stop.OtherSchema path)) held p = tt
