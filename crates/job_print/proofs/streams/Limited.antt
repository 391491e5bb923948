-- Where a source begins with the messages of a table up to the limit, the answer is their text.
use Rattle.std.proofs.Common.{◌≡◌, ◌∙◌, refl, sym, ap, subst, ℕ, ◌+◌, inl, inr, List, [], ◌∷◌, ◌++◌, Option, Some, None}
use Rattle.std.proofs.Common.{Result, Ok, Err, ⊎_elim, append_assoc, append-nil, arith}
use Rattle.std.specs.Prelude.{◌⊎◌, Bool, false, true}
use Rattle.std.specs.Io.KnownBytes.{Appends, Consumes, IsAtEnd}
use Rattle.ipc_model.specs.declared.fault.Fault.{Fault}
use Rattle.ipc_model.specs.declared.fault.Fault.TheVariants.{OutOfMemory}
use Rattle.ipc_model.specs.declared.limits.Limits.{Limits}
use Rattle.ipc_model.specs.declared.schema.Schema.{Schema}
use Rattle.ipc_model.specs.declared.table.BatchRows.{BatchRows}
use Rattle.ipc_model.specs.declared.table.Table.{Table}
use Rattle.ipc_stream_read.specs.declared.end.End.{End}
use Rattle.ipc_stream_read.specs.declared.end.End.TheVariants.{Mark, Closed}
use Rattle.ipc_stream_read.specs.Ends.{as_required}
use Rattle.ipc_stream_read.specs.Failures.{CountsFault}
use Rattle.ipc_stream_read.specs.Reasons.{EndsReading as BreaksOff, IsOutside, Reads}
use Rattle.ipc_stream_read.specs.Stream.{State, MessageEvent, schema, Run, done, more, Denotes, events_of}
use Rattle.job_print.proofs.streams.Shortest.{one_message}
use Rattle.ipc_stream_read.proofs.Reasons.{told_breaks}
use Rattle.ipc_text_temporal.specs.declared.fault.TextFault.{TextFault}
use Rattle.ipc_stream_read.proofs.Beginnings.{Holds, front_begins, holds_closed, holds_marked, left_of, schema_begins, table_begins}
use Rattle.job_print.specs.declared.form.PrintOptions.{PrintOptions}
use Rattle.job_print.specs.declared.stop.PrintStop.{PrintStop}
use Rattle.job_print.specs.declared.stop.PrintStop.TheVariants as stop
use Rattle.job_print.specs.FirstRows.{within, AreWanted, HasReached, WantsMoreRows}
use Rattle.job_print.specs.Forms.{form_fault, row_count}
use Rattle.job_print.specs.Streams.{AnswersFirst, EndsPrinting, HasUnprintableRow, Prints, PrintsFirst, PrintsTable, ReachesLimit}
use Rattle.job_print.specs.Streams.{StopsPrinting, broken, stream_text, refused, unfit, unopened}
use Rattle.job_print.proofs.streams.FirstRows.{below_less, not_both, reached_more, wanted_more}
use Rattle.job_print.proofs.streams.Held.{TellsRead, lacking_row}
use Rattle.job_print.proofs.streams.Streams.{one_more, reads_opened}

-- of two runs of messages over the same bytes, the events of one begin with those of the other
fronts : {limits : Limits} → {σ τ υ : State} {x y : List ℕ} {es gs : List MessageEvent} (a b : List ℕ) → Run limits σ x es τ
    → Run limits σ y gs υ → x ++ a ≡ y ++ b
    → ((rest : List MessageEvent) × (gs ≡ es ++ rest)) ⊎ ((rest : List MessageEvent) × (es ≡ gs ++ rest))
fronts {gs = gs} a b done q e = inl (gs, refl)
fronts a b (more {es = es} {fs = hs} f p q) done e = inr (es ++ hs, refl)
fronts {limits} a b (more {x = x} {y = y} {es = es} {fs = hs} f p q)
    (more {υ = υ'} {x = x'} {y = y'} {es = es'} {fs = hs'} f' p' q') e =
    let one = one_message (y ++ a) (y' ++ b) f p f' p' (sym (append_assoc x y a) ∙ (e ∙ append_assoc x' y' b)) in
    ⊎_elim (λ on. inl (on.0, ap (λ l. es' ++ l) on.1 ∙ (sym (append_assoc es' hs on.0) ∙ ap (λ l. (l ++ hs) ++ on.0) (sym one.2))))
    (λ on. inr (on.0, ap (λ l. es ++ l) on.1 ∙ (sym (append_assoc es hs' on.0) ∙ ap (λ l. (l ++ hs') ++ on.0) one.2)))
    (fronts a b q (subst (λ z. Run limits z y' hs' υ') (sym one.3) q') one.1)

-- reading that breaks off at the bytes has reported the events of messages at their front, or the cause is outside of them
breaks_after : {limits : Limits} → {σ τ υ : State} {x y : List ℕ} {es gs : List MessageEvent} (a z b : List ℕ) (fault : Fault)
    → Run limits σ x es τ → Run limits σ y gs υ → BreaksOff limits υ z (Some b) fault → x ++ a ≡ y ++ (z ++ b)
    → IsOutside fault ⊎ ((rest : List MessageEvent) × (gs ≡ es ++ rest))
breaks_after {gs = gs} a z b fault done q r e = inr (gs, refl)
breaks_after {limits} {σ = σ} {τ = τ} a z b fault (more {x = x} {y = y} {es = es} {fs = hs} f p q) done r e = by_events (es ++ hs) refl
  where
    by_events : (all : List MessageEvent) → all ≡ es ++ hs → IsOutside fault ⊎ ((rest : List MessageEvent) × ([] ≡ (es ++ hs) ++ rest))
    by_events [] is = inr ([], is ∙ sym (append-nil (es ++ hs)))
    by_events (one ∷ others) is =
        inl (told_breaks a z b fault (more f p q) (λ none. let bad : one ∷ others ≡ [] = is ∙ none in absurd (cc)) done refl r e)
breaks_after {limits} a z b fault (more {x = x} {y = y} {es = es} {fs = hs} f p q)
    (more {υ = υ'} {x = x'} {y = y'} {es = es'} {fs = hs'} f' p' q') r e =
    let one = one_message (y ++ a) (y' ++ (z ++ b)) f p f' p' (sym (append_assoc x y a) ∙ (e ∙ append_assoc x' y' (z ++ b))) in
    ⊎_elim (λ out. inl out)
    (λ on. inr (on.0, ap (λ l. es' ++ l) on.1 ∙ (sym (append_assoc es' hs on.0) ∙ ap (λ l. (l ++ hs) ++ on.0) (sym one.2))))
    (breaks_after a z b fault q (subst (λ z. Run limits z y' hs' υ') (sym one.3) q') r one.1)

-- of two beginnings of the same bytes, one begins the other
one_begins : (x y a b : List ℕ) → x ++ a ≡ y ++ b → ((rest : List ℕ) × (y ≡ x ++ rest)) ⊎ ((rest : List ℕ) × (x ≡ y ++ rest))
one_begins [] y a b e = inl (y, refl)
one_begins (n ∷ x) [] a b e = inr (n ∷ x, refl)
one_begins (n ∷ x) (m ∷ y) a b e =
    let head : n ≡ m = cc in
    let tail : x ++ a ≡ y ++ b = cc in
    ⊎_elim (λ on. inl (on.0, cc)) (λ on. inr (on.0, cc)) (one_begins x y a b tail)

-- a list that is not empty has a last batch
last_of : (b : BatchRows) (bs : List BatchRows) → (earlier : List BatchRows) × ((last : BatchRows) × (b ∷ bs ≡ earlier ++ last ∷ []))
last_of b [] = ([], (b, refl))
last_of b (c ∷ bs) = let more = last_of c bs in (b ∷ more.0, (more.1.0, ap (λ l. b ∷ l) more.1.1))

-- after batches whose rows reach the limit none is wanted
none_wanted : (limit : Option ℕ) (batches others : List BatchRows) → HasReached limit (row_count batches)
    → AreWanted limit (batches ++ others) → others ≡ []
none_wanted limit batches [] reached wanted = refl
none_wanted limit batches (b ∷ bs) reached wanted =
    let last = last_of b bs in
    let split : batches ++ (b ∷ bs) ≡ (batches ++ last.0) ++ last.1.0 ∷ [] =
    ap (λ l. batches ++ l) last.1.1 ∙ sym (append_assoc batches last.0 (last.1.0 ∷ [])) in
    absurd (not_both limit (row_count (batches ++ last.0)) (wanted (batches ++ last.0) last.1.0 split)
    (reached_more limit batches last.0 reached))

module _ {limits : Limits} (options : PrintOptions) (x rest : List ℕ) (t : Table) (h : ReachesLimit options limits x t) where
  -- a table whose events begin with those of t reaches the limit
  reaches : (u : Table) (others : List MessageEvent) → events_of u ≡ events_of t ++ others → HasReached options.limit (row_count u.batches)
  reaches u others is =
      let begins = table_begins u t others is in
      subst (λ (q : Table). HasReached options.limit (row_count q.batches)) (sym begins.1)
      (reached_more options.limit t.batches begins.0 h.reached)

  -- so no such table has fewer rows
  not_below : (u : Table) (others : List MessageEvent) → events_of u ≡ events_of t ++ others
      → WantsMoreRows options.limit (row_count u.batches) → ⊥
  not_below u others is below = not_both options.limit (row_count u.batches) below (reaches u others is)

  -- a table up to the limit is this one
  same_table : (others : List MessageEvent) (one two : Table) → events_of one ≡ events_of two ++ others
      → HasReached options.limit (row_count two.batches) → AreWanted options.limit one.batches → one ≡ two
  same_table others one two is reached wanted =
      let begins = table_begins one two others is in
      let none = none_wanted options.limit two.batches begins.0 reached
      (subst (λ (q : Table). AreWanted options.limit q.batches) begins.1 wanted) in
      begins.1 ∙ ap (λ (bs : List BatchRows). record { schema = two.schema; batches = bs })
      (ap (λ l. two.batches ++ l) none ∙ append-nil two.batches)

  -- what was printed up to the limit is the text of t, and no byte after its messages was taken
  first_printed : (new w0 w1 : Option (List ℕ)) → PrintsFirst options limits (Some (x ++ rest)) new w0 w1
      → AnswersFirst options t x (Some (x ++ rest)) new w0 w1 (Ok None)
  first_printed new w0 w1 p =
      let left = left_of (x ++ rest) new p.x p.bytes in
      let same : p.table ≡ t =
      ⊎_elim (λ on. same_table on.0 p.table t on.1 h.reached p.wanted) (λ on. sym (same_table on.0 t p.table on.1 p.reached h.wanted))
      (fronts rest left.0 h.run p.run left.1) in
      let run : Run limits None x (events_of p.table) h.state = subst (λ q. Run limits None x (events_of q) h.state) (sym same) h.run in
      let shown = subst (λ (q : Table). Appends w0 w1 (stream_text options.form q.schema (within options.limit q.batches))) same p.text in
      ⊎_elim (λ on.
      let none = p.shortest x on.0 h.state on.1 run in
      let all : x ≡ p.x = sym (on.1 ∙ (ap (λ l. x ++ l) none ∙ append-nil x)) in
      ((p.x, [], all ∙ sym (append-nil p.x), p.bytes), shown)) (λ on. ((p.x, on.0, on.1, p.bytes), shown))
      (one_begins x p.x rest left.0 left.1)

  -- a table that was read to its end begins with the events of t
  whole_begins : (new : Option (List ℕ)) (end : End) (u : Table) (y : List ℕ) → Consumes (Some (x ++ rest)) new y → Denotes limits y u end
      → (end ≡ Closed → IsAtEnd new) → (others : List MessageEvent) × (events_of u ≡ events_of t ++ others)
  whole_begins None end u y bytes d closed = absurd bytes
  whole_begins (Some b) Mark u y bytes d closed =
      front_begins (y ++ b) x rest u (events_of t) h.state (holds_marked y b u d) (sym bytes) h.run
  whole_begins (Some b) Closed u y bytes d closed =
      let none : b ≡ [] = closed refl in
      front_begins y x rest u (events_of t) h.state (holds_closed y u d)
      (sym (append-nil y) ∙ (ap (λ l. y ++ l) (sym none) ∙ sym bytes)) h.run

  -- so none was printed to its end
  not_whole : (new w0 w1 : Option (List ℕ)) → PrintsTable options limits (Some (x ++ rest)) new w0 w1 → ⊥
  not_whole new w0 w1 p =
      let begins = whole_begins new p.end p.table p.x p.bytes p.denotes p.closed in
      not_below p.table begins.0 begins.1 p.below

  -- where reading breaks off before the limit, the cause is outside of the bytes
  broken_outside : (new : Option (List ℕ)) (y : List ℕ) (u : Table) (answer : Result End Fault) (m : Bool) (fault : Fault)
      → Consumes (Some (x ++ rest)) new y → Reads limits None y new (events_of u) answer → as_required m answer ≡ Err fault
      → WantsMoreRows options.limit (row_count u.batches) → IsOutside fault
  broken_outside None y u answer m fault bytes reads is below = absurd bytes
  broken_outside (Some b) y u (Err f) m fault bytes reads is below =
      let same : f ≡ fault = cc in
      let joined : x ++ rest ≡ reads.whole ++ (reads.rest ++ b) =
      bytes ∙ (ap (λ l. l ++ b) reads.joined ∙ append_assoc reads.whole reads.rest b) in
      subst IsOutside same (⊎_elim (λ out. out) (λ on. absurd (not_below u on.0 on.1 below))
      (breaks_after rest reads.rest b f h.run reads.run reads.ends joined))
  broken_outside (Some b) y u (Ok Mark) m fault bytes reads is below = absurd (cc)
  broken_outside (Some b) y u (Ok Closed) true fault bytes reads is below =
      let none : b ≡ [] = reads.ends.2 in
      let all : x ++ rest ≡ reads.whole ++ [] =
      bytes ∙ (ap (λ l. y ++ l) none ∙ (append-nil y ∙ (reads.joined ∙ ap (λ l. reads.whole ++ l) reads.ends.0))) in
      let held : Holds limits (x ++ rest) u = record
      { state = reads.state; whole = reads.whole; rest = []; run = reads.run; joined = sym all; stop = inl refl } in
      let begins = front_begins (x ++ rest) x rest u (events_of t) h.state held refl h.run in
      absurd (not_below u begins.0 begins.1 below)
  broken_outside (Some b) y u (Ok Closed) false fault bytes reads is below = absurd (cc)

  unopened_outside : (new : Option (List ℕ)) (y : List ℕ) (fault : Fault) → Consumes (Some (x ++ rest)) new y
      → Reads limits None y new [] (Err fault) → IsOutside fault
  unopened_outside None y fault bytes reads = absurd bytes
  unopened_outside (Some b) y fault bytes reads =
      let joined : x ++ rest ≡ reads.whole ++ (reads.rest ++ b) =
      bytes ∙ (ap (λ l. l ++ b) reads.joined ∙ append_assoc reads.whole reads.rest b) in
      ⊎_elim (λ out. out) (λ on. let bad : [] ≡ events_of t ++ on.0 = on.1 in absurd (cc))
      (breaks_after rest reads.rest b fault h.run reads.run reads.ends joined)

  breaks_outside : (new w0 w1 : Option (List ℕ)) (fault : Fault) (n : ℕ) → EndsPrinting options limits (Some (x ++ rest)) new w0 w1 fault n
      → IsOutside fault
  breaks_outside new w0 w1 fault n (unopened y bytes reads number kept) = unopened_outside new y fault bytes reads
  breaks_outside new w0 w1 fault n (broken y z u answer bytes opens reads required number below have text) =
      broken_outside new (y ++ z) u answer options.require_mark fault bytes (reads_opened y z u new answer opens reads) required below

  -- what has no text is the columns of t, or one of its rows up to the limit
  stops_text : (new w0 w1 : Option (List ℕ)) (fault : TextFault) → StopsPrinting options limits (Some (x ++ rest)) new w0 w1 fault
      → HasUnprintableRow options t fault
  stops_text new w0 w1 fault (unfit y s σ bytes run why kept) =
      let left = left_of (x ++ rest) new y bytes in
      let same : s ≡ t.schema =
      ⊎_elim (λ on. let head : schema s ≡ schema t.schema = (let all : schema s ∷ [] ≡ events_of t ++ on.0 = on.1 in cc) in cc)
      (λ on. schema_begins t s on.0 on.1) (fronts rest left.0 h.run run left.1) in
      inl (subst (λ (q : Schema). form_fault options.form q.fields ≡ Some fault) same why)
  stops_text new w0 w1 fault (refused y u last count σ bytes run below have refuses text) =
      let left = left_of (x ++ rest) new y bytes in
      let longer : Table = record { schema = u.schema; batches = u.batches ++ last ∷ [] } in
      let before : WantsMoreRows options.limit (row_count u.batches) =
      below_less options.limit (row_count u.batches) (row_count u.batches + count) (omega arith) below in
      let begins : (others : List BatchRows) × (t ≡ record { schema = u.schema; batches = (u.batches ++ last ∷ []) ++ others }) =
      ⊎_elim (λ on. (
        [],
        sym (same_table on.0 longer t (one_more u last ∙ on.1) h.reached (wanted_more options.limit u.batches last before))
            ∙ ap (λ (bs : List BatchRows). record { schema = u.schema; batches = bs }) (sym (append-nil (u.batches ++ last ∷ []))),
      ))
      (λ on. table_begins t longer on.0 (on.1 ∙ ap (λ es. es ++ on.0) (sym (one_more u last)))) (fronts rest left.0 h.run run left.1) in
      lacking_row options t u last count fault begins.0 begins.1 below refuses

-- where the source begins with the messages of a table up to the limit, the answer is the text of its rows up to it
pub printed_first : {limits : Limits} → (options : PrintOptions) (old new w0 w1 : Option (List ℕ)) (g0 g1 : ℕ) → g1 ≡ 0
    → (r : Result (Option ℕ) PrintStop)
    → TellsRead options g0 g1 r → Prints options limits old new w0 w1 r → (x rest : List ℕ) (t : Table) → old ≡ Some (x ++ rest)
    → ReachesLimit options limits x t → AnswersFirst options t x old new w0 w1 r
printed_first {limits} options old new w0 w1 g0 g1 none r tells p x rest t is h =
    subst (λ (o : Option (List ℕ)). AnswersFirst options t x o new w0 w1 r) (sym is)
    (by_result r tells (subst (λ (o : Option (List ℕ)). Prints options limits o new w0 w1 r) is p))
  where
    outside_memory : (fault : Fault) → CountsFault g0 g1 fault → IsOutside fault → fault ≡ OutOfMemory
    outside_memory fault says (inl read) = absurd (omega (arith, none, says.failed read))
    outside_memory fault says (inr memory) = memory

    by_result : (r : Result (Option ℕ) PrintStop) → TellsRead options g0 g1 r → Prints options limits (Some (x ++ rest)) new w0 w1 r
        → AnswersFirst options t x (Some (x ++ rest)) new w0 w1 r
    by_result (Ok (Some n)) says q = absurd (not_whole options x rest t h new w0 w1 q.0)
    by_result (Ok None) says q = first_printed options x rest t h new w0 w1 q
    by_result (Err (stop.Read fault n)) says q = outside_memory fault says (breaks_outside options x rest t h new w0 w1 fault n q)
    by_result (Err (stop.Text fault)) says q = stops_text options x rest t h new w0 w1 fault q
    by_result (Err (stop.Write fault)) says q = q.0
    by_result (Err (stop.Held n)) says q = says
    by_result (Err (stop.OtherSchema path)) says q = tt
