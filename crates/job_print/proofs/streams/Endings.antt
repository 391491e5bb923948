-- The front and the tail around the rows of batches.
use Rattle.ipc_model.specs.declared.table.BatchRows.{BatchRows}
use Rattle.std.proofs.Common.{◌≡◌, ◌∙◌, refl, sym, ap, ℕ, List, [], ◌∷◌, ◌++◌, take, drop, Option, ◌≤◌, length, inl, inr}
use Rattle.std.proofs.Common.{Result, Ok, Err, append_assoc, append-nil, length-append, arith, ◌+◌}
use Rattle.ipc_model.specs.declared.fault.Fault.{Fault}
use Rattle.ipc_model.specs.declared.value.Value.{Value}
use Rattle.ipc_stream_read.specs.declared.end.End.{End}
use Rattle.ipc_stream_read.specs.Reader.{Reader}
use Rattle.job_print.specs.declared.line_buffer.PrintFault.{PrintFault}
use Rattle.job_print.specs.declared.line_buffer.PrintFault.TheVariants.{Write}
use Rattle.job_print.specs.declared.form.PrintOptions.{PrintOptions}
use Rattle.job_print.specs.declared.stop.Outcome.{Outcome}
use Rattle.job_print.specs.declared.stop.Outcome.TheVariants.{Whole, Limited, Broken, Held, Refused as Lacking}
use Rattle.job_print.specs.FirstRows.{batch_prefix, within, WantsMoreRows, wanted_rows}
use Rattle.job_print.specs.Forms.{IsTail, batch_heading, line_of, row_count, tail_of, tail_text}
use Rattle.std.specs.Prelude.{◌≢◌}
use Rattle.job_print.specs.Output.{Output, Puts, PutFails}
use Rattle.job_print.specs.Rows.{lines, batch_lines, last_lines}
use Rattle.std.proofs.lemmas.List.{nil_from_length}
use Rattle.job_print.specs.Streams.{AreLast, IsReadToEnd, IsTally, PrintsAll, PrintsBatches, PrintsPart, PrintsRows}
use Rattle.job_print.specs.Streams.{outcome_tail}
use Rattle.job_print.proofs.streams.FirstRows.{below_less, below_within, refused_inside, take_fewer, wanted_more, within_all, within_more}
use Rattle.job_print.proofs.Puts.{puts_then, puts_not_then, missing_all, missing_at, missing_more, missing_then}
use Rattle.job_print.proofs.FrontPuts.{part_read}
use Rattle.job_print.proofs.Lines.{put_at, not_at}
use Rattle.job_print.proofs.texts.Texts.{batches_rest, head_rest, last_lines_front, last_lines_more}
use Rattle.ipc_stream_read.specs.Counts.{count_up}
use Rattle.job_print.specs.declared.stop.PrintCounts.{PrintCounts}

module _ (options : PrintOptions) (front : List ℕ) (old new : Reader) where
  abbrev line_in : List Value → List ℕ
  line_in = line_of options.form old.schema.fields

  -- what was put after the front, with the front
  pub behind_front : (before mid after : Output) (r : Result Outcome PrintFault) → Puts before mid front
      → PrintsBatches options [] old new mid after r → PrintsBatches options front old new before after r
  behind_front before mid after (Ok (Whole e tally)) p q =
      let r = q.0.0 in
      ((record { read = r.read; puts = puts_then before mid after front _ p r.puts; sent = r.sent }, q.0.1), q.1, q.2)
  behind_front before mid after (Ok Limited) p q =
      let h = q.0 in
      let puts = puts_then before mid after front _ p h.puts in
      (record { state = h.state; read = h.read; reached = h.reached; puts = puts; sent = h.sent }, q.1)
  behind_front before mid after (Ok (Broken f)) p q =
      let r = q.1 in (q.0, record { read = r.read; puts = puts_then before mid after front _ p r.puts; sent = r.sent }, q.2, q.3)
  behind_front before mid after (Ok Held) p q =
      let r = q.1 in (q.0, record { read = r.read; puts = puts_then before mid after front _ p r.puts; sent = r.sent }, q.2, q.3)
  behind_front before mid after (Ok (Lacking f)) p q =
      let h = q.0 in
      let puts = put_at before after _ _ (sym (append_assoc front (batch_lines (batch_heading options.form) line_in h.batches)
      (batch_heading options.form h.last.pairs ++ lines line_in (take h.count h.last.rows))))
      (puts_then before mid after front _ p h.puts) in
      (record { read = h.read; puts = puts; few = h.few }, q.1)
  behind_front before mid after (Err e) p q = by_last q.last
    where
      cut : (most : ℕ) → length q.puts.behind ≤ most
          → most ≤ length (last_lines [] (batch_heading options.form) line_in (within options.limit q.batches) ++ q.tail)
          → ((b : List ℕ) → length b ≤ most → AreLast old.limits q.state q.rest new.remaining b)
          → PrintsPart options front old new before after.written after.failures e
      cut most small fits last =
          let shown = within options.limit q.batches in
          let texts = batch_lines (batch_heading options.form) line_in shown in
          let missing = missing_at before after.written after.failures _ _ e most (sym (append_assoc front texts q.tail))
          (missing_then before mid after.written after.failures front (texts ++ q.tail) e most p (q.puts, small)) in
          record {
            read = q.read;
            puts = missing.0;
            few = omega (
              arith,
              missing.1,
              fits,
              last_lines_front line_in (batch_heading options.form) front shown,
              length-append (last_lines [] (batch_heading options.form) line_in shown) q.tail,
              length-append (last_lines front (batch_heading options.form) line_in shown) q.tail,
            );
            last = last missing.0.behind missing.1;
            works = q.works;
          }

      by_last : AreLast old.limits q.state q.rest new.remaining q.puts.behind
          → PrintsPart options front old new before after.written after.failures e
      by_last (inl none) = cut _ q.few (omega arith) (λ b few. inl none)
      by_last (inr (inl all)) =
          cut 0 (omega (arith, ap length all)) (omega arith) (λ b few. inr (inl (nil_from_length b (omega (arith, few)))))
      by_last (inr (inr end)) = cut _ q.few (omega arith) (λ b few. inr (inr end))

  module _ (before mid : Output) where
    -- what was put, and then was sent
    then_flushed : {t : List ℕ} → (last after : Output) → Puts before mid t → Puts mid last [] → Puts last after [] → Puts before after t
    then_flushed last after p tail q =
        put_at before after _ _ (append-nil _) (puts_then before mid after _ [] p (puts_then mid last after [] [] tail q))

    -- the tail of counts is that of the batches
    tail_is : (e : End) (tally : PrintCounts) (batches : List BatchRows) → IsTally tally batches
        → tail_of options.form e new.taken tally.batches tally.rows ≡ tail_text options.form e new.taken batches
    tail_is e tally batches (some, few) =
        ap (λ (n : ℕ). tail_of options.form e new.taken n tally.rows) some
        ∙ ap (λ (n : ℕ). tail_of options.form e new.taken (count_up 0 (length batches)) n) few

    -- the tail was put too, and what was kept went out
    pub flushed : (outcome : Outcome) (last after : Output) → after.kept ≡ [] → PrintsBatches options front old new before mid (Ok outcome)
        → Puts mid last (outcome_tail options.form outcome new.taken) → Puts last after []
        → PrintsAll options front old new before after (Ok outcome)
    flushed (Whole e tally) last after empty p tail q = (
      record {
        middle = mid;
        rows = p.0.0;
        tail = put_at mid after _ _ (append-nil _ ∙ tail_is e tally p.0.0.batches p.0.1) (puts_then mid last after _ [] tail q);
      },
      p.1,
      p.2,
    )
    flushed Limited last after empty p tail q =
        let h = p.0 in
        let puts = then_flushed last after h.puts tail q in
        (record { state = h.state; read = h.read; reached = h.reached; puts = puts; sent = empty }, p.1)
    flushed (Broken f) last after empty p tail q =
        (p.0, record { read = p.1.read; puts = then_flushed last after p.1.puts tail q; sent = empty }, p.2, p.3)
    flushed Held last after empty p tail q =
        (p.0, record { read = p.1.read; puts = then_flushed last after p.1.puts tail q; sent = empty }, p.2, p.3)
    flushed (Lacking f) last after empty p tail q =
        (record { read = p.0.read; puts = then_flushed last after p.0.puts tail q; few = omega (arith, ap length empty) }, p.1)

    -- the text of batches whose rows are below the limit
    all_shown : (batches : List BatchRows) → WantsMoreRows options.limit (row_count batches) → (tail : List ℕ)
        → (front ++ batch_lines (batch_heading options.form) line_in batches) ++ tail
        ≡ (front ++ batch_lines (batch_heading options.form) line_in (within options.limit batches)) ++ tail
    all_shown batches below tail =
        ap (λ (bs : List BatchRows). (front ++ batch_lines (batch_heading options.form) line_in bs) ++ tail)
        (sym (within_all options.limit batches below))

    -- a text after rows that were put was not put
    rows_left : (r : Result End Fault) (tail : List ℕ) (w : Option (List ℕ)) (n : ℕ) (e : PrintFault)
        (p : PrintsRows options front old new before mid r) → IsTail options.form p.batches tail → PutFails mid w n tail e
        → ((b : List ℕ) → length b ≤ length tail → AreLast old.limits p.reads.state p.reads.rest new.remaining b)
        → (e ≢ Write → old.failures ≡ 0 → new.failures ≡ 0) → PrintsPart options front old new before w n e
    rows_left r tail w n e p ends q last works =
        let missing = missing_at before w n _ _ e (length tail) (all_shown p.batches p.below tail)
        (missing_then before mid w n _ tail e (length tail) p.puts (missing_all mid w n tail e p.sent q)) in
        record {
          read = record {
            x = p.x;
            batches = p.batches;
            bytes = p.bytes;
            rest = p.reads.rest;
            whole = p.reads.whole;
            joined = p.reads.joined;
            state = p.reads.state;
            run = p.reads.run;
            tail = tail;
            inside = below_within options.limit p.batches p.reads.rest tail p.below;
            ends = ends;
          };
          puts = missing.0;
          few = omega (
            arith,
            missing.1,
            length-append (last_lines front (batch_heading options.form) line_in (within options.limit p.batches)) tail,
          );
          last = last missing.0.behind missing.1;
          works = works;
        }

    rows_unflushed : (r : Result End Fault) (w : Option (List ℕ)) (n : ℕ) → PrintsRows options front old new before mid r
        → PutFails mid w n [] Write → PrintsPart options front old new before w n Write
    rows_unflushed r w n p q =
        rows_left r [] w n Write p (inl refl) q (λ b few. inr (inl (nil_from_length b (omega (arith, few))))) (λ other. absurd (other refl))

    -- the tail of a stream that was read to its end was not put
    pub tail_cut : (outcome : Outcome) (w : Option (List ℕ)) (n : ℕ) (e : PrintFault) → IsReadToEnd outcome
        → PrintsBatches options front old new before mid (Ok outcome) → PutFails mid w n (outcome_tail options.form outcome new.taken) e
        → PrintsPart options front old new before w n e
    tail_cut (Whole end tally) w n e is p q =
        let r = p.0.0 in
        rows_left (Ok end) (outcome_tail options.form (Whole end tally) new.taken) w n e r
        (inr (end, (new.taken, tail_is end tally r.batches p.0.1))) q (λ b few. inr (inr (end, r.reads.ends))) (λ other. p.2)
    tail_cut Limited w n e is p q = absurd is
    tail_cut (Broken f) w n e is p q = absurd is
    tail_cut (Lacking f) w n e is p q = absurd is
    tail_cut Held w n e is p q = absurd is

    -- what was kept did not go out
    pub unflushed : (outcome : Outcome) (last : Output) (w : Option (List ℕ)) (n : ℕ)
        → PrintsBatches options front old new before mid (Ok outcome) → Puts mid last (outcome_tail options.form outcome new.taken)
        → PutFails last w n [] Write → PrintsPart options front old new before w n Write
    unflushed (Whole e tally) last w n p tail q =
        tail_cut (Whole e tally) w n Write tt p (not_at mid w n _ _ Write (append-nil _) (puts_not_then mid last w n _ [] Write tail q))
    unflushed Limited last w n p tail q =
        let h = p.0 in
        let shown = within options.limit h.batches in
        let cut = puts_not_then mid last w n [] [] Write tail q in
        let missing = missing_at before w n _ _ Write 0 refl
        (missing_then before mid w n (front ++ batch_lines (batch_heading options.form) line_in shown) [] Write 0 h.puts
        (missing_all mid w n [] Write h.sent cut)) in
        part_read options front old new before w n Write h.x h.batches h.state h.bytes h.run h.wanted missing.0 (omega (arith, missing.1))
        (λ other. absurd (other refl))
    unflushed (Broken f) last w n p tail q = rows_unflushed p.0 w n p.1 (puts_not_then mid last w n [] [] Write tail q)
    unflushed Held last w n p tail q = rows_unflushed p.0 w n p.1 (puts_not_then mid last w n [] [] Write tail q)
    unflushed (Lacking f) last w n p tail q =
        let h = p.0 in
        let k = wanted_rows options.limit (row_count h.batches) (length h.last.rows) in
        let cut_last = batch_prefix k h.last in
        let below = below_less options.limit (row_count h.batches) (row_count h.batches + h.count) (omega arith) h.below in
        let shown = within_more options.limit h.batches h.last k below refl in
        let first_lines = batch_heading options.form h.last.pairs ++ lines line_in (take h.count h.last.rows) in
        let same : first_lines ≡ batch_heading options.form h.last.pairs ++ lines line_in (take h.count cut_last.rows) =
        ap (λ (rows : List (List Value)). batch_heading options.form h.last.pairs ++ lines line_in rows)
        (sym (take_fewer h.count k h.last.rows
        (refused_inside options.limit (row_count h.batches) h.count h.last.rows h.below h.refuses.inside))) in
        let unsent = lines line_in (drop h.count cut_last.rows) in
        let cut = puts_not_then mid last w n [] [] Write tail q in
        let text = front ++ batch_lines (batch_heading options.form) line_in h.batches in
        let first = missing_at before w n _ _ Write (length mid.kept) (append-nil _ ∙ ap (λ (t : List ℕ). text ++ t) same)
        (missing_then before mid w n _ [] Write (length mid.kept) h.puts (cut, omega (arith, cut.few, length-append mid.kept []))) in
        let missing = missing_at before w n _ _ Write (length mid.kept + length unsent)
        (sym (batches_rest line_in (batch_heading options.form) front h.batches cut_last h.count)
        ∙ (ap (λ (bs : List BatchRows). front ++ batch_lines (batch_heading options.form) line_in bs) (sym shown) ∙ sym (append-nil _)))
        (missing_more before w n _ unsent Write (length mid.kept) first) in
        part_read options front old new before w n Write h.x (h.batches ++ h.last ∷ []) h.state h.bytes h.run
        (wanted_more options.limit h.batches h.last below) missing.0
        (omega (
          arith,
          missing.1,
          h.few,
          ap length same,
          length-append (batch_heading options.form h.last.pairs ++ lines line_in (take h.count cut_last.rows)) unsent,
          ap length (head_rest line_in (batch_heading options.form h.last.pairs) cut_last.rows h.count),
          ap length (last_lines_more line_in (batch_heading options.form) front h.batches cut_last),
          ap (λ (bs : List BatchRows). length (last_lines front (batch_heading options.form) line_in bs)) shown,
        )) (λ other. absurd (other refl))
