use Rattle.std.proofs.Common.{◌∙◌, ap, sym, subst, refl, inr, arith, rules, Err}
use Rattle.std.proofs.lemmas.Result.{err_from_is_err_and}
use Rattle.ipc_stream_read.proofs.Reporting.{next_ended, progressed_break, progressed_end, progressed_less, progressed_more}
use Rattle.ipc_stream_read.proofs.Reporting.{progressed_none}
use Rattle.ipc_stream_read.proofs.Readers.{all_held, still_held}
use Rattle.ipc_stream_read.specs.Found.{ReadRows, batch_rows}
use Rattle.ipc_stream_read.specs.Held.{CountsStop, fault_of}
use Rattle.job_rewrite.proofs.Batches.{copied_above, copied_break, copied_end, copied_full, copied_more, copied_none, copied_refused}
use Rattle.job_rewrite.proofs.Batches.{copied_unmarked}
use Rattle.job_rewrite.proofs.Bytes.{within_then}
use Rattle.job_rewrite.proofs.Stopped.{stopped_counts, stopped_held, stopped_reports}
use Rattle.job_rewrite.proofs.copying.copy_batches.Goals as goal

pub returns-in_err-write-in-Ok-Some-clause-copies : goal.returns-in_err-write-in-Ok-Some-clause-copies
returns-in_err-write-in-Ok-Some-clause-copies g c =
    let p = err_from_is_err_and c.from_residual.result c.from_residual.ensures.1 in
    let next = rw c.in-Ok-Some.field-0-is at c.in-Ok-Some.ensures.next in
    let b = c.loop-batch.invariant.copied in
    let found : ReadRows = (c.in-Ok-Some.batch, c.in-Ok-Some.pairs) in
    let within = c.total_above.ensures.within (search rules) b.batches (batch_rows found) b.batches_are b.rows_are (search rules)
    b.within in
    rw (p.1, p.2) (copied_refused _ _ _ _ _ _ _ _ _ _ b found _ c.in_err-write-in-Ok-Some.field-0.0 within next
    c.in_err-write-in-Ok-Some.ensures.writes)

pub returns-in-Some-clause-copies : goal.returns-in-Some-clause-copies
returns-in-Some-clause-copies g c =
    let next = rw c.in-Ok-Some.field-0-is at c.in-Ok-Some.ensures.next in
    let b = c.loop-batch.invariant.copied in
    let found : ReadRows = (c.in-Ok-Some.batch, c.in-Ok-Some.pairs) in
    copied_above _ _ _ _ _ _ _ _ _ _ b found c.in-Some.total c.loop-batch.batches refl
    (c.in-Some.ensures.above b.batches (batch_rows found) b.batches_are b.rows_are (search rules) b.within) next

pub returns-in-NoRoom-clause-copies : goal.returns-in-NoRoom-clause-copies
returns-in-NoRoom-clause-copies g c =
    let next = rw c.in-Ok-Some.field-0-is at c.in-Ok-Some.ensures.next in
    let found : ReadRows = (c.in-Ok-Some.batch, c.in-Ok-Some.pairs) in
    copied_full _ _ _ _ _ _ _ _ _ _ c.loop-batch.invariant.copied found _ c.loop-batch.batches refl next
    (rw c.in-NoRoom.is at c.in_ok-write-in-Ok-Some.ensures.writes)

pub unwrap-requires : goal.unwrap-requires
unwrap-requires g c = next_ended _ _ _ (rw c.in-Ok-None.field-0-is at c.in-Ok-None.ensures.next) c.end.ensures

pub returns-in-Ok-clause-copies : goal.returns-in-Ok-clause-copies
returns-in-Ok-clause-copies g c =
    rw c.messages.ensures (copied_end _ _ _ _ _ _ _ _ _ _ c.loop-batch.invariant.copied c.end.result c.unwrap.result _
    (rw c.in-Ok-None.field-0-is at c.in-Ok-None.ensures.next) c.end.ensures c.unwrap.ensures (sym c.check_mark.ensures ∙ c.in-Ok.is))

pub returns-in-Err-check_mark-clause-copies : goal.returns-in-Err-check_mark-clause-copies
returns-in-Err-check_mark-clause-copies g c =
    rw c.messages-in-Err-check_mark.ensures (copied_unmarked _ _ _ _ _ _ _ _ _ _ c.loop-batch.invariant.copied c.end.result
    c.unwrap.result c.in-Err-check_mark.missing (rw c.in-Ok-None.field-0-is at c.in-Ok-None.ensures.next) c.end.ensures c.unwrap.ensures
    (sym c.check_mark.ensures ∙ c.in-Err-check_mark.is))

pub loop-batch-init : goal.loop-batch-init
loop-batch-init g c = record {
  copied = copied_none _ _ _ _ c.requires.reading c.requires.source c.requires.works c.requires.sink c.requires.schema;
  reported = λ limits start o. progressed_none start _ _ o;
  held = λ limits start h. h;
}

pub loop-batch-preserved : goal.loop-batch-preserved
loop-batch-preserved g c = record {
  copied =
      let next = rw c.in-Ok-Some.field-0-is at c.in-Ok-Some.ensures.next in
      let b = c.loop-batch.invariant.copied in
      let found : ReadRows = (c.in-Ok-Some.batch, c.in-Ok-Some.pairs) in
      let within = c.total_above.ensures.within (search rules) b.batches (batch_rows found) b.batches_are b.rows_are (search rules)
      b.within in
      rw c.reuse.ensures (copied_more _ _ _ _ _ _ _ _ _ _ b found _ _ c.saturating_add-batches.result
      c.saturating_add-rows.result (omega arith) (omega arith) within next (search rules)
      (rw c.in-Whole.is at c.in_ok-write-in-Ok-Some.ensures.writes));
  reported = λ limits start o.
      let next = rw c.in-Ok-Some.field-0-is at c.in-Ok-Some.ensures.next in
      rw c.reuse.ensures (progressed_more start _ _ _ _ _ (c.loop-batch.invariant.reported limits start o) _
      c.loop-batch.invariant.copied.reading (c.in-Ok-Some.batch, c.in-Ok-Some.pairs) _ _ _ next (omega arith) (omega arith)
      (rw c.taken.ensures at c.batch_done.ensures));
  held = λ limits start h.
      rw c.reuse.ensures (rw c.in-Ok-Some.field-0-is at c.in-Ok-Some.ensures.held limits start
      (c.loop-batch.invariant.held limits start h));
}

pub returns-in_err-write-in-Ok-Some-clause-within : goal.returns-in_err-write-in-Ok-Some-clause-within
returns-in_err-write-in-Ok-Some-clause-within g c =
    let b = c.loop-batch.invariant.copied in
    within_then _ _ _ _ _ b.sent.x b.sent.bytes b.takes c.in_err-write-in-Ok-Some.ensures.writes.within

pub returns-in_err-write-in-Ok-Some-clause-reports : goal.returns-in_err-write-in-Ok-Some-clause-reports
returns-in_err-write-in-Ok-Some-clause-reports g c = λ limits start o.
    let p = err_from_is_err_and c.from_residual.result c.from_residual.ensures.1 in
    let next = rw c.in-Ok-Some.field-0-is at c.in-Ok-Some.ensures.next in
    rw (p.1, p.2) (progressed_less start _ _ _ _ _ (c.loop-batch.invariant.reported limits start o) _ c.loop-batch.invariant.copied.reading
    (c.in-Ok-Some.batch, c.in-Ok-Some.pairs) next)

pub returns-in-NoRoom-clause-reports : goal.returns-in-NoRoom-clause-reports
returns-in-NoRoom-clause-reports g c = λ limits start o.
    let next = rw c.in-Ok-Some.field-0-is at c.in-Ok-Some.ensures.next in
    progressed_less start _ _ _ _ _ (c.loop-batch.invariant.reported limits start o) _ c.loop-batch.invariant.copied.reading
    (c.in-Ok-Some.batch, c.in-Ok-Some.pairs) next

pub returns-in-Some-clause-reports : goal.returns-in-Some-clause-reports
returns-in-Some-clause-reports g c = λ limits start o.
    let next = rw c.in-Ok-Some.field-0-is at c.in-Ok-Some.ensures.next in
    progressed_less start _ _ _ _ _ (c.loop-batch.invariant.reported limits start o) _ c.loop-batch.invariant.copied.reading
    (c.in-Ok-Some.batch, c.in-Ok-Some.pairs) next

pub returns-in-Ok-clause-reports : goal.returns-in-Ok-clause-reports
returns-in-Ok-clause-reports g c = λ limits start o.
    progressed_end start _ _ _ _ _ (c.loop-batch.invariant.reported limits start o) _ c.loop-batch.invariant.copied.reading
    (rw c.in-Ok-None.field-0-is at c.in-Ok-None.ensures.next)

pub returns-in-Err-check_mark-clause-reports : goal.returns-in-Err-check_mark-clause-reports
returns-in-Err-check_mark-clause-reports g c = λ limits start o.
    inr (progressed_end start _ _ _ _ _ (c.loop-batch.invariant.reported limits start o) _ c.loop-batch.invariant.copied.reading
    (rw c.in-Ok-None.field-0-is at c.in-Ok-None.ensures.next))

pub returns-in_err-write-in-Ok-Some-clause-held : goal.returns-in_err-write-in-Ok-Some-clause-held
returns-in_err-write-in-Ok-Some-clause-held g c = λ limits start h.
    let p = err_from_is_err_and c.from_residual.result c.from_residual.ensures.1 in
    rw (p.1, p.2) (still_held _ start _ _ (λ bad. absurd bad) (rw c.in-Ok-Some.field-0-is at c.in-Ok-Some.ensures.held limits start
    (c.loop-batch.invariant.held limits start h)))

pub returns-in-NoRoom-clause-held : goal.returns-in-NoRoom-clause-held
returns-in-NoRoom-clause-held g c = λ limits start h.
    still_held _ start _ _ (λ bad. absurd bad) (rw c.in-Ok-Some.field-0-is at c.in-Ok-Some.ensures.held limits start
    (c.loop-batch.invariant.held limits start h))

pub returns-in-Some-clause-held : goal.returns-in-Some-clause-held
returns-in-Some-clause-held g c = λ limits start h.
    still_held _ start _ _ (λ bad. absurd bad) (rw c.in-Ok-Some.field-0-is at c.in-Ok-Some.ensures.held limits start
    (c.loop-batch.invariant.held limits start h))

pub returns-in-Ok-clause-held : goal.returns-in-Ok-clause-held
returns-in-Ok-clause-held g c = λ limits start h.
    all_held _ _ _ (λ bad. absurd bad) (rw c.in-Ok-None.field-0-is at c.in-Ok-None.ensures.held limits start
    (c.loop-batch.invariant.held limits start h))

pub returns-in-Err-check_mark-clause-held : goal.returns-in-Err-check_mark-clause-held
returns-in-Err-check_mark-clause-held g c = λ limits start h.
    all_held _ _ _ (λ bad. absurd bad) (rw c.in-Ok-None.field-0-is at c.in-Ok-None.ensures.held limits start
    (c.loop-batch.invariant.held limits start h))

pub returns-in-Err-clause-copies : goal.returns-in-Err-clause-copies
returns-in-Err-clause-copies g c =
    rw (c.of_reading.ensures, c.messages-in-Err.ensures) (copied_break _ _ _ _ _ _ _ _ _ _ c.loop-batch.invariant.copied c.in-Err.why
    c.in-Err.ensures.next)

pub returns-in-Err-clause-devices : goal.returns-in-Err-clause-devices
returns-in-Err-clause-devices g c =
    let b = c.loop-batch.invariant.copied in
    rw c.of_reading.ensures (stopped_counts _ _ _ _ c.in-Err.why _ (subst (λ n. CountsStop n c.next_within.new.self.failures c.in-Err.why)
    (b.source_works ∙ sym c.requires.source) c.in-Err.ensures.failures) (b.sent.works ∙ sym b.sent.worked))

pub returns-in-Err-clause-reports : goal.returns-in-Err-clause-reports
returns-in-Err-clause-reports g c = λ limits start o.
    rw c.of_reading.ensures (stopped_reports start _ _ _ c.in-Err.why _ (progressed_break start _ _ _ _ _
    (c.loop-batch.invariant.reported limits start o) _ c.loop-batch.invariant.copied.reading (fault_of c.in-Err.why)
    c.in-Err.ensures.next))

pub returns-in-Err-clause-held : goal.returns-in-Err-clause-held
returns-in-Err-clause-held g c = λ limits start h.
    rw c.of_reading.ensures (stopped_held _ start _ c.in-Err.why _ (λ is. ap Err is)
    (c.in-Err.ensures.held limits start (c.loop-batch.invariant.held limits start h)))
