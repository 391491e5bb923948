use Rattle.std.proofs.Common.{◌∙◌, sym, inl, inr, refl}
use Rattle.std.proofs.lemmas.Result.{err_from_is_err_and}
use Rattle.ipc_model.specs.declared.fault.Fault.TheVariants.{Read}
use Rattle.ipc_stream_read.proofs.Readers.{all_held, still_held}
use Rattle.ipc_stream_read.proofs.Reporting.{progressed_all, progressed_break, progressed_end, progressed_less, progressed_more}
use Rattle.ipc_stream_read.proofs.Reporting.{next_ended, progressed_none}
use Rattle.job_print.specs.Output.{output}
use Rattle.job_print.proofs.streams.BatchesRead.{batches_none, batches_limited, batches_more, batches_cut, batches_unsent}
use Rattle.job_print.proofs.streams.BatchesRead.{batches_refused, batches_end, batches_unmarked, batches_break, batches_held}
use Rattle.job_print.proofs.printing.print_batches.Goals as goal

pub loop-form-init : goal.loop-form-init
loop-form-init g c = record {
  printed = rw c.none-tally.ensures (batches_none c.args.options c.args.stream.now _ c.requires.reading c.requires.empty);
  reported = λ limits start o. rw c.none-tally.ensures (progressed_none start _ _ o);
  held = λ limits start h. h;
}

pub returns-in_err-refused-in-Ok-Some-clause-prints : goal.returns-in_err-refused-in-Ok-Some-clause-prints
returns-in_err-refused-in-Ok-Some-clause-prints g c =
    let p = err_from_is_err_and c.from_residual.result c.from_residual.ensures.1 in
    let below = c.has_reached.ensures.below _ c.loop-form.invariant.printed.tallies.1 c.if-has_reached.false in
    let next = rw c.in-Ok-Some.field-0-is at c.in-Ok-Some.ensures.next in
    let wants = rw c.rows.ensures at (c.count_wanted-count.ensures.wanted _ c.loop-form.invariant.printed.tallies.1) in
    rw (p.1, p.2) (batches_cut c.args.options _ _ _ _ _ _ c.loop-form.invariant.printed below c.fields-fields.result.now
    (c.in-Ok-Some.batch, c.in-Ok-Some.pairs) _ _ _
    c.print_batch.new.lines _ wants c.fields-fields.ensures next c.in-Ok-Some.ensures.failures
    (rw c.deref.ensures at c.in_err-refused-in-Ok-Some.ensures))

pub returns-in-Some-clause-prints : goal.returns-in-Some-clause-prints
returns-in-Some-clause-prints g c =
    let below = c.has_reached.ensures.below _ c.loop-form.invariant.printed.tallies.1 c.if-has_reached.false in
    let next = rw c.in-Ok-Some.field-0-is at c.in-Ok-Some.ensures.next in
    let wants = rw c.rows.ensures at (c.count_wanted-count.ensures.wanted _ c.loop-form.invariant.printed.tallies.1) in
    batches_refused c.args.options _ _ _ _ _ _ c.loop-form.invariant.printed below c.fields-fields.result.now
    (c.in-Ok-Some.batch, c.in-Ok-Some.pairs) _
    (g.W.Sink.written c.print_batch.new.sink) (g.W.Sink.failures c.print_batch.new.sink) c.print_batch.new.lines c.in-Some.fault
    wants c.fields-fields.ensures next
    c.in-Ok-Some.ensures.failures (rw (c.in-Some.is, c.deref.ensures) at c.in_ok-refused-in-Ok-Some.ensures)

pub returns-in_err-flush-in-Ok-Some-clause-prints : goal.returns-in_err-flush-in-Ok-Some-clause-prints
returns-in_err-flush-in-Ok-Some-clause-prints g c =
    let p = err_from_is_err_and c.from_residual-in_err-flush-in-Ok-Some.result c.from_residual-in_err-flush-in-Ok-Some.ensures.1 in
    let below = c.has_reached.ensures.below _ c.loop-form.invariant.printed.tallies.1 c.if-has_reached.false in
    let next = rw c.in-Ok-Some.field-0-is at c.in-Ok-Some.ensures.next in
    let wants = rw c.rows.ensures at (c.count_wanted-count.ensures.wanted _ c.loop-form.invariant.printed.tallies.1) in
    rw (p.1, p.2, c.in_err-flush-in-Ok-Some.ensures.works) (batches_unsent c.args.options _ _ _ _ _ _ c.loop-form.invariant.printed below
    c.fields-fields.result.now (c.in-Ok-Some.batch, c.in-Ok-Some.pairs) _
    (g.W.Sink.written c.print_batch.new.sink) (g.W.Sink.written c.flush.new.sink) (g.W.Sink.failures c.print_batch.new.sink)
    (g.W.Sink.failures c.flush.new.sink) c.print_batch.new.lines wants c.fields-fields.ensures next c.in-Ok-Some.ensures.failures
    (rw (c.in_default.is, c.deref.ensures) at c.in_ok-refused-in-Ok-Some.ensures)
    (rw c.in_err-flush-in-Ok-Some.ensures.works at c.in_err-flush-in-Ok-Some.ensures.puts))

pub loop-form-preserved : goal.loop-form-preserved
loop-form-preserved g c =
    let below = c.has_reached.ensures.below _ c.loop-form.invariant.printed.tallies.1 c.if-has_reached.false in
    let next = rw c.in-Ok-Some.field-0-is at c.in-Ok-Some.ensures.next in
    let wants = rw c.rows.ensures at (c.count_wanted-count.ensures.wanted _ c.loop-form.invariant.printed.tallies.1) in
    record {
      printed = rw c.reuse.ensures (batches_more c.args.options _ _ _ _ _ _ c.loop-form.invariant.printed below c.fields-fields.result.now
          (c.in-Ok-Some.batch, c.in-Ok-Some.pairs) _ c.with_batch-tally.result
          (g.W.Sink.written c.print_batch.new.sink) (g.W.Sink.failures c.print_batch.new.sink) c.print_batch.new.lines
          (output (g.W.Sink.written c.flush.new.sink) (g.W.Sink.failures c.flush.new.sink) c.flush.new.self)
          wants c.with_batch-tally.ensures.batches (rw c.rows-in-Ok-Some.ensures at c.with_batch-tally.ensures.rows)
          c.fields-fields.ensures next
          c.in-Ok-Some.ensures.failures (rw (c.in_default.is, c.deref.ensures) at c.in_ok-refused-in-Ok-Some.ensures)
          (rw c.in_ok-flush-in-Ok-Some.ensures.empty c.in_ok-flush-in-Ok-Some.ensures.puts) c.in_ok-flush-in-Ok-Some.ensures.empty);
      reported = λ limits start o.
          rw c.reuse.ensures (progressed_more start _ _ _ _ _ (c.loop-form.invariant.reported limits start o) _
          c.loop-form.invariant.printed.reading (c.in-Ok-Some.batch, c.in-Ok-Some.pairs) _ _ _ next c.with_batch-tally.ensures.batches
          (rw c.rows-in-Ok-Some.ensures at c.with_batch-tally.ensures.rows) (rw c.taken.ensures at c.batch_done.ensures));
      held = λ limits start h.
          rw c.reuse.ensures (rw c.in-Ok-Some.field-0-is at c.in-Ok-Some.ensures.held limits start
          (c.loop-form.invariant.held limits start h));
    }

pub unwrap-end-requires : goal.unwrap-end-requires
unwrap-end-requires g c = next_ended _ _ _ (rw c.in-Ok-None.field-0-is at c.in-Ok-None.ensures.next) c.end.ensures

pub returns-in-Ok-clause-prints : goal.returns-in-Ok-clause-prints
returns-in-Ok-clause-prints g c =
    let below = c.has_reached.ensures.below _ c.loop-form.invariant.printed.tallies.1 c.if-has_reached.false in
    batches_end c.args.options _ _ _ _ _ _ c.loop-form.invariant.printed below c.end.result c.unwrap-end.result _
    (rw c.in-Ok-None.field-0-is at c.in-Ok-None.ensures.next) c.in-Ok-None.ensures.failures c.end.ensures c.unwrap-end.ensures
    (sym c.check_mark.ensures ∙ c.in-Ok.is)

pub returns-in-Err-clause-prints : goal.returns-in-Err-clause-prints
returns-in-Err-clause-prints g c =
    let below = c.has_reached.ensures.below _ c.loop-form.invariant.printed.tallies.1 c.if-has_reached.false in
    batches_unmarked c.args.options _ _ _ _ _ _ c.loop-form.invariant.printed below c.end.result c.unwrap-end.result
    c.in-Err.missing
    (rw c.in-Ok-None.field-0-is at c.in-Ok-None.ensures.next) c.in-Ok-None.ensures.failures c.end.ensures c.unwrap-end.ensures
    (sym c.check_mark.ensures ∙ c.in-Err.is)

pub returns-in-Err-Refused-clause-prints : goal.returns-in-Err-Refused-clause-prints
returns-in-Err-Refused-clause-prints g c =
    let below = c.has_reached.ensures.below _ c.loop-form.invariant.printed.tallies.1 c.if-has_reached.false in
    rw c.in-Err-Refused.field-0-is (batches_break c.args.options _ _ _ _ _ _ c.loop-form.invariant.printed below c.in-Err-Refused.fault
    (rw c.in-Err-Refused.field-0-is at c.in-Err-Refused.ensures.next)
    (rw c.in-Err-Refused.field-0-is at c.in-Err-Refused.ensures.failures))

pub returns-in-Err-Held-clause-prints : goal.returns-in-Err-Held-clause-prints
returns-in-Err-Held-clause-prints g c =
    let below = c.has_reached.ensures.below _ c.loop-form.invariant.printed.tallies.1 c.if-has_reached.false in
    batches_held c.args.options _ _ _ _ _ _ c.loop-form.invariant.printed below
    (rw c.in-Err-Held.field-0-is at c.in-Err-Held.ensures.next)
    (rw c.in-Err-Held.field-0-is at c.in-Err-Held.ensures.failures)

pub returns-then-has_reached-clause-prints : goal.returns-then-has_reached-clause-prints
returns-then-has_reached-clause-prints g c =
    batches_limited c.args.options _ _ _ _ _ c.loop-form.invariant.printed (c.has_reached.ensures.reached c.if-has_reached.true)

pub returns-in_err-refused-in-Ok-Some-clause-reports : goal.returns-in_err-refused-in-Ok-Some-clause-reports
returns-in_err-refused-in-Ok-Some-clause-reports g c = λ limits start o.
    let p = err_from_is_err_and c.from_residual.result c.from_residual.ensures.1 in
    let next = rw c.in-Ok-Some.field-0-is at c.in-Ok-Some.ensures.next in
    rw p.1 (progressed_less start _ _ _ _ _ (c.loop-form.invariant.reported limits start o) _ c.loop-form.invariant.printed.reading
    (c.in-Ok-Some.batch, c.in-Ok-Some.pairs) next)

pub returns-in-Some-clause-reports : goal.returns-in-Some-clause-reports
returns-in-Some-clause-reports g c = λ limits start o.
    let next = rw c.in-Ok-Some.field-0-is at c.in-Ok-Some.ensures.next in
    progressed_less start _ _ _ _ _ (c.loop-form.invariant.reported limits start o) _ c.loop-form.invariant.printed.reading
    (c.in-Ok-Some.batch, c.in-Ok-Some.pairs) next

pub returns-in_err-flush-in-Ok-Some-clause-reports : goal.returns-in_err-flush-in-Ok-Some-clause-reports
returns-in_err-flush-in-Ok-Some-clause-reports g c = λ limits start o.
    let p = err_from_is_err_and c.from_residual-in_err-flush-in-Ok-Some.result c.from_residual-in_err-flush-in-Ok-Some.ensures.1 in
    let next = rw c.in-Ok-Some.field-0-is at c.in-Ok-Some.ensures.next in
    rw p.1 (progressed_less start _ _ _ _ _ (c.loop-form.invariant.reported limits start o) _ c.loop-form.invariant.printed.reading
    (c.in-Ok-Some.batch, c.in-Ok-Some.pairs) next)

pub returns-in-Ok-clause-reports : goal.returns-in-Ok-clause-reports
returns-in-Ok-clause-reports g c = λ limits start o.
    progressed_end start _ _ _ _ _ (c.loop-form.invariant.reported limits start o) _ c.loop-form.invariant.printed.reading
    (rw c.in-Ok-None.field-0-is at c.in-Ok-None.ensures.next)

pub returns-in-Err-clause-reports : goal.returns-in-Err-clause-reports
returns-in-Err-clause-reports g c = λ limits start o.
    inr (progressed_end start _ _ _ _ _ (c.loop-form.invariant.reported limits start o) _ c.loop-form.invariant.printed.reading
    (rw c.in-Ok-None.field-0-is at c.in-Ok-None.ensures.next))

pub returns-in-Err-Refused-clause-reports : goal.returns-in-Err-Refused-clause-reports
returns-in-Err-Refused-clause-reports g c = λ limits start o.
    rw c.in-Err-Refused.field-0-is (inl (progressed_break start _ _ _ _ _ (c.loop-form.invariant.reported limits start o) _
    c.loop-form.invariant.printed.reading c.in-Err-Refused.fault (rw c.in-Err-Refused.field-0-is at c.in-Err-Refused.ensures.next)))

pub returns-in-Err-Held-clause-reports : goal.returns-in-Err-Held-clause-reports
returns-in-Err-Held-clause-reports g c = λ limits start o.
    inl (progressed_break start _ _ _ _ _ (c.loop-form.invariant.reported limits start o) _ c.loop-form.invariant.printed.reading
    Read (rw c.in-Err-Held.field-0-is at c.in-Err-Held.ensures.next))

pub returns-then-has_reached-clause-reports : goal.returns-then-has_reached-clause-reports
returns-then-has_reached-clause-reports g c = λ limits start o.
    progressed_all start _ _ _ _ _ (c.loop-form.invariant.reported limits start o)

pub returns-then-has_reached-clause-held : goal.returns-then-has_reached-clause-held
returns-then-has_reached-clause-held g c = λ limits start h.
    still_held _ start _ _ (λ bad. absurd bad) (c.loop-form.invariant.held limits start h)

pub returns-in_err-refused-in-Ok-Some-clause-held : goal.returns-in_err-refused-in-Ok-Some-clause-held
returns-in_err-refused-in-Ok-Some-clause-held g c = λ limits start h.
    let p = err_from_is_err_and c.from_residual.result c.from_residual.ensures.1 in
    rw p.1 (still_held _ start _ _ (λ bad. absurd bad) (rw c.in-Ok-Some.field-0-is at c.in-Ok-Some.ensures.held limits start
    (c.loop-form.invariant.held limits start h)))

pub returns-in-Some-clause-held : goal.returns-in-Some-clause-held
returns-in-Some-clause-held g c = λ limits start h.
    still_held _ start _ _ (λ bad. absurd bad) (rw c.in-Ok-Some.field-0-is at c.in-Ok-Some.ensures.held limits start
    (c.loop-form.invariant.held limits start h))

pub returns-in_err-flush-in-Ok-Some-clause-held : goal.returns-in_err-flush-in-Ok-Some-clause-held
returns-in_err-flush-in-Ok-Some-clause-held g c = λ limits start h.
    let p = err_from_is_err_and c.from_residual-in_err-flush-in-Ok-Some.result c.from_residual-in_err-flush-in-Ok-Some.ensures.1 in
    rw p.1 (still_held _ start _ _ (λ bad. absurd bad) (rw c.in-Ok-Some.field-0-is at c.in-Ok-Some.ensures.held limits start
    (c.loop-form.invariant.held limits start h)))

pub returns-in-Ok-clause-held : goal.returns-in-Ok-clause-held
returns-in-Ok-clause-held g c = λ limits start h.
    all_held _ _ _ (λ bad. absurd bad) (rw c.in-Ok-None.field-0-is at c.in-Ok-None.ensures.held limits start
    (c.loop-form.invariant.held limits start h))

pub returns-in-Err-clause-held : goal.returns-in-Err-clause-held
returns-in-Err-clause-held g c = λ limits start h.
    all_held _ _ _ (λ bad. absurd bad) (rw c.in-Ok-None.field-0-is at c.in-Ok-None.ensures.held limits start
    (c.loop-form.invariant.held limits start h))

pub returns-in-Err-Refused-clause-held : goal.returns-in-Err-Refused-clause-held
returns-in-Err-Refused-clause-held g c = λ limits start h.
    all_held _ _ _ (λ bad. absurd bad) (rw c.in-Err-Refused.field-0-is at c.in-Err-Refused.ensures.held limits start
    (c.loop-form.invariant.held limits start h))

pub returns-in-Err-Held-clause-held : goal.returns-in-Err-Held-clause-held
returns-in-Err-Held-clause-held g c = λ limits start h.
    all_held _ _ _ (λ held. refl) (rw c.in-Err-Held.field-0-is at c.in-Err-Held.ensures.held limits start
    (c.loop-form.invariant.held limits start h))
