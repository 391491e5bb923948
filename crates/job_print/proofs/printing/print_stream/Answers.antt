use Rattle.std.proofs.Common.{Ok, Err, refl}
use Rattle.std.proofs.lemmas.Result.{err_from_is_err_and}
use Rattle.ipc_stream_read.proofs.Readers.{all_held, still_held}
use Rattle.ipc_stream_read.proofs.Reporting.{opened_some}
use Rattle.job_print.specs.Output.{output}
use Rattle.job_print.proofs.streams.Endings.{behind_front, flushed, unflushed, tail_cut}
use Rattle.job_print.proofs.FrontPuts.{part_none, part_front, front_sent, front_unsent}
use Rattle.job_print.proofs.streams.Reporting.{outcome_some}
use Rattle.job_print.proofs.printing.print_stream.Goals as goal

pub returns-in_err-lines-clause-prints : goal.returns-in_err-lines-clause-prints
returns-in_err-lines-clause-prints g c =
    let p = err_from_is_err_and c.from_residual.result c.from_residual.ensures.1 in
    rw (p.1, p.2) (part_none c.args.options _ c.args.stream.now _ refl)

pub returns-in_err-print_front-clause-prints : goal.returns-in_err-print_front-clause-prints
returns-in_err-print_front-clause-prints g c =
    let p = err_from_is_err_and c.from_residual-in_err-print_front.result c.from_residual-in_err-print_front.ensures.1 in
    rw (p.1, p.2) (part_front c.args.options _ c.args.stream.now _ _ _ _ refl
    (rw (c.in_ok-lines.ensures, c.schema.ensures) at c.in_err-print_front.ensures.puts))

pub returns-in_err-flush-clause-prints : goal.returns-in_err-flush-clause-prints
returns-in_err-flush-clause-prints g c =
    let p = err_from_is_err_and c.from_residual-in_err-flush.result c.from_residual-in_err-flush.ensures.1 in
    let puts = rw (c.in_ok-lines.ensures, c.schema.ensures) at c.in_ok-print_front.ensures.puts in
    rw (p.1, p.2, c.in_err-flush.ensures.works) (front_unsent c.args.options _ c.args.stream.now _ _ _ _ refl puts
    (rw c.in_err-flush.ensures.works at c.in_err-flush.ensures.puts))

pub returns-in_err-outcome-clause-prints : goal.returns-in_err-outcome-clause-prints
returns-in_err-outcome-clause-prints g c =
    let p = err_from_is_err_and c.from_residual-in_err-outcome.result c.from_residual-in_err-outcome.ensures.1 in
    let puts = front_sent _ _ _ _ _ _ (rw (c.in_ok-lines.ensures, c.schema.ensures) at c.in_ok-print_front.ensures.puts)
    c.in_ok-flush.ensures.puts c.in_ok-flush.ensures.empty in
    rw (p.1, p.2) (behind_front c.args.options _ c.args.stream.now c.print_batches.new.stream _ _
    (output (g.W.Sink.written c.print_batches.new.sink) (g.W.Sink.failures c.print_batches.new.sink) c.print_batches.new.lines)
    (Err c.in_err-outcome.field-0.0) puts c.in_err-outcome.ensures.prints)

pub returns-in_err-print_tail-clause-prints : goal.returns-in_err-print_tail-clause-prints
returns-in_err-print_tail-clause-prints g c =
    let p = err_from_is_err_and c.from_residual-in_err-print_tail.result c.from_residual-in_err-print_tail.ensures.1 in
    let puts = front_sent _ _ _ _ _ _ (rw (c.in_ok-lines.ensures, c.schema.ensures) at c.in_ok-print_front.ensures.puts)
    c.in_ok-flush.ensures.puts c.in_ok-flush.ensures.empty in
    let prints = behind_front c.args.options _ c.args.stream.now c.print_batches.new.stream _ _
    (output (g.W.Sink.written c.print_batches.new.sink) (g.W.Sink.failures c.print_batches.new.sink) c.print_batches.new.lines)
    (Ok c.in_ok-outcome.outcome) puts c.in_ok-outcome.ensures.prints in
    rw (p.1, p.2) (tail_cut c.args.options _ c.args.stream.now c.print_batches.new.stream _
    (output (g.W.Sink.written c.print_batches.new.sink) (g.W.Sink.failures c.print_batches.new.sink) c.print_batches.new.lines)
    c.in_ok-outcome.outcome _ _ _ c.in_err-print_tail.ensures.whole prints (rw c.taken.ensures at c.in_err-print_tail.ensures.puts))

pub returns-in_err-flush-2-clause-prints : goal.returns-in_err-flush-2-clause-prints
returns-in_err-flush-2-clause-prints g c =
    let p = err_from_is_err_and c.from_residual-in_err-flush-2.result c.from_residual-in_err-flush-2.ensures.1 in
    let puts = front_sent _ _ _ _ _ _ (rw (c.in_ok-lines.ensures, c.schema.ensures) at c.in_ok-print_front.ensures.puts)
    c.in_ok-flush.ensures.puts c.in_ok-flush.ensures.empty in
    let prints = behind_front c.args.options _ c.args.stream.now c.print_batches.new.stream _ _
    (output (g.W.Sink.written c.print_batches.new.sink) (g.W.Sink.failures c.print_batches.new.sink) c.print_batches.new.lines)
    (Ok c.in_ok-outcome.outcome) puts c.in_ok-outcome.ensures.prints in
    rw (p.1, p.2, c.in_err-flush-2.ensures.works) (unflushed c.args.options _ c.args.stream.now c.print_batches.new.stream _
    (output (g.W.Sink.written c.print_batches.new.sink) (g.W.Sink.failures c.print_batches.new.sink) c.print_batches.new.lines)
    c.in_ok-outcome.outcome _ _ _ prints (rw c.taken.ensures at c.in_ok-print_tail.ensures.puts)
    (rw c.in_err-flush-2.ensures.works at c.in_err-flush-2.ensures.puts))

pub returns-clause-prints : goal.returns-clause-prints
returns-clause-prints g c =
    let puts = front_sent _ _ _ _ _ _ (rw (c.in_ok-lines.ensures, c.schema.ensures) at c.in_ok-print_front.ensures.puts)
    c.in_ok-flush.ensures.puts c.in_ok-flush.ensures.empty in
    let prints = behind_front c.args.options _ c.args.stream.now c.print_batches.new.stream _ _
    (output (g.W.Sink.written c.print_batches.new.sink) (g.W.Sink.failures c.print_batches.new.sink) c.print_batches.new.lines)
    (Ok c.in_ok-outcome.outcome) puts c.in_ok-outcome.ensures.prints in
    flushed c.args.options _ c.args.stream.now c.print_batches.new.stream _
    (output (g.W.Sink.written c.print_batches.new.sink) (g.W.Sink.failures c.print_batches.new.sink) c.print_batches.new.lines)
    c.in_ok-outcome.outcome _ _ refl prints (rw c.taken.ensures at c.in_ok-print_tail.ensures.puts) c.in_ok-flush-2.ensures.puts

pub returns-in_err-lines-clause-reports : goal.returns-in_err-lines-clause-reports
returns-in_err-lines-clause-reports g c = λ limits start o.
    let p = err_from_is_err_and c.from_residual.result c.from_residual.ensures.1 in
    rw p.1 (opened_some start _ _ o)

pub returns-in_err-print_front-clause-reports : goal.returns-in_err-print_front-clause-reports
returns-in_err-print_front-clause-reports g c = λ limits start o.
    let p = err_from_is_err_and c.from_residual-in_err-print_front.result c.from_residual-in_err-print_front.ensures.1 in
    rw p.1 (opened_some start _ _ o)

pub returns-in_err-flush-clause-reports : goal.returns-in_err-flush-clause-reports
returns-in_err-flush-clause-reports g c = λ limits start o.
    let p = err_from_is_err_and c.from_residual-in_err-flush.result c.from_residual-in_err-flush.ensures.1 in
    rw p.1 (opened_some start _ _ o)

pub returns-in_err-outcome-clause-reports : goal.returns-in_err-outcome-clause-reports
returns-in_err-outcome-clause-reports g c = λ limits start o.
    let p = err_from_is_err_and c.from_residual-in_err-outcome.result c.from_residual-in_err-outcome.ensures.1 in
    rw p.1 (c.in_err-outcome.ensures.reports limits start o)

pub returns-in_err-print_tail-clause-reports : goal.returns-in_err-print_tail-clause-reports
returns-in_err-print_tail-clause-reports g c = λ limits start o.
    let p = err_from_is_err_and c.from_residual-in_err-print_tail.result c.from_residual-in_err-print_tail.ensures.1 in
    rw p.1 (outcome_some start _ _ _ c.in_ok-outcome.outcome (c.in_ok-outcome.ensures.reports limits start o))

pub returns-in_err-flush-2-clause-reports : goal.returns-in_err-flush-2-clause-reports
returns-in_err-flush-2-clause-reports g c = λ limits start o.
    let p = err_from_is_err_and c.from_residual-in_err-flush-2.result c.from_residual-in_err-flush-2.ensures.1 in
    rw p.1 (outcome_some start _ _ _ c.in_ok-outcome.outcome (c.in_ok-outcome.ensures.reports limits start o))

pub returns-in_err-lines-clause-held : goal.returns-in_err-lines-clause-held
returns-in_err-lines-clause-held g c = λ limits start h.
    let p = err_from_is_err_and c.from_residual.result c.from_residual.ensures.1 in
    rw p.1 (still_held _ start _ _ (λ bad. absurd bad) h)

pub returns-in_err-print_front-clause-held : goal.returns-in_err-print_front-clause-held
returns-in_err-print_front-clause-held g c = λ limits start h.
    let p = err_from_is_err_and c.from_residual-in_err-print_front.result c.from_residual-in_err-print_front.ensures.1 in
    rw p.1 (still_held _ start _ _ (λ bad. absurd bad) h)

pub returns-in_err-flush-clause-held : goal.returns-in_err-flush-clause-held
returns-in_err-flush-clause-held g c = λ limits start h.
    let p = err_from_is_err_and c.from_residual-in_err-flush.result c.from_residual-in_err-flush.ensures.1 in
    rw p.1 (still_held _ start _ _ (λ bad. absurd bad) h)

pub returns-in_err-outcome-clause-held : goal.returns-in_err-outcome-clause-held
returns-in_err-outcome-clause-held g c = λ limits start h.
    let p = err_from_is_err_and c.from_residual-in_err-outcome.result c.from_residual-in_err-outcome.ensures.1 in
    rw p.1 (c.in_err-outcome.ensures.held limits start h)

pub returns-in_err-print_tail-clause-held : goal.returns-in_err-print_tail-clause-held
returns-in_err-print_tail-clause-held g c = λ limits start h.
    let p = err_from_is_err_and c.from_residual-in_err-print_tail.result c.from_residual-in_err-print_tail.ensures.1 in
    rw p.1 (all_held _ _ _ (λ bad. absurd bad) (c.in_ok-outcome.ensures.held limits start h))

pub returns-in_err-flush-2-clause-held : goal.returns-in_err-flush-2-clause-held
returns-in_err-flush-2-clause-held g c = λ limits start h.
    let p = err_from_is_err_and c.from_residual-in_err-flush-2.result c.from_residual-in_err-flush-2.ensures.1 in
    rw p.1 (all_held _ _ _ (λ bad. absurd bad) (c.in_ok-outcome.ensures.held limits start h))
