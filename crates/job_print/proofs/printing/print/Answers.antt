use Rattle.std.proofs.Common.{◌∙◌, sym, ℕ, Option, None, Err}
use Rattle.ipc_stream_read.proofs.Readers.{has_maximum}
use Rattle.job_print.proofs.streams.Expected.{unopened_expected}
use Rattle.job_print.proofs.streams.Held.{printed_closed, printed_marked, stream_tells}
use Rattle.job_print.proofs.streams.Limited.{printed_first}
use Rattle.job_print.proofs.streams.Streams.{part_of, prints_all}
use Rattle.job_print.proofs.streams.Unopened.{unopened_counts, unopened_held, unopened_prints, unopened_reports, unopened_tells}
use Rattle.job_print.specs.Streams.{stop_of_reading}
use Rattle.job_print.proofs.printing.print.Goals as goal

pub returns-in-Ok-clause-prints : goal.returns-in-Ok-clause-prints
returns-in-Ok-clause-prints g c =
    prints_all c.args.options _ _ c.in-Ok.stream _ _ _ _ _ c.print_open-result.result c.in-Ok.ensures.opened c.into_inner.ensures.remaining
    c.print_open-result.ensures.prints

pub returns-in-Ok-clause-part : goal.returns-in-Ok-clause-part
returns-in-Ok-clause-part g c = part_of c.args.options _ _ _ _ c.print_open-result.result
    (prints_all c.args.options _ _ c.in-Ok.stream _ _ _ _ _ c.print_open-result.result c.in-Ok.ensures.opened c.into_inner.ensures.remaining
    c.print_open-result.ensures.prints)

pub returns-in-Ok-clause-marked : goal.returns-in-Ok-clause-marked
returns-in-Ok-clause-marked g c = λ x rest t is d none.
    printed_marked c.args.options _ _ _ _ _ _ (sym c.into_inner.ensures.failures ∙ none) c.print_open-result.result
    (stream_tells c.args.options _ _ _ _ c.print_open-result.result
    (has_maximum _ _ _ _ (c.print_open-result.ensures.held _ _ c.in-Ok.ensures.held)) c.print_open-result.ensures.prints)
    (prints_all c.args.options _ _ c.in-Ok.stream _ _ _ _ _ c.print_open-result.result c.in-Ok.ensures.opened c.into_inner.ensures.remaining
    c.print_open-result.ensures.prints) x rest t is d

pub returns-in-Ok-clause-closed : goal.returns-in-Ok-clause-closed
returns-in-Ok-clause-closed g c = λ x t free is d none.
    printed_closed c.args.options _ _ _ _ _ _ (sym c.into_inner.ensures.failures ∙ none) c.print_open-result.result
    (stream_tells c.args.options _ _ _ _ c.print_open-result.result
    (has_maximum _ _ _ _ (c.print_open-result.ensures.held _ _ c.in-Ok.ensures.held)) c.print_open-result.ensures.prints)
    (prints_all c.args.options _ _ c.in-Ok.stream _ _ _ _ _ c.print_open-result.result c.in-Ok.ensures.opened c.into_inner.ensures.remaining
    c.print_open-result.ensures.prints) x t free is d

pub returns-in-Ok-clause-limited : goal.returns-in-Ok-clause-limited
returns-in-Ok-clause-limited g c = λ x rest t is h none.
    printed_first c.args.options _ _ _ _ _ _ (sym c.into_inner.ensures.failures ∙ none) c.print_open-result.result
    (stream_tells c.args.options _ _ _ _ c.print_open-result.result
    (has_maximum _ _ _ _ (c.print_open-result.ensures.held _ _ c.in-Ok.ensures.held)) c.print_open-result.ensures.prints)
    (prints_all c.args.options _ _ c.in-Ok.stream _ _ _ _ _ c.print_open-result.result c.in-Ok.ensures.opened c.into_inner.ensures.remaining
    c.print_open-result.ensures.prints) x rest t is h

pub returns-in-Ok-clause-reports : goal.returns-in-Ok-clause-reports
returns-in-Ok-clause-reports g c =
    rw c.into_inner.ensures.remaining (c.print_open-result.ensures.reports _ _ c.in-Ok.ensures.opened)

pub returns-in-Ok-clause-held : goal.returns-in-Ok-clause-held
returns-in-Ok-clause-held g c =
    rw c.into_inner.ensures.remaining (c.print_open-result.ensures.held _ _ c.in-Ok.ensures.held)

pub returns-in-Err-clause-prints : goal.returns-in-Err-clause-prints
returns-in-Err-clause-prints g c = rw c.of_reading.ensures (unopened_prints _ _ c.args.options _ c.in-Err.why c.in-Err.ensures.refused)

pub returns-in-Err-clause-part : goal.returns-in-Err-clause-part
returns-in-Err-clause-part g c = part_of c.args.options _ _ _ _ (Err (stop_of_reading c.in-Err.why 0))
    (unopened_prints _ _ c.args.options _ c.in-Err.why c.in-Err.ensures.refused)

pub returns-in-Err-clause-marked : goal.returns-in-Err-clause-marked
returns-in-Err-clause-marked g c = λ x rest t is d none.
    rw c.of_reading.ensures (printed_marked c.args.options _ _ None None _ _ none (Err (stop_of_reading c.in-Err.why 0))
    (unopened_tells _ _ c.args.options _ _ c.in-Err.why c.in-Err.ensures.failures c.in-Err.ensures.held)
    (unopened_prints _ _ c.args.options None c.in-Err.why c.in-Err.ensures.refused) x rest t is d)

pub returns-in-Err-clause-closed : goal.returns-in-Err-clause-closed
returns-in-Err-clause-closed g c = λ x t free is d none.
    rw c.of_reading.ensures (printed_closed c.args.options _ _ None None _ _ none (Err (stop_of_reading c.in-Err.why 0))
    (unopened_tells _ _ c.args.options _ _ c.in-Err.why c.in-Err.ensures.failures c.in-Err.ensures.held)
    (unopened_prints _ _ c.args.options None c.in-Err.why c.in-Err.ensures.refused) x t free is d)

pub returns-in-Err-clause-limited : goal.returns-in-Err-clause-limited
returns-in-Err-clause-limited g c = λ x rest t is h none.
    rw c.of_reading.ensures (printed_first c.args.options _ _ None None _ _ none (Err (stop_of_reading c.in-Err.why 0))
    (unopened_tells _ _ c.args.options _ _ c.in-Err.why c.in-Err.ensures.failures c.in-Err.ensures.held)
    (unopened_prints _ _ c.args.options None c.in-Err.why c.in-Err.ensures.refused) x rest t is h)

pub returns-in-Err-clause-expected : goal.returns-in-Err-clause-expected
returns-in-Err-clause-expected g c = λ x rest s is opens.
    rw c.of_reading.ensures (unopened_expected (Option ℕ) _ s _ c.in-Err.why (c.in-Err.ensures.schema x rest s is opens))

pub returns-in-Err-clause-devices : goal.returns-in-Err-clause-devices
returns-in-Err-clause-devices g c = rw c.of_reading.ensures (unopened_counts (Option ℕ) _ _ _ c.in-Err.why c.in-Err.ensures.failures)

pub returns-in-Err-clause-reports : goal.returns-in-Err-clause-reports
returns-in-Err-clause-reports g c = rw c.of_reading.ensures (unopened_reports _ _ _ c.in-Err.why c.in-Err.ensures.refused)

pub returns-in-Err-clause-held : goal.returns-in-Err-clause-held
returns-in-Err-clause-held g c = rw c.of_reading.ensures (unopened_held _ _ (Option ℕ) _ c.in-Err.why c.in-Err.ensures.held)
