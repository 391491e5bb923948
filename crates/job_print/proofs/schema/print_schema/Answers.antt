use Rattle.std.proofs.Common.{None}
use Rattle.std.specs.Prelude.{⊤}
use Rattle.ipc_stream_read.proofs.Readers.{still_held}
use Rattle.job_print.proofs.streams.Expected.{other_held, other_schema, unopened_expected}
use Rattle.job_print.proofs.streams.Streams.{schema_printed, schema_cut}
use Rattle.job_print.proofs.streams.Unopened.{unopened_answers, unopened_counts, unopened_held, unopened_schema}
use Rattle.job_print.proofs.schema.print_schema.Goals as goal

pub returns-in-Ok-send_schema-clause-prints : goal.returns-in-Ok-send_schema-clause-prints
returns-in-Ok-send_schema-clause-prints g c =
    schema_printed _ _ c.in-Ok.stream _ _ _ _ c.in-Ok.ensures.opened c.into_inner-in-Ok-send_schema.ensures.remaining
    (rw c.schema-in-Ok.ensures at c.in-Ok-send_schema.ensures.puts)

pub returns-in-Err-send_schema-clause-prints : goal.returns-in-Err-send_schema-clause-prints
returns-in-Err-send_schema-clause-prints g c =
    rw c.write_fault_of.ensures (schema_cut _ _ c.in-Ok.stream _ _ _ _ c.in-Err-send_schema.fault c.in-Ok.ensures.opened
    c.into_inner-in-Err-send_schema.ensures.remaining (rw c.schema-in-Ok.ensures at c.in-Err-send_schema.ensures.puts))

pub returns-in-Ok-send_schema-clause-held : goal.returns-in-Ok-send_schema-clause-held
returns-in-Ok-send_schema-clause-held g c =
    rw c.into_inner-in-Ok-send_schema.ensures.remaining (still_held _ _ _ _ (λ bad. absurd bad) c.in-Ok.ensures.held)

pub returns-in-Err-send_schema-clause-held : goal.returns-in-Err-send_schema-clause-held
returns-in-Err-send_schema-clause-held g c =
    rw c.into_inner-in-Err-send_schema.ensures.remaining (still_held _ _ _ _ (λ bad. absurd bad) c.in-Ok.ensures.held)

pub returns-in-Err-check_expected-clause-prints : goal.returns-in-Err-check_expected-clause-prints
returns-in-Err-check_expected-clause-prints g c =
    other_schema _ _ _ c.in-Ok.stream _ 0 c.in-Ok.ensures.opened c.into_inner.ensures.remaining
    c.in-Err-check_expected.why (rw c.schema.ensures at c.in-Err-check_expected.ensures.other)

pub returns-in-Err-check_expected-clause-held : goal.returns-in-Err-check_expected-clause-held
returns-in-Err-check_expected-clause-held g c =
    rw c.into_inner.ensures.remaining (other_held _ ⊤ _ _ _ _ c.in-Ok.ensures.held c.in-Err-check_expected.why
    (rw c.schema.ensures at c.in-Err-check_expected.ensures.other))

pub returns-in-Err-clause-expected : goal.returns-in-Err-clause-expected
returns-in-Err-clause-expected g c = λ x rest s is opens.
    rw c.of_reading.ensures (unopened_expected ⊤ _ s _ c.in-Err.why (c.in-Err.ensures.schema x rest s is opens))

pub returns-in-Err-clause-prints : goal.returns-in-Err-clause-prints
returns-in-Err-clause-prints g c = rw c.of_reading.ensures (unopened_schema _ _ _ c.in-Err.why c.in-Err.ensures.refused)

pub returns-in-Err-clause-devices : goal.returns-in-Err-clause-devices
returns-in-Err-clause-devices g c = rw c.of_reading.ensures (unopened_counts ⊤ _ _ _ c.in-Err.why c.in-Err.ensures.failures)

pub returns-in-Err-clause-opens : goal.returns-in-Err-clause-opens
returns-in-Err-clause-opens g c = λ x rest s is opens.
    rw c.of_reading.ensures (unopened_answers _ _ _ None None c.in-Err.why (c.in-Err.ensures.schema x rest s is opens)
    c.in-Err.ensures.held s)

pub returns-in-Err-clause-held : goal.returns-in-Err-clause-held
returns-in-Err-clause-held g c = rw c.of_reading.ensures (unopened_held _ _ ⊤ _ c.in-Err.why c.in-Err.ensures.held)
