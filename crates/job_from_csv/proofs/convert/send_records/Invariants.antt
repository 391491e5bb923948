use Rattle.std.proofs.Common.{◌≡◌, ◌<◌, ◌^◌, ℕ, List, Option}
use Rattle.std.specs.Prelude.{true}
use Rattle.ipc_text_csv.specs.Records.{IsSetUp, input_of}
use Rattle.job_from_csv.specs.Steps.{BeginsConversion, GoesOn}
use Rattle.job_from_csv.proofs.Ending.{batches_left}
use Rattle.job_from_csv.proofs.convert.send_records.Given as goal

-- the rows of the records so far were sent in batches, but for the one that is kept
abbrev pub invariant-loop-has_row : goal.invariant-loop-has_row
invariant-loop-has_row g l =
    IsSetUp l.dialect l.rows.reader × (l.has_row ≡ true → l.rows.count < 2 ^ 64)
    × ((input old : Option (List ℕ)) (failures : ℕ) → BeginsConversion l.dialect g.R.Read.remaining input l.schema l.size old failures
    l.fn.rows l.fn.stream
    → GoesOn l.dialect g.R.Read.remaining input l.schema l.size old failures l.rows l.stream l.has_row)
    × (g.R.ReportsFailure.failures (input_of l.rows.reader) ≡ 0)

-- each batch takes records, of which no more are counted than an integer of 64 bits holds; after the
-- last one no row is kept
abbrev pub decreases-loop-has_row : goal.decreases-loop-has_row
decreases-loop-has_row g l = batches_left l.rows.count l.has_row
