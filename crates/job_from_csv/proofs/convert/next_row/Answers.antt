use Rattle.job_from_csv.proofs.Breaking.{next_stops}
use Rattle.job_from_csv.proofs.Ending.{counts_up}
use Rattle.job_from_csv.proofs.convert.next_row.Goals as goal

pub returns-in-Err-clause-stops : goal.returns-in-Err-clause-stops
returns-in-Err-clause-stops g c = λ input old size failures writer left came accepts few.
    rw (c.stop_at.ensures, c.take_record.ensures.record) (next_stops c.args.dialect _ _ _ _ _ _ _ _ left came accepts few _ _
    (c.in-Err.ensures.refused input _ _ came.read))

pub returns-in-Ok-clause-counted : goal.returns-in-Ok-clause-counted
returns-in-Ok-clause-counted g c =
    counts_up c.in-Ok.has_row c.args.rows.now.count c.next.new.self.count c.in-Ok.ensures.counted c.in-Ok.ensures.stayed
