use Rattle.job_command.proofs.Lifted.{csv_answers}
use Rattle.job_command.proofs.running.csv_job.Goals as goal

pub returns-clause-answers : goal.returns-clause-answers
returns-clause-answers g c =
    let read = rw c.in-Ok.is at c.read_schema-schema.ensures.read in
    let works = rw c.in-Ok.is at c.read_schema-schema.ensures.works in
    csv_answers _ _ _ _ _ _ _ _ _ _ _ _ c.from_csv-result.result.0 _ read works c.csv_result.ensures
    c.from_csv-result.ensures.converts c.from_csv-result.ensures.stopped
    c.from_csv-result.ensures.source c.from_csv-result.ensures.sink
