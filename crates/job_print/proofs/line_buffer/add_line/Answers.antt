use Rattle.job_print.proofs.texts.RecordEnds.{record_line, record_there}
use Rattle.job_print.proofs.line_buffer.add_line.Goals as goal

pub returns-in-Records-clause-text : goal.returns-in-Records-clause-text
returns-in-Records-clause-text c = rw c.in-Records.is (record_line c.csv_line.result _ _ _ c.csv_line.ensures.ok)

pub returns-in-Records-clause-ok : goal.returns-in-Records-clause-ok
returns-in-Records-clause-ok c = rw c.in-Records.is (record_there c.csv_line.result _ _ _ c.csv_line.ensures.ok)
