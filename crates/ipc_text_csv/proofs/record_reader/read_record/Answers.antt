use Rattle.ipc_text_csv.proofs.Reading.{strict_answers, strict_refuses}
use Rattle.ipc_text_csv.proofs.record_reader.read_record.Goals as goal

pub returns-in-Csv-clause-finds : goal.returns-in-Csv-clause-finds
returns-in-Csv-clause-finds g c = rw c.in-Csv.is (λ d set. c.read_csv.ensures.finds d set)

pub returns-in-Strict-clause-finds : goal.returns-in-Strict-clause-finds
returns-in-Strict-clause-finds g c = rw c.in-Strict.is
    (λ d set. strict_answers c.args.number d _ _ _ _ _ c.read_record.result set.1 (rw set.0 at c.read_record.ensures.reads))

pub returns-in-Strict-clause-stopped : goal.returns-in-Strict-clause-stopped
returns-in-Strict-clause-stopped g c = rw c.in-Strict.is
    (strict_refuses c.args.number _ _ _ _ _ _ c.read_record.result c.read_record.ensures.reads)
