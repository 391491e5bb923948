use Rattle.ipc_text_csv.proofs.Reading.{finds_next}
use Rattle.ipc_text_csv.proofs.record_reader.read_csv.Goals as goal

pub returns-clause-finds : goal.returns-clause-finds
returns-clause-finds g c = λ d set input records stands.
    finds_next d g.R.Read.remaining input records c.args.reader.now c.read_byte_record.new.self c.in-Ok.has_record _ set.config set.lenient
    (c.in-Ok.ensures.reads set.trim set.ready) stands
