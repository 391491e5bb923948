use Rattle.std.proofs.Common.{◌∙◌}
use Rattle.ipc_text_csv.proofs.Reading.{leaves_all, lenient_source}
use Rattle.ipc_text_csv.proofs.record_reader.csv_reader.Goals as goal

pub returns-clause-stands : goal.returns-clause-stands
returns-clause-stands g c = leaves_all c.args.dialect _ _ _ c.from_reader.ensures.state
    (c.from_reader.ensures.source ∙ lenient_source c.args.dialect (g.R.Read.remaining c.args.input) c.requires.lenient)
