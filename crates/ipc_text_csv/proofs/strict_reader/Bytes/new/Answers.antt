use Rattle.csv.proofs.ReadFacts.{prepend-nil}
use Rattle.ipc_text_csv.proofs.strict_reader.Bytes.new.Goals as goal

pub returns : goal.returns
returns g c = record { left = prepend-nil (g.R.Read.remaining c.args.input) }
