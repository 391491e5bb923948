use Rattle.std.proofs.Common.{◌∙◌, ap, sym}
use Rattle.ipc_text_csv.specs.StrictReaders.{state_of}
use Rattle.ipc_text_csv.specs.declared.record_reader.RecordReader.TheVariants.{Csv, Strict}
use Rattle.ipc_text_csv.proofs.NextRow.{stands_kept}
use Rattle.ipc_text_csv.proofs.Reading.{leaves_all, strict_source}
use Rattle.ipc_text_csv.proofs.record_reader.RecordReader.new.Goals as goal

pub returns-then-is_strict-clause-stands : goal.returns-then-is_strict-clause-stands
returns-then-is_strict-clause-stands g c = λ known kept.
    let strict = sym c.is_strict.ensures ∙ c.if-is_strict.true in
    stands_kept c.args.dialect g.R.Read.remaining known (g.R.Read.remaining c.args.input) (Strict c.new.result) kept
    (leaves_all c.args.dialect _ _ _ (ap state_of c.new.ensures.start)
    (c.new.ensures.left ∙ strict_source c.args.dialect (g.R.Read.remaining c.args.input) strict))

pub returns-clause-stands : goal.returns-clause-stands
returns-clause-stands g c = λ known kept.
    stands_kept c.args.dialect g.R.Read.remaining known (g.R.Read.remaining c.args.input) (Csv c.csv_reader.result) kept
    c.csv_reader.ensures.stands
