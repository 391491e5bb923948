use Rattle.std.proofs.Common.{◌∷◌, ◌+◌, length, refl, rules}
use Rattle.csv.specs.Records.{fields_of}
use Rattle.ipc_text_csv.specs.RowCsv.{names}
use Rattle.ipc_text_csv.proofs.Reading.{found_one}
use Rattle.ipc_text_csv.proofs.NextRow.{finds_row, row_stops}
use Rattle.ipc_text_csv.proofs.row_reader.RowReader.next.Goals as goal

pub returns-clause-finds : goal.returns-clause-finds
returns-clause-finds g c = λ input records rows has.
    let stands = found_one c.args.dialect g.R.Read.remaining input (names c.args.schema.now.fields ∷ records) c.next_record.new.self _ _
    c.if-not-branch.false (c.in_ok-next_record.ensures.finds c.args.dialect c.requires.set_up input _ has.stands) in
    finds_row c.args.dialect g.R.Read.remaining input c.args.schema.now records rows c.args.self.now _ _ has stands (search rules)
    c.in_ok-fill_row_from_csv.ensures.read

pub returns-then-not-branch-clause-set_up : goal.returns-then-not-branch-clause-set_up
returns-then-not-branch-clause-set_up g c = c.in_ok-next_record.ensures.set_up c.args.dialect c.requires.set_up

pub returns-clause-set_up : goal.returns-clause-set_up
returns-clause-set_up g c = c.in_ok-next_record.ensures.set_up c.args.dialect c.requires.set_up

pub returns-in_default-clause-refused : goal.returns-in_default-clause-refused
returns-in_default-clause-refused g c = λ input records rows has.
    row_stops c.args.dialect input c.args.schema.now records (fields_of c.args.self.now.fields) (length records + 1) c.stop.result refl
    (c.stop.ensures.stopped c.args.dialect input (names c.args.schema.now.fields ∷ records) (length records + 1))
