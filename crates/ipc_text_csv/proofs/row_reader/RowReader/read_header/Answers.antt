use Rattle.std.proofs.Common.{[]}
use Rattle.std.proofs.lemmas.Result.{err_from_is_err_and}
use Rattle.ipc_text_csv.specs.declared.row_reader.RowReader.{RowReader}
use Rattle.ipc_text_csv.proofs.NextRow.{header_read, no_header}
use Rattle.ipc_text_csv.proofs.Reading.{found_one}
use Rattle.ipc_text_csv.proofs.row_reader.RowReader.read_header.Goals as goal

pub returns-clause-finds : goal.returns-clause-finds
returns-clause-finds g c = λ d input set stands none.
    let one = found_one d g.R.Read.remaining input [] c.next_record.new.self _ _ c.if-not-branch.false
    (c.in_ok-next_record.ensures.finds d set input [] stands) in
    header_read d g.R.Read.remaining input c.args.schema.now _ _ c.requires.flat c.in_ok-check_header.ensures.names.1 one none

pub returns-in_err-check_header-clause-finds : goal.returns-in_err-check_header-clause-finds
returns-in_err-check_header-clause-finds g c = λ d input set stands none.
    let p = err_from_is_err_and c.from_residual-in_err-check_header.result c.from_residual-in_err-check_header.ensures.1 in
    let one = found_one d g.R.Read.remaining input [] c.next_record.new.self _ _ c.if-not-branch.false
    (c.in_ok-next_record.ensures.finds d set input [] stands) in
    let now : RowReader g.row.R.Denot = record {
      reader = c.next_record.new.self;
      fields = c.next_record.new.fields;
      row = c.args.self.now.row;
      count = c.args.self.now.count;
    } in
    rw (p.1, p.2) (no_header d g.R.Read.remaining input c.args.schema.now now c.in_err-check_header.field-0.0 one
    c.in_err-check_header.ensures.refused)
