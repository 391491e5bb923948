use Rattle.job_print.specs.LentRows.{row_at}
use Rattle.job_print.proofs.texts.RecordEnds.{row_record}
use Rattle.job_print.proofs.csv_row.csv_line.Goals as goal

pub returns-clause-ok : goal.returns-clause-ok
returns-clause-ok c = row_record c.args.dialect.now c.args.fields.now (row_at c.args.columns.now c.args.row) c.args.out.now.text _ _
    c.requires.fits c.in_ok-put_cells.ensures.ok (rw c.len-start.ensures at c.in_ok-put_end.ensures c.args.dialect.now.delimiter)
