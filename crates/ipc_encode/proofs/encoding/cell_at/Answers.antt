use Rattle.std.proofs.Common.{[], sym, get_or}
use Rattle.std.proofs.lemmas.Option.{get_or_from_slice_get}
use Rattle.ipc_model.specs.declared.value.Value.TheVariants.{Null}
use Rattle.ipc_encode.proofs.Copied.{no_cell}
use Rattle.ipc_encode.proofs.encoding.cell_at.Goals as goal

pub returns-then-column-columns-clause-value : goal.returns-then-column-columns-clause-value
returns-then-column-columns-clause-value c =
    no_cell c.columns.result c.args.column c.args.row c.args.batch.now.rows c.columns.ensures.rows c.if-column-columns.true

pub returns-clause-value : goal.returns-clause-value
returns-clause-value c = sym (get_or_from_slice_get (get_or c.args.batch.now.rows c.args.row []) c.args.column _ Null
    c.in_ok-read_cell.ensures)
